-- What the loops of `labels::merge` keep true. Assumes nothing.
use Prim.Native.Nat.{◌≤◌}
use mathlib.Core.Path.{◌≡◌}
use Rattle.refusal.specs.Limits.{group_max}
use Rattle.graph.specs.Label.{merged}
use Rattle.labels.specs.LabelsLaws.{changed}
use Rattle.labels.proofs.merge.Given as goal

abbrev pub invariant-loop-cell : goal.invariant-loop-cell
invariant-loop-cell l = (l.cell ≤ group_max) × (l.labels ≡ changed (merged l.into l.from) l.initial.labels l.cell)
