-- What the loops of `labels::part_labels` keep true. Assumes nothing.
use Prim.Native.Nat.{◌≤◌}
use mathlib.Core.Path.{◌≡◌}
use mathlib.Core.List.{◌++◌}
use lib.ListN.{drop}
use Rattle.refusal.specs.Limits.{group_max}
use Rattle.lists.specs.UpTo.{up_to}
use Rattle.graph.specs.Label.{labels_of}
use Rattle.places.specs.Array.{keys_of}
use Rattle.labels.proofs.part_labels.Given as goal

abbrev pub invariant-loop-v : goal.invariant-loop-v
invariant-loop-v l = (l.v ≤ group_max) × (l.labels ≡ up_to l.v (λ u. u) ++ drop l.v l.initial.labels)

abbrev pub invariant-loop-i : goal.invariant-loop-i
invariant-loop-i l = (l.i ≤ l.count) × (l.labels ≡ labels_of group_max (drop l.i (keys_of l.count l.places)))
