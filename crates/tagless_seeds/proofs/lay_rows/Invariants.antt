-- What the loops of `tagless_seeds::lay_rows` keep true. Assumes nothing.
use Prim.Native.Nat.{◌≤◌}
use mathlib.Core.Path.{◌≡◌}
use mathlib.Core.List.{◌++◌}
use lib.ListN.{length, take, drop}
use Rattle.tagless_seeds.specs.Rows.{rows_under}
use Rattle.tagless_seeds.proofs.lay_rows.Given as goal

abbrev pub invariant-loop-i : goal.invariant-loop-i
invariant-loop-i l = (l.i ≤ length l.tags) × (l.rows ≡ rows_under (take l.i l.tags) l.seed ++ drop l.i l.initial.rows)
