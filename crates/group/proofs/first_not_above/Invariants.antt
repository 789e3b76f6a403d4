-- What the loops of `group::first_not_above` keep true. Assumes nothing.
use mathlib.Core.Path.{◌≡◌}
use mathlib.Core.Bool.{false}
use Prim.Native.Nat.{ℕ, ◌<◌}
use Rattle.group.specs.Ascending.{not_above}
use Rattle.group.proofs.first_not_above.Given as goal

abbrev pub invariant-loop-i : goal.invariant-loop-i
invariant-loop-i l = (0 < l.i) × ((j : ℕ) → j < l.i → not_above l.tags j ≡ false)
