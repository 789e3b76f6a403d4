-- What the loops of `weight::weight_of` keep true. Assumes nothing.
use Prim.Native.Nat.{◌≤◌}
use mathlib.Core.Path.{◌≡◌}
use Rattle.filling.specs.Weight.{key_weight, total}
use Rattle.bits.specs.WordBits.{choice_in}
use Rattle.weight.proofs.weight_of.Given as goal

abbrev pub invariant-loop-i : goal.invariant-loop-i
invariant-loop-i l = (l.i ≤ l.count) × (l.sum ≡ total key_weight (choice_in l.word) l.i)
