-- `tagless_lookup::place_by` meets its contract: the choice is the word's, and is 0 or 1. Assumes nothing.
use Prim.Native.Nat.{◌≤◌}
use mathlib.Core.Bool.{Bool, true, false}
use native.Mathlib.Omega.{arith}
use Rattle.filling.specs.Word.{choice_number}
use Rattle.tagless_lookup.proofs.place_by.Goals as goal

choice-most : (c : Bool) → choice_number c ≤ 1
unfolding choice_number
choice-most false = omega arith
choice-most true = omega arith

pub place_of-requires : goal.place_of-requires
place_of-requires c = (c.requires, rw c.choice_by.ensures.answer (choice-most _))

pub returns : goal.returns
returns c = record { answer = rw (c.place_of.ensures.answer, c.choice_by.ensures.answer) }
