-- `sequence::worked::word_of_two_fillings` meets its contract: by the promise of `choices_taken` the answer is the word that the
-- definition computes to. Assumes nothing.
use Prim.Native.Nat.{ℕ, zero, suc, ◌*◌, ◌<◌}
use mathlib.Core.Path.{◌≡◌, refl, ◌∙◌}
use mathlib.Core.Bool.{Bool, true, false}
use mathlib.Core.List.{List}
use Rattle.std.specs.Prelude.{None, Some, option_map}
use native.Mathlib.Omega.{arith}
use lib.ListN.{replicate, set}
use Rattle.refusal.specs.Limits.{group_max}
use Rattle.lists.specs.UpTo.{up_to}
use Rattle.lists.specs.Occurs.{occurs}
use Rattle.filling.specs.Filling.{place_by}
use Rattle.filling.specs.Least.{beginning}
use Rattle.filling.specs.Order.{ones}
use Rattle.filling.specs.Taken.{fewer_ones, taken_from, sequence_taken}
use Rattle.filling.specs.Word.{choice_number, word_of}
use Rattle.places.specs.Array.{entry_of, Candidates, keys_of}
use Rattle.sequence.proofs.worked.word_of_two_fillings.Goals as goal

-- The array of the two keys.
abbrev places : List ℕ
places = set (set (replicate (2 * group_max) 0) group_max 1) (suc group_max) 1

candidates : Candidates places 2
unfolding entry_of
candidates = record { size = refl; below = below }
  where
    below : (i : ℕ) → i < 2 → (choice : Bool) → entry_of places i choice < group_max
    below zero lt false = omega arith
    below zero lt true = omega arith
    below (suc zero) lt false = omega arith
    below (suc zero) lt true = omega arith
    below (suc (suc i)) lt choice = absurd (omega arith)

computed : option_map word_of (sequence_taken (keys_of 2 places)) ≡ Some 2
unfolding up_to entry_of keys_of sequence_taken taken_from beginning fewer_ones ones occurs place_by word_of choice_number
computed = refl

same : {x y : ℕ} → Some x ≡ Some y → x ≡ y
same e = cc

never : {x : ℕ} → None ≡ Some x → ⊥
never e = let z : ◌≡◌ {A = ℕ} 0 1 = cc in omega arith

pub choices_taken-requires : goal.choices_taken-requires
choices_taken-requires c = (omega arith, candidates)

pub returns-in-Some : goal.returns-in-Some
returns-in-Some c =
    let promised = rw c.in-Some.is at c.choices_taken.ensures.answer in
    record { answer = same (promised ∙ computed) }

pub returns-in-None : goal.returns-in-None
returns-in-None c =
    let promised = rw c.in-None.is at c.choices_taken.ensures.answer in
    record { answer = absurd (never (promised ∙ computed)) }
