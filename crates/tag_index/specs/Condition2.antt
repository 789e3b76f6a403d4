-- Condition 2, of a number answered over the C boundary. Assumes nothing.
use Rattle.std.specs.Prelude.{◌≡◌, List, ℕ}
use Rattle.refusal.specs.Outcome.{answered}
use Rattle.image.specs.Checking.{checking_of}
use Rattle.image.specs.Holds.{SlotHolds}

-- "Looking up a tag in a checked image gives the number that the image states for it, or 'unknown' if the image has no such tag": the
-- answer r is that number, or 4,294,967,295.
pub record AnswerCondition2 (image : List ℕ) (t r : ℕ) : Type 0 where
  pub finds : {a : ℕ} → checking_of image ≡ answered a → (j : ℕ) → SlotHolds image j t → r ≡ j
  pub misses : {a : ℕ} → checking_of image ≡ answered a → ((j : ℕ) → SlotHolds image j t → ⊥) → r ≡ 4294967295
