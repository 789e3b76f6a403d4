-- Condition 2, of an answer: what a lookup in a checked image says. Assumes nothing.
use Rattle.std.specs.Prelude.{◌≡◌, ◌↔◌, List, ℕ}
use Rattle.refusal.specs.Outcome.{Outcome, answered}
use Rattle.image.specs.Checking.{checking_of}
use Rattle.image.specs.Lookup.{Found, number, unknown}
use Rattle.image.specs.Holds.{SlotHolds}

-- "Looking up a tag in a checked image gives the number that the image states for it, or 'unknown' if the image has no such tag."
pub record Condition2 (image : List ℕ) (t : ℕ) (outcome : Outcome Found) : Type 0 where
  pub finds : {a : ℕ} → checking_of image ≡ answered a → (j : ℕ) → (outcome ≡ answered (number j)) ↔ SlotHolds image j t
  pub misses : {a : ℕ} → checking_of image ≡ answered a → (outcome ≡ answered unknown) ↔ ((j : ℕ) → SlotHolds image j t → ⊥)
