-- What a lookup in a checked index without tags says, in place of Condition 2: document 02, §5. Assumes nothing.
use Rattle.std.specs.Prelude.{◌≡◌, ◌⊎◌, ◌↔◌, List, ℕ, ◌<◌}
use Rattle.refusal.specs.Limits.{unwired}
use Rattle.refusal.specs.Outcome.{Outcome, answered}
use Rattle.hash.specs.Formula.{group_of}
use Rattle.image.specs.View.{count_in, groups_in, start_in, end_in}
use Rattle.image.specs.Lookup.{Found, number, unknown}
use Rattle.tagless_image.specs.View.{tagless_view}
use Rattle.tagless_image.specs.Checking.{tagless_checking_of}

-- Group g of the image is empty.
abbrev pub Empty : List ℕ → ℕ → Type 0
Empty image g = start_in (tagless_view image) g ≡ end_in (tagless_view image) g

-- The tag has no number: it is 0, or its group is empty.
abbrev pub Numberless : List ℕ → ℕ → Type 0
Numberless image t = (t ≡ unwired) ⊎ Empty image (group_of (groups_in (tagless_view image)) t)

-- "every number that lookup answers is below N"; "unknown in an empty group and for tag 0", and a number for every other tag: lookup in a
-- checked image refuses nothing.
pub record TaglessCondition2 (image : List ℕ) (t : ℕ) (outcome : Outcome Found) : Type 0 where
  pub below : {a : ℕ} → tagless_checking_of image ≡ answered a → (j : ℕ) → outcome ≡ answered (number j) → j < count_in (tagless_view image)
  pub misses : {a : ℕ} → tagless_checking_of image ≡ answered a → (outcome ≡ answered unknown) ↔ Numberless image t
  pub finds : {a : ℕ} → tagless_checking_of image ≡ answered a → (Numberless image t → ⊥) → (j : ℕ) × (outcome ≡ answered (number j))
