-- What is owed of a lookup in a checked index without tags, derived from the record, one sentence for each of its fields. Assumes nothing.
use Rattle.std.specs.Prelude.{◌≡◌, ◌⊎◌, ◌↔◌, List, ℕ, ◌<◌}
use Rattle.refusal.specs.Limits.{unwired}
use Rattle.refusal.specs.Outcome.{Outcome, answered}
use Rattle.hash.specs.Formula.{group_of}
use Rattle.image.specs.View.{View, count_in, groups_in, start_in, end_in}
use Rattle.image.specs.Lookup.{Found, number, unknown}
use Rattle.tagless_image.specs.View.{tagless_view}
use Rattle.tagless_image.specs.Checking.{tagless_checking_of}
use Rattle.tagless_lookup.specs.Checked.{TaglessCondition2}

module _ {image : List ℕ} {t : ℕ} {outcome : Outcome Found} (c : TaglessCondition2 image t outcome)
    {a : ℕ} (accepted : tagless_checking_of image ≡ answered a) where
  abbrev v : View
  v = tagless_view image

  abbrev own : ℕ
  own = group_of (groups_in v) t

  -- "a stranger's number is below N", and so is any.
  pub number-below : (j : ℕ) → outcome ≡ answered (number j) → j < count_in v
  number-below = c.below accepted

  -- "unknown in an empty group and for tag 0", and for no other tag.
  pub unknown-exactly : (outcome ≡ answered unknown) ↔ ((t ≡ unwired) ⊎ (start_in v own ≡ end_in v own))
  unknown-exactly = c.misses accepted

  -- Every other tag has a number.
  pub number-otherwise : (((t ≡ unwired) ⊎ (start_in v own ≡ end_in v own)) → ⊥) → (j : ℕ) × (outcome ≡ answered (number j))
  number-otherwise = c.finds accepted
