-- How an index without tags opens: 11, 12 and 11. Assumes nothing.
use Rattle.std.specs.Prelude.{ℕ, ◌≤◌, ◌≡◌, List, length}
use Rattle.refusal.specs.Limits.{tags_max, groups_max}
use Rattle.refusal.specs.Outcome.{Outcome}
use Rattle.image.specs.View.{count_in, groups_in}
use Rattle.opening.specs.Opened.{opened_for}
use Rattle.tagless_image.specs.Sheet.{tagless_length}
use Rattle.tagless_image.specs.View.{tagless_view}

-- N and B, or the refusal.
unfoldable pub tagless_opening_of : List ℕ → Outcome (ℕ × ℕ)
tagless_opening_of image = let v = tagless_view image in opened_for (tagless_length (groups_in v)) v

-- What an image that opens is.
pub record TaglessOpens (image : List ℕ) (count groups : ℕ) : Type 0 where
  pub size : length image ≡ tagless_length groups
  pub count-is : count_in (tagless_view image) ≡ count
  pub groups-is : groups_in (tagless_view image) ≡ groups
  pub count-legal : count ≤ tags_max
  pub groups-some : 1 ≤ groups
  pub groups-legal : groups ≤ groups_max
