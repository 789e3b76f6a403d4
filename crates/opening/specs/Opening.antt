-- The checks that checking and lookup begin with, as a step of its own. Assumes nothing.
use Rattle.std.specs.Prelude.{ℕ, ◌+◌, ◌*◌, ◌≤◌, ◌≡◌, List, length}
use Rattle.refusal.specs.Limits.{tags_max, groups_max}
use Rattle.refusal.specs.Outcome.{Outcome}
use Rattle.text.specs.Line.{line_length}
use Rattle.image.specs.View.{view_of, count_in, groups_in}
use Rattle.image.specs.Sheet.{image_length}
use Rattle.opening.specs.Opened.{opened_for}

-- "11: fewer than 11 bytes. 12 at place 0: line 0 is malformed. 11: length is not 11 × (1 + B + N)": N and B, or that refusal.
unfoldable pub opening_of : List ℕ → Outcome (ℕ × ℕ)
opening_of image = let v = view_of image in opened_for (image_length (groups_in v) (count_in v)) v

-- What an image that opens is.
pub record Opens (image : List ℕ) (count groups : ℕ) : Type 0 where
  pub size : length image ≡ line_length * (1 + groups + count)
  pub count-is : count_in (view_of image) ≡ count
  pub groups-is : groups_in (view_of image) ≡ groups
  pub count-legal : count ≤ tags_max
  pub groups-some : 1 ≤ groups
  pub groups-legal : groups ≤ groups_max
