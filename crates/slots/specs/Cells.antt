-- What the cells that checking reads an image into hold. Assumes nothing.
use Rattle.std.specs.Prelude.{ℕ, ◌+◌, ◌-◌, ◌≤◌, ◌<◌, List, get_or, Some}
use Rattle.refusal.specs.Limits.{groups_max, seed_max, tags_max}
use Rattle.image.specs.Sheet.{image_length}
use Rattle.image.specs.View.{View}
use Rattle.image.specs.Fair.{Fair}

-- The image with the numbers in the cells: cell g of the starts and of the seeds is group g's, cell B of the starts is N, and cell j
-- of the tags is slot j's.
unfoldable pub cells_view : List ℕ → List ℕ → List ℕ → ℕ → View
cells_view starts seeds tags groups = record {
  size = image_length groups (get_or starts groups 0);
  header = Some (get_or starts groups 0, groups);
  group_at = λ k. Some (get_or starts (k - 1) 0, get_or seeds (k - 1) 0);
  slot_at = λ k. Some (get_or tags (k - (1 + groups)) 0);
}

-- The numbers of the groups are in their ranges.
pub record Legal (starts seeds : List ℕ) (groups : ℕ) : Type 0 where
  pub groups-some : 1 ≤ groups
  pub groups-legal : groups ≤ groups_max
  pub count-legal : get_or starts groups 0 ≤ tags_max
  pub seeds-legal : (g : ℕ) → g < groups → get_or seeds g 0 ≤ seed_max

-- And no group is faulty.
pub record Regular (starts seeds : List ℕ) (groups : ℕ) : Type 0 where
  pub legal : Legal starts seeds groups
  pub fair : (g : ℕ) → g < groups → Fair g (get_or starts g 0) (get_or starts (g + 1) 0)

-- Slot j lies in group g, and the group's numbers are in their ranges.
pub record InGroup (starts seeds : List ℕ) (groups g j : ℕ) : Type 0 where
  pub group : g < groups
  pub groups-legal : groups ≤ groups_max
  pub from : get_or starts g 0 ≤ j
  pub below : j < get_or starts (g + 1) 0
  pub end-legal : get_or starts (g + 1) 0 ≤ tags_max
  pub seed-legal : get_or seeds g 0 ≤ seed_max
