-- The groups of a checked image, by the cells that hold its numbers. Assumes nothing.
use Rattle.std.specs.Prelude.{ℕ, ◌+◌, ◌-◌, ◌≤◌, ◌<◌, Bool, List, length, get_or, take, drop}
use Rattle.refusal.specs.Limits.{tags_max, groups_max}
use Rattle.strict.specs.AsBuilt.{differs}
use Rattle.strict.specs.Servable.{Servable}

-- The slots of group g: from its start to the next one, which for the last group is N.
abbrev pub slots_at : List ℕ → List ℕ → ℕ → List ℕ
slots_at starts tags g = take (get_or starts (g + 1) 0 - get_or starts g 0) (drop (get_or starts g 0) tags)

-- Group g differs from what building gives its tags.
abbrev pub differs_at : List ℕ → List ℕ → List ℕ → ℕ → Bool
differs_at starts seeds tags g = differs (get_or seeds g 0) (slots_at starts tags g)

-- Each group's slots lie within the tags, and its seed serves them.
pub record AllServable (starts seeds tags : List ℕ) (groups : ℕ) : Type 0 where
  pub groups-legal : groups ≤ groups_max
  pub tags-legal : length tags ≤ tags_max
  pub ascends : (g : ℕ) → g < groups → get_or starts g 0 ≤ get_or starts (g + 1) 0
  pub inside : (g : ℕ) → g < groups → get_or starts (g + 1) 0 ≤ length tags
  pub servable : (g : ℕ) → g < groups → Servable (get_or seeds g 0) (slots_at starts tags g)
