-- When a group's tags can be put in the order of their places, and the slots of all groups. Assumes nothing.
use Rattle.std.specs.Prelude.{ℕ, ◌≤◌, ◌<◌, ◌≡◌, Bool, true, not, length, get_or, drop}
use mathlib.Core.List.{List, ◌++◌, flatten}
use Rattle.refusal.specs.Limits.{group_max, seed_max}
use Rattle.lists.specs.Occurs.{distinct}
use Rattle.filling.specs.Least.{feasible}
use Rattle.filling.specs.Word.{word_of}
use Rattle.group.specs.Group.{group_under, taken}
use Rattle.lists.specs.UpTo.{up_to}
use Rattle.numbering.specs.Parts.{part_start, part_of, Parts}
use Rattle.numbering.specs.GroupSlots.{group_slots}

-- A group that some sequence fills under the seed, the word of the sequence taken, and as many cells as there are tags.
-- The empty group is one.
pub record Arrangeable (part : List ℕ) (seed word room : ℕ) : Type 0 where
  pub few : length part ≤ group_max
  pub seed-legal : seed ≤ seed_max
  pub differ : distinct part ≡ true
  pub filled : feasible (group_under part seed) ≡ true
  pub word-is : word ≡ word_of (taken part seed)
  pub room-is : room ≡ length part

-- The slots of group g, under its seed and the sequence taken.
unfoldable pub slots_of_part : List ℕ → List ℕ → List ℕ → ℕ → List ℕ
slots_of_part ordered ends seeds g =
    let part = part_of ordered ends g in
    group_slots part (get_or seeds g 0) (taken part (get_or seeds g 0))

-- The slots of the first groups, one group's after the other's.
unfoldable pub all_slots : List ℕ → List ℕ → List ℕ → ℕ → List ℕ
all_slots ordered ends seeds groups = flatten (up_to groups (slots_of_part ordered ends seeds))

-- The cells with the slots of the first groups; the other cells are as they were.
unfoldable pub slots_into : List ℕ → List ℕ → List ℕ → ℕ → List ℕ → List ℕ
slots_into ordered ends seeds groups before = all_slots ordered ends seeds groups ++ drop (part_start ends groups) before

-- No sequence fills the group's part under its seed.
unfoldable pub unfilled_part : List ℕ → List ℕ → List ℕ → ℕ → Bool
unfilled_part ordered ends seeds g = not (feasible (group_under (part_of ordered ends g) (get_or seeds g 0)))

-- Parts of different tags, no more than a group holds, a legal seed for each, and cells for all of them.
pub record AllArrangeable (groups : ℕ) (ordered ends seeds : List ℕ) (room : ℕ) : Type 0 where
  pub parts : Parts groups ordered ends
  pub seeds-known : groups ≤ length seeds
  pub seeds-legal : (g : ℕ) → g < groups → get_or seeds g 0 ≤ seed_max
  pub few : (g : ℕ) → g < groups → length (part_of ordered ends g) ≤ group_max
  pub differ : (g : ℕ) → g < groups → distinct (part_of ordered ends g) ≡ true
  pub room-enough : length ordered ≤ room
