-- The image that arrays state. Assumes nothing.
use Rattle.std.specs.Prelude.{ℕ, zero, suc, ◌-◌, ◌≤◌, ◌<◌, cond, List, ltb, length, get_or}
use Rattle.refusal.specs.Limits.{tags_max, groups_max}
use Rattle.text.specs.Line.{pair_line, tag_line}
use Rattle.image.specs.Sheet.{Sheet, image_length}
use Rattle.numbering.specs.Parts.{part_start}

-- The numbers that the arrays state: group g begins where the group before it ends; its seed is entry g of the seeds, and the tag of
-- slot j is entry j of the slots.
unfoldable pub stated_sheet : List ℕ → List ℕ → List ℕ → ℕ → ℕ → Sheet
stated_sheet ends seeds slots groups count = record {
  count = count;
  groups = groups;
  start = λ g. part_start ends g;
  seed = λ g. get_or seeds g 0;
  slot = λ j. get_or slots j 0;
}

-- Line k of its image: line 0, a group's line or a slot's.
unfoldable pub stated_line : List ℕ → List ℕ → List ℕ → ℕ → ℕ → ℕ → List ℕ
stated_line ends seeds slots groups count zero = pair_line count groups
stated_line ends seeds slots groups count (suc g) =
    cond (ltb g groups) (pair_line (part_start ends g) (get_or seeds g 0)) (tag_line (get_or slots (g - groups) 0))

-- No group ends past the greatest number of tags.
abbrev pub EndsSmall : List ℕ → ℕ → Type 0
EndsSmall ends groups = (g : ℕ) → g < groups → get_or ends g 0 ≤ tags_max

-- The arrays have what is to be written, the numbers are in their ranges, and the buffer has room.
pub record Writable (ends seeds slots : List ℕ) (groups count room : ℕ) : Type 0 where
  pub ends-known : groups ≤ length ends
  pub seeds-known : groups ≤ length seeds
  pub slots-known : count ≤ length slots
  pub few-groups : groups ≤ groups_max
  pub few-slots : count ≤ tags_max
  pub ends-small : EndsSmall ends groups
  pub room-enough : image_length groups count ≤ room
