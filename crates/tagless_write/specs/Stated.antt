-- The index without tags that arrays state. Assumes nothing.
use Rattle.std.specs.Prelude.{ℕ, ◌≤◌, List, length, get_or}
use Rattle.refusal.specs.Limits.{tags_max, groups_max}
use Rattle.numbering.specs.Parts.{part_start}
use Rattle.write.specs.Stated.{EndsSmall}
use Rattle.tagless_image.specs.Sheet.{TaglessSheet, tagless_length}

-- The numbers that the arrays state: group g begins where the group before it ends; its seed and its word are entries g.
unfoldable pub stated_sheet : List ℕ → List ℕ → List ℕ → ℕ → ℕ → TaglessSheet
stated_sheet ends seeds words groups count = record {
  count = count;
  groups = groups;
  start = λ g. part_start ends g;
  seed = λ g. get_or seeds g 0;
  word = λ g. get_or words g 0;
}

-- The arrays have what is to be written, the numbers are in their ranges, and the buffer has room.
pub record Writable (ends seeds words : List ℕ) (groups count room : ℕ) : Type 0 where
  pub ends-known : groups ≤ length ends
  pub seeds-known : groups ≤ length seeds
  pub words-known : groups ≤ length words
  pub few-groups : groups ≤ groups_max
  pub few-tags : count ≤ tags_max
  pub ends-small : EndsSmall ends groups
  pub room-enough : tagless_length groups ≤ room
