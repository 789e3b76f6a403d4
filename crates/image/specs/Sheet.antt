-- The image: its lines and bytes. Assumes nothing.
use Rattle.std.specs.Prelude.{ℕ, ◌+◌, ◌*◌}
use mathlib.Core.List.{List, ◌∷◌, ◌++◌, flatten}
use Rattle.refusal.specs.Limits.{tags_max, groups_max}
use Rattle.lists.specs.UpTo.{up_to}
use Rattle.text.specs.Line.{line_length, pair_line, tag_line}

-- The numbers that an image states: N, B, the start and the seed of each group, the tag of each slot.
pub record Sheet : Type 0 where
  pub count : ℕ
  pub groups : ℕ
  pub start : ℕ → ℕ
  pub seed : ℕ → ℕ
  pub slot : ℕ → ℕ

-- "Line 0: N in five columns, B in five."
abbrev pub header_line_of : Sheet → List ℕ
header_line_of s = pair_line s.count s.groups

-- "Line 1 + g: the start of group g in five columns, its seed in five."
abbrev pub group_line_of : Sheet → ℕ → List ℕ
group_line_of s g = pair_line (s.start g) (s.seed g)

-- "Line 1 + B + j: in ten columns, the tag whose number is j."
abbrev pub slot_line_of : Sheet → ℕ → List ℕ
slot_line_of s j = tag_line (s.slot j)

-- The lines one after the other, and the bytes of them all.
unfoldable pub lines_of : Sheet → List (List ℕ)
lines_of s = header_line_of s ∷ (up_to s.groups (group_line_of s) ++ up_to s.count (slot_line_of s))

unfoldable pub bytes_of : Sheet → List ℕ
bytes_of s = flatten (lines_of s)

-- "The length is 11 × (1 + B + N), at most 50,699 bytes."
unfoldable pub image_length : ℕ → ℕ → ℕ
image_length groups count = line_length * (1 + groups + count)

-- The most: that of 4,096 tags in 512 groups.
unfoldable pub longest_image : ℕ
longest_image = image_length groups_max tags_max
