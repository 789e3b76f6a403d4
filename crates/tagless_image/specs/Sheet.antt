-- The image of an index without tags: its lines and bytes. Document 02, §5. Assumes nothing.
use Rattle.std.specs.Prelude.{ℕ, ◌+◌, ◌*◌}
use mathlib.Core.List.{List, ◌++◌, flatten}
use Rattle.lists.specs.UpTo.{up_to}
use Rattle.text.specs.Line.{line_length, pair_line}
use Rattle.word_line.specs.WordLine.{word_line_length, word_line}

-- The numbers that it states: N, B, and the start, the seed and the word of each group.
pub record TaglessSheet : Type 0 where
  pub count : ℕ
  pub groups : ℕ
  pub start : ℕ → ℕ
  pub seed : ℕ → ℕ
  pub word : ℕ → ℕ

-- "Line 0 is as before": N in five columns, B in five.
abbrev pub header_line_of : TaglessSheet → List ℕ
header_line_of s = pair_line s.count s.groups

-- "Each group line has start and seed in five columns each, a word in ten columns …, and a line feed". Line 1 + g is group g's.
abbrev pub group_line_of : TaglessSheet → ℕ → List ℕ
group_line_of s g = word_line (s.start g) (s.seed g) (s.word g)

-- "No slot lines follow".
unfoldable pub tagless_bytes : TaglessSheet → List ℕ
tagless_bytes s = header_line_of s ++ flatten (up_to s.groups (group_line_of s))

-- "so the length is 11 + 21 × B."
unfoldable pub tagless_length : ℕ → ℕ
tagless_length groups = line_length + word_line_length * groups
