-- What bytes read as, taken for an index without tags. Its lines are seen through the view that images with slots have, so that starts,
-- ends, seeds and faults are the same definitions; a word is all that is new. Assumes nothing.
use Rattle.std.specs.Prelude.{ℕ, zero, suc, ◌+◌, ◌*◌, List, length, take, drop, Option, None, unwrap_or, option_map}
use Rattle.text.specs.Line.{line_length, line_at, image_header}
use Rattle.word_line.specs.WordLine.{word_line_length, group_word_line, start_and_seed}
use Rattle.image.specs.View.{View}

-- The line of group g, or what there is of it: behind line 0, 21 bytes for each group.
unfoldable pub group_line_at : ℕ → List ℕ → List ℕ
group_line_at g bytes = take word_line_length (drop (line_length + word_line_length * g) bytes)

-- What line k states of a group; none is malformed. Line 1 + g is group g's, and line 0 is no group's.
unfoldable pub stated_at : List ℕ → ℕ → Option (ℕ × ℕ × ℕ)
stated_at bytes zero = None
stated_at bytes (suc g) = group_word_line (group_line_at g bytes)

-- The length, line 0, and line k as a group line: malformed if its word is. There are no slot lines.
unfoldable pub tagless_view : List ℕ → View
tagless_view bytes = record {
  size = length bytes;
  header = image_header (line_at 0 bytes);
  group_at = λ k. option_map start_and_seed (stated_at bytes k);
  slot_at = λ k. None;
}

-- The word of group g. Where its line is malformed it is 0, and an earlier check has refused.
unfoldable pub word_in : List ℕ → ℕ → ℕ
word_in bytes g = (unwrap_or (stated_at bytes (suc g)) (0, 0, 0)).2
