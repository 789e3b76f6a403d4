-- The group lines of an index without tags: document 02, §5. Assumes nothing.
use Rattle.std.specs.Prelude.{ℕ, ◌&&◌, List, [], ◌∷◌, ◌++◌, leb, ltb, take, drop, Option, None, Some}
use Rattle.refusal.specs.Limits.{tag_end, seed_max}
use Rattle.text.specs.Figure.{figure}
use Rattle.text.specs.Field.{field}
use Rattle.text.specs.Line.{both_fields, tag_of, within}

-- "Each group line has start and seed in five columns each, a word in ten columns …, and a line feed, 21 bytes."
abbrev pub word_line_length : ℕ
word_line_length = 21

unfoldable pub word_line : ℕ → ℕ → ℕ → List ℕ
word_line start seed word = figure 5 start ++ figure 5 seed ++ figure 10 word ++ (10 ∷ [])

-- Two numbers and a third.
unfoldable pub and_third : Option (ℕ × ℕ) → Option ℕ → Option (ℕ × ℕ × ℕ)
and_third None third = None
and_third (Some pair) None = None
and_third (Some pair) (Some c) = Some (pair.0, pair.1, c)

-- What a line reads as, before any range is asked for: two fields of five columns, and behind them what a tag's line is, ten columns and
-- a line feed.
unfoldable pub triple_of : List ℕ → Option (ℕ × ℕ × ℕ)
triple_of line = and_third (both_fields (field 5 (take 5 line)) (field 5 (take 5 (drop 5 line)))) (tag_of (drop 10 line))

-- The start, the seed and the word of a group line, or none where it is malformed: a seed is at most 65,535, and a word "malformed
-- above 4,294,967,295". A start is bounded by its columns only.
unfoldable pub group_word_line : List ℕ → Option (ℕ × ℕ × ℕ)
group_word_line line = within (λ h. leb h.1 seed_max && ltb h.2 tag_end) (triple_of line)

-- What a line states but for its word.
abbrev pub start_and_seed : ℕ × ℕ × ℕ → ℕ × ℕ
start_and_seed line = (line.0, line.1)
