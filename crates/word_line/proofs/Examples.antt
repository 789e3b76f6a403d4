-- The word's range and the line's end at their edges, by computation. Assumes nothing.
use Rattle.std.specs.Prelude.{◌≡◌, refl, List, [], ◌∷◌, ◌++◌, ℕ, None, Some}
use Rattle.text.specs.Figure.{leading, figure}
use Rattle.text.specs.Field.{value_from, same, field}
use Rattle.text.specs.Line.{ended, both_fields, tag_of, within}
use Rattle.word_line.specs.WordLine.{and_third, triple_of, group_word_line}

-- "    7    9", the start and the seed.
abbrev seven_and_nine : List ℕ
seven_and_nine = 32 ∷ 32 ∷ 32 ∷ 32 ∷ 55 ∷ 32 ∷ 32 ∷ 32 ∷ 32 ∷ 57 ∷ []

-- "4294967295" and "4294967296".
abbrev largest : List ℕ
largest = 52 ∷ 50 ∷ 57 ∷ 52 ∷ 57 ∷ 54 ∷ 55 ∷ 50 ∷ 57 ∷ 53 ∷ []

abbrev too_large : List ℕ
too_large = 52 ∷ 50 ∷ 57 ∷ 52 ∷ 57 ∷ 54 ∷ 55 ∷ 50 ∷ 57 ∷ 54 ∷ []

-- The largest word reads.
largest-word : group_word_line (seven_and_nine ++ largest ++ (10 ∷ [])) ≡ Some (7, 9, 4294967295)
unfolding group_word_line triple_of and_third both_fields tag_of ended within field value_from same figure leading
largest-word = refl

-- One more is malformed, and not 0.
word-too-large : group_word_line (seven_and_nine ++ too_large ++ (10 ∷ [])) ≡ None
unfolding group_word_line triple_of and_third both_fields tag_of ended within field value_from same figure leading
word-too-large = refl

-- Without its line feed a line is malformed.
no-line-feed : group_word_line (seven_and_nine ++ largest) ≡ None
unfolding group_word_line triple_of and_third both_fields tag_of ended within field value_from same figure leading
no-line-feed = refl
