-- The numbers that lookup gives in the whole case without tags, and images at which two refusals are due, by computation. Assumes nothing.
use Rattle.std.specs.Prelude.{◌≡◌, refl, ℕ}
use mathlib.Core.List.{List, [], ◌∷◌, flatten}
use Rattle.std.specs.Int.Count.{ones, ones_in}
use Rattle.refusal.specs.Outcome.{answered, refused}
use Rattle.lists.specs.First.{first, met_at, is_some}
use Rattle.refusal.specs.Checks.{met, in_order}
use Rattle.hash.specs.Formula.{product, high_part, hashed, group_of, multiplier, place_of}
use Rattle.filling.specs.Word.{choice_number}
use Rattle.text.specs.Figure.{leading, figure}
use Rattle.text.specs.Field.{value_from, same, field}
use Rattle.text.specs.Line.{line_at, pair_line, tag_line, ended, both_fields, pair_of, tag_of, within, image_header}
use Rattle.word_line.specs.WordLine.{word_line, and_third, triple_of, group_word_line}
use Rattle.image.specs.View.{count_in, groups_in, start_in, seed_in, end_in, faulty, candidate_in}
use Rattle.image.specs.Checking.{malformed_in}
use Rattle.image.specs.Lookup.{number, unknown, group_checks}
use Rattle.parity.specs.Parity.{parity}
use Rattle.tagless_group.specs.Row.{row_of}
use Rattle.tagless_group.specs.Words.{choice_by}
use Rattle.tagless_image.specs.Sheet.{tagless_length}
use Rattle.tagless_image.specs.View.{group_line_at, stated_at, tagless_view, word_in}
use Rattle.tagless_image.specs.Checking.{tagless_opening, tagless_checks, tagless_checking_of}
use Rattle.tagless_image.specs.Lookup.{tagless_lookup_checks, number_by, tagless_in_group, tagless_lookup_of}

-- `unfolding computed` opens every definition that these compute through.
computed : ℕ
unfolding flatten first met_at is_some met in_order product high_part hashed group_of multiplier place_of choice_number leading
    figure value_from same field line_at pair_line tag_line ended both_fields pair_of tag_of within image_header word_line and_third
    triple_of group_word_line count_in groups_in start_in seed_in end_in faulty candidate_in malformed_in group_checks ones ones_in
    parity row_of choice_by tagless_length group_line_at stated_at tagless_view word_in tagless_opening tagless_checks
    tagless_checking_of tagless_lookup_checks number_by tagless_in_group tagless_lookup_of
computed = 0

-- The whole case: the tags 1, 2 and 3 in two groups. Tag 3 is at its second place: the word 1 says so.
abbrev whole : List ℕ
whole = flatten (pair_line 3 2 ∷ word_line 0 0 0 ∷ word_line 1 1 1 ∷ [])

whole-checked : tagless_checking_of whole ≡ answered 0
unfolding computed
whole-checked = refl

number-of-one : tagless_lookup_of whole 1 ≡ answered (number 1)
unfolding computed
number-of-one = refl

number-of-three : tagless_lookup_of whole 3 ≡ answered (number 2)
unfolding computed
number-of-three = refl

-- The word 4,294,967,296 is malformed: 12 comes before the fault of group 0, whose start is 1.
twelve-before-thirteen : tagless_checking_of (flatten (pair_line 3 2 ∷ word_line 1 0 0 ∷ word_line 1 1 4294967296 ∷ [])) ≡ refused 12 2
unfolding computed
twelve-before-thirteen = refl

-- The group behind the last tag is empty.
empty-unknown : tagless_lookup_of (flatten (pair_line 3 2 ∷ word_line 0 0 0 ∷ word_line 3 1 1 ∷ [])) 3 ≡ answered unknown
unfolding computed
empty-unknown = refl
