-- The whole case of document 01, and edges that no row of the table touches, by computation from the definitions.
-- Assumes nothing.
use Rattle.std.specs.Prelude.{◌≡◌, refl, ℕ, take, set}
use mathlib.Core.List.{List, [], ◌∷◌, flatten}
use Rattle.std.specs.Option.{option_or}
use Rattle.refusal.specs.Limits.{outside}
use Rattle.refusal.specs.Outcome.{answered, refused, answered_by, followed_by, on_answer}
use Rattle.lists.specs.First.{first, met_at, is_some}
use Rattle.refusal.specs.Checks.{met, in_order}
use Rattle.hash.specs.Formula.{product, high_part, hashed, group_of, multiplier, place_of}
use Rattle.text.specs.Figure.{leading, figure}
use Rattle.text.specs.Field.{value_from, same, field}
use Rattle.text.specs.Line.{line_at, pair_line, tag_line, ended, both_fields, pair_of, tag_of, within, image_header, group_line, slot_line}
use Rattle.text.specs.Line.{list_header, list_line}
use Rattle.lists.specs.Occurs.{occurs, distinct}
use Rattle.filling.specs.Filling.{place_by}
use Rattle.filling.specs.Least.{beginning, least_from, least, feasible}
use Rattle.filling.specs.Word.{choice_number}
use Rattle.filling.specs.Order.{ones}
use Rattle.filling.specs.Taken.{fewer_ones, taken_from, sequence_taken}
use Rattle.group.specs.Group.{both_places, candidates, least_seed, taken}
use Rattle.group.specs.Ascending.{not_above}
use Rattle.group.specs.Unwired.{starts_unwired}
use Rattle.list.specs.Reading.{malformed, line_count, tag_count, tags_from, listed_in, reading_checks, reading_of}
use Rattle.lists.specs.UpTo.{up_to}
use Rattle.image.specs.Sheet.{lines_of, bytes_of, image_length, longest_image}
use Rattle.image.specs.View.{view_of, count_in, groups_in, start_in, seed_in, slot_line_in, slot_in, end_in, faulty, candidate_in}
use Rattle.image.specs.Checking.{opening_checks, malformed_in, group_of_slot, holds_unwired, misplaced, repeated, number_checks}
use Rattle.image.specs.Checking.{checking_checks, checking_of}
use Rattle.image.specs.Lookup.{number, unknown, group_checks, lookup_checks, at_slot, lookup_in_group, lookup_of}
use Rattle.numbering.specs.Members.{select, members, start_of}
use Rattle.numbering.specs.Number.{choice_of, place_in, number_of, tag_numbered}
use Rattle.numbering.specs.Plan.{plan_of, planned_groups, planned_seed}
use Rattle.numbering.specs.Planning.{earlier_checks, planning_checks, planning_of, seed_taken, plan_after}
use Rattle.numbering.specs.Writing.{sheet_of, choices_under, image_under, writing_checks, writing_of}
use Rattle.numbering.specs.Building.{building_of}
use Rattle.numbering.specs.FromText.{list_from_text, building_from_text}
use Rattle.printing.specs.Printing.{image_of_list, output_of, printed}
use Rattle.answer64.specs.Answer64.{answer64, found_number}
use Rattle.tag_index.specs.Calls.{build_answer, check_answer, lookup_answer}

-- `unfolding computed` opens every definition that these compute through.
computed : ℕ
unfolding flatten outside answered_by followed_by first met_at is_some met in_order product high_part hashed
    group_of multiplier place_of leading figure value_from same field line_at pair_line tag_line ended both_fields pair_of tag_of
    within image_header group_line slot_line list_header list_line occurs distinct place_by beginning least_from least feasible
    choice_number ones fewer_ones taken_from sequence_taken
    both_places candidates least_seed taken not_above starts_unwired malformed line_count tag_count tags_from
    listed_in reading_checks reading_of up_to lines_of bytes_of image_length longest_image view_of count_in groups_in start_in seed_in
    slot_line_in slot_in end_in faulty candidate_in opening_checks malformed_in group_of_slot holds_unwired misplaced repeated number_checks
    checking_checks checking_of group_checks lookup_checks at_slot lookup_in_group lookup_of select members start_of choice_of
    place_in number_of tag_numbered on_answer plan_of planned_groups planned_seed earlier_checks planning_checks planning_of seed_taken
    plan_after sheet_of choices_under image_under writing_checks writing_of building_of
    list_from_text building_from_text image_of_list output_of printed answer64 found_number build_answer check_answer lookup_answer
computed = 0

-- "    2    9" and the tags 1, 2, 3, each in a line of its own.
abbrev pub input : List ℕ
input =
    32 ∷ 32 ∷ 32 ∷ 32 ∷ 50 ∷ 32 ∷ 32 ∷ 32 ∷ 32 ∷ 57 ∷ 10
    ∷ 32 ∷ 32 ∷ 32 ∷ 32 ∷ 32 ∷ 32 ∷ 32 ∷ 32 ∷ 32 ∷ 49 ∷ 10
    ∷ 32 ∷ 32 ∷ 32 ∷ 32 ∷ 32 ∷ 32 ∷ 32 ∷ 32 ∷ 32 ∷ 50 ∷ 10
    ∷ 32 ∷ 32 ∷ 32 ∷ 32 ∷ 32 ∷ 32 ∷ 32 ∷ 32 ∷ 32 ∷ 51 ∷ 10
    ∷ []

-- "    3    2", "    0    0", "    1    1" and the tags 2, 1, 3.
abbrev pub output : List ℕ
output =
    32 ∷ 32 ∷ 32 ∷ 32 ∷ 51 ∷ 32 ∷ 32 ∷ 32 ∷ 32 ∷ 50 ∷ 10
    ∷ 32 ∷ 32 ∷ 32 ∷ 32 ∷ 48 ∷ 32 ∷ 32 ∷ 32 ∷ 32 ∷ 48 ∷ 10
    ∷ 32 ∷ 32 ∷ 32 ∷ 32 ∷ 49 ∷ 32 ∷ 32 ∷ 32 ∷ 32 ∷ 49 ∷ 10
    ∷ 32 ∷ 32 ∷ 32 ∷ 32 ∷ 32 ∷ 32 ∷ 32 ∷ 32 ∷ 32 ∷ 50 ∷ 10
    ∷ 32 ∷ 32 ∷ 32 ∷ 32 ∷ 32 ∷ 32 ∷ 32 ∷ 32 ∷ 32 ∷ 49 ∷ 10
    ∷ 32 ∷ 32 ∷ 32 ∷ 32 ∷ 32 ∷ 32 ∷ 32 ∷ 32 ∷ 32 ∷ 51 ∷ 10
    ∷ []

-- "Whole case, input and output".
pub whole-case : printed input ≡ output
unfolding computed
whole-case = refl

-- 11. "Buffer of 65 bytes for the whole case above: 9; 66: accepted."
pub whole-buffer : (building_from_text input 65 ≡ refused 9 0) × (building_from_text input 66 ≡ answered 66)
unfolding computed
whole-buffer = (refl, refl)

-- The written image is accepted; its tags have their numbers, and 4 is unknown.
pub whole-checked : check_answer output ≡ 0
unfolding computed
whole-checked = refl

pub whole-looked : (lookup_of output 1 ≡ answered (number 1)) × (lookup_of output 2 ≡ answered (number 0))
    × (lookup_of output 3 ≡ answered (number 2)) × (lookup_answer output 4 ≡ 4294967295)
unfolding computed
whole-looked = (refl, refl, refl, refl)

-- Damage: a cut image; B = 0; a seed column with a letter; a start of group 1 that passes N; tag 3 in the slot of tag 2, which is
-- of another group, and in the slot of tag 1, which is its other place.
pub damaged-cut : checking_of (take 65 output) ≡ refused 11 0
unfolding computed
damaged-cut = refl

pub damaged-header : checking_of (set output 9 48) ≡ refused 12 0
unfolding computed
damaged-header = refl

pub damaged-seed : (checking_of (set output 31 97) ≡ refused 12 2) × (lookup_of (set output 31 97) 2 ≡ refused 12 2)
unfolding computed
damaged-seed = (refl, refl)

pub damaged-start : (checking_of (set output 26 52) ≡ refused 13 1) × (lookup_of (set output 26 52) 2 ≡ refused 13 0)
unfolding computed
damaged-start = (refl, refl)

pub damaged-slots : (checking_of (set output 42 51) ≡ refused 14 0) × (checking_of (set output 53 51) ≡ refused 15 2)
unfolding computed
damaged-slots = (refl, refl)

-- Tag 0 in the place of tag 1 of the list, and of tag 2 in the image: 17 at place 0.
pub unwired-refused : (build_answer (set input 20 48) 66 ≡ 73014444032) × (checking_of (set output 42 48) ≡ refused 17 0)
unfolding computed
unwired-refused = (refl, refl)

-- Tag 0 is unknown also where the lines of its group are damaged, where tag 2 of that group is refused; and refused where the image is cut.
pub unwired-looked : (lookup_of output 0 ≡ answered unknown) × (lookup_of (set output 20 97) 0 ≡ answered unknown)
    × (lookup_of (set output 20 97) 2 ≡ refused 12 1) × (lookup_of (take 65 output) 0 ≡ refused 11 0)
unfolding computed
unwired-looked = (refl, refl, refl, refl)

-- A list text that ends within a line: 16 at place 0, as a 64-bit answer.
pub text-short : build_answer (take 43 input) 66 ≡ 68719476736
unfolding computed
text-short = refl
