-- Images at which two refusals are due, by computation: the earlier one comes. Assumes nothing.
use Rattle.std.specs.Prelude.{◌≡◌, refl, ℕ}
use mathlib.Core.List.{[], ◌∷◌, flatten}
use Rattle.refusal.specs.Outcome.{refused}
use Rattle.lists.specs.First.{first, met_at, is_some}
use Rattle.refusal.specs.Checks.{met, in_order}
use Rattle.hash.specs.Formula.{product, high_part, hashed, group_of, multiplier, place_of}
use Rattle.text.specs.Figure.{leading, figure}
use Rattle.text.specs.Field.{value_from, same, field}
use Rattle.text.specs.Line.{line_at, pair_line, tag_line, ended, both_fields, pair_of, tag_of, within, image_header, group_line, slot_line}
use Rattle.image.specs.Sheet.{image_length}
use Rattle.image.specs.View.{view_of, count_in, groups_in, start_in, seed_in, slot_line_in, slot_in, end_in, faulty, candidate_in}
use Rattle.image.specs.Checking.{opening_checks, malformed_in, group_of_slot, holds_unwired, misplaced, repeated, number_checks}
use Rattle.image.specs.Checking.{checking_checks, checking_of}

-- `unfolding computed` opens every definition that these compute through.
computed : ℕ
unfolding flatten first met_at is_some met in_order product high_part hashed group_of multiplier place_of leading
    figure value_from same field line_at pair_line tag_line ended both_fields pair_of tag_of within image_header group_line
    slot_line image_length view_of count_in groups_in start_in seed_in slot_line_in slot_in end_in faulty candidate_in opening_checks
    malformed_in group_of_slot holds_unwired misplaced repeated number_checks checking_checks checking_of
computed = 0

-- One group of the tags 1 and 1 under seed 0, where both places of tag 1 are 1: slot 0 is misplaced, and slot 1 repeats its tag.
fourteen-before-fifteen : checking_of (flatten (pair_line 2 1 ∷ pair_line 0 0 ∷ tag_line 1 ∷ tag_line 1 ∷ [])) ≡ refused 14 0
unfolding computed
fourteen-before-fifteen = refl

-- With the group's start at 1 it is faulty too,
thirteen-before-fourteen : checking_of (flatten (pair_line 2 1 ∷ pair_line 1 0 ∷ tag_line 1 ∷ tag_line 1 ∷ [])) ≡ refused 13 0
unfolding computed
thirteen-before-fourteen = refl

-- and with a seed of 65,536 besides, its line is malformed.
twelve-before-thirteen : checking_of (flatten (pair_line 2 1 ∷ pair_line 1 65536 ∷ tag_line 1 ∷ tag_line 1 ∷ [])) ≡ refused 12 1
unfolding computed
twelve-before-thirteen = refl

-- With 0 in slot 1 of the faulty group, the slot is named first,
seventeen-before-thirteen : checking_of (flatten (pair_line 2 1 ∷ pair_line 1 0 ∷ tag_line 1 ∷ tag_line 0 ∷ [])) ≡ refused 17 1
unfolding computed
seventeen-before-thirteen = refl

-- with 0 in two slots the lower of them,
seventeen-at-lowest : checking_of (flatten (pair_line 3 1 ∷ pair_line 0 0 ∷ tag_line 1 ∷ tag_line 0 ∷ tag_line 0 ∷ [])) ≡ refused 17 1
unfolding computed
seventeen-at-lowest = refl

-- and before a slot that holds 0 a malformed line, also one behind it: the tag 4,294,967,296 is none.
twelve-before-seventeen : checking_of (flatten (pair_line 2 1 ∷ pair_line 0 0 ∷ tag_line 0 ∷ tag_line 4294967296 ∷ [])) ≡ refused 12 3
unfolding computed
twelve-before-seventeen = refl
