-- The starred theorem: every row of the table holds. Assumes nothing.
use Rattle.std.specs.Prelude.{◌≡◌, refl, false, ℕ, length, Some}
use Rattle.std.proofs.Common.{◌∙◌, subst, arith, le-ltb}
use mathlib.Core.List.{List, [], flatten}
use Rattle.std.specs.Option.{option_or}
use Rattle.refusal.specs.Limits.{limit_max, groups_max, outside}
use Rattle.refusal.proofs.LimitsLaws.{outside-not}
use Rattle.lists.specs.First.{first, met_at, is_some}
use Rattle.refusal.specs.Outcome.{followed_by, on_answer}
use Rattle.refusal.specs.Checks.{met, in_order}
use Rattle.hash.specs.Formula.{product, high_part, hashed, group_of, multiplier, place_of}
use Rattle.hash.specs.OneTag.{one_tag_checks, place_of_one_tag}
use Rattle.text.specs.Figure.{leading, figure}
use Rattle.text.specs.Line.{pair_line}
use Rattle.lists.specs.Occurs.{occurs, distinct}
use Rattle.filling.specs.Filling.{place_by, chosen}
use Rattle.filling.specs.Least.{beginning, least_from, least, feasible}
use Rattle.filling.specs.Order.{ones}
use Rattle.filling.specs.Taken.{fewer_ones, taken_from, sequence_taken}
use Rattle.filling.specs.Word.{choice_number, word_of}
use Rattle.group.specs.Group.{both_places, candidates, least_seed, taken}
use Rattle.group.proofs.GroupLaws.{least_seed-empty}
use Rattle.group.specs.Ascending.{not_above}
use Rattle.group.specs.Unwired.{starts_unwired}
use Rattle.group.specs.Placing.{placing_checks, placement_of, placing_of}
use Rattle.lists.specs.UpTo.{up_to}
use Rattle.image.specs.Sheet.{lines_of, bytes_of, image_length}
use Rattle.numbering.specs.Members.{select, members, start_of}
use Rattle.numbering.specs.Number.{choice_of, place_in, number_of, tag_numbered}
use Rattle.numbering.specs.Plan.{plan_of, planned_groups, planned_seed}
use Rattle.numbering.specs.Planning.{earlier_checks, planning_checks, planning_of, seed_taken, plan_after}
use Rattle.numbering.specs.Writing.{sheet_of, choices_under, image_under, writing_checks, writing_of}
use Rattle.numbering.specs.Writing.{planned_image, written, buffer_written}
use Rattle.numbering.specs.Building.{building_of, buffer_after}
use Rattle.numbering.proofs.BuildingLaws.{building-in-order, buffer-after}
use Rattle.worked.specs.Row.{Claim, Holds, AllHold, RowHolds, Every}
use Rattle.worked.specs.UnreachedLaws.{place-never-one}
use Rattle.worked.specs.Table.{value1, value2, value3, value4, value5, value6, value7, value8, value9, table}

-- A row for one limit.
holds-only : (limit : ℕ) (claims : List Claim) → AllHold limit claims → RowHolds (record { from = limit; upto = limit; claims = claims })
unfolding RowHolds
holds-only limit claims h l from upto = let e : limit ≡ l = omega arith in subst (λ (k : ℕ). AllHold k claims) e h

-- `unfolding computed` opens every definition that a row of small numbers computes through; least_seed stays shut where L is not given.
computed : ℕ
unfolding AllHold Holds met_at is_some met in_order product high_part hashed group_of multiplier place_of
    one_tag_checks place_of_one_tag occurs distinct place_by chosen beginning least_from least feasible
    ones fewer_ones taken_from sequence_taken choice_number word_of
    both_places candidates taken not_above starts_unwired placing_checks placement_of placing_of image_length
    select members start_of choice_of place_in number_of tag_numbered leading figure pair_line flatten up_to lines_of bytes_of
    followed_by on_answer plan_of planned_groups planned_seed earlier_checks planning_checks planning_of seed_taken plan_after sheet_of
    choices_under image_under writing_checks writing_of planned_image written buffer_written building_of buffer_after
computed = 0

-- B = 1 is a legal group count.
one-group : outside 1 groups_max 1 ≡ false
unfolding outside
one-group = refl

row1 : RowHolds value1
unfolding computed first outside least_seed
row1 = holds-only 1 value1.claims (refl, (refl, (refl, tt)))

row2 : RowHolds value2
unfolding computed first outside least_seed
row2 = holds-only 1 value2.claims (refl, ((λ room fits. refl), tt))

row3 : RowHolds value3
unfolding computed first outside least_seed
row3 =
    holds-only 2 value3.claims
    (refl, (refl, (refl, (refl, (refl, (record { whole = refl; apart = refl }, (refl, tt)))))))

row4 : RowHolds value4
unfolding computed first outside least_seed
row4 = holds-only 1 value4.claims (refl, ((λ room fits. refl), tt))

row5 : RowHolds value5
unfolding computed first outside least_seed
row5 = holds-only 1 value5.claims (refl, ((λ room fits. refl), tt))

row6 : RowHolds value6
unfolding computed RowHolds first
row6 limit from upto =
    let legal : outside 1 limit_max limit ≡ false = outside-not 1 limit_max limit from upto in
    (rw legal, ((λ room fits. rw (one-group, legal)), ((λ s c i. place-never-one s i c), tt)))

row7 : RowHolds value7
unfolding computed RowHolds first
row7 limit from upto =
    let legal : outside 1 limit_max limit ≡ false = outside-not 1 limit_max limit from upto in
    let seeded : least_seed [] limit ≡ Some 0 = least_seed-empty limit from in (
      (λ room fits. building-in-order [] 1 limit room ∙ rw (one-group, legal, seeded, le-ltb room 22 fits)),
      (
        (λ before fits.
            buffer-after [] 1 limit before
            ∙ rw (building-in-order [] 1 limit (length before), one-group, legal, seeded, le-ltb (length before) 22 fits)),
        tt,
      ),
    )

row8 : RowHolds value8
unfolding computed RowHolds
row8 limit from upto = (refl, (refl, (refl, tt)))

row9 : RowHolds value9
unfolding computed RowHolds first
row9 limit from upto =
    let legal : outside 1 limit_max limit ≡ false = outside-not 1 limit_max limit from upto in
    (rw legal, ((λ room fits. rw (one-group, legal)), tt))

-- The starred theorem.
pub worked : Every table
unfolding Every
worked = (row1, (row2, (row3, (row4, (row5, (row6, (row7, (row8, (row9, tt)))))))))
