-- The place of a refusal of planning, writing and building from a list text is below the number of lines that a text may have, and
-- reading's refusals have a number. Assumes nothing.
use Rattle.std.specs.Prelude.{◌≡◌, refl, List, [], ◌∷◌, ℕ, ◌≤◌, ltb, length, None}
use Rattle.std.proofs.Common.{arith, ltb-false}
use Rattle.refusal.specs.Limits.{text_max, tags_max, groups_max, outside}
use Rattle.refusal.proofs.LimitsLaws.{inside}
use Rattle.refusal.specs.Checks.{met}
use Rattle.refusal.specs.ChecksBefore.{checks_before}
use Rattle.refusal.proofs.ChecksLaws.{◌then◌, false-of-met, passed}
use Rattle.refusal.proofs.PlaceLaws.{PlaceBelow, below-checks, below-followed, met-below, first_below, Numbered, numbered-checks}
use Rattle.list.specs.Reading.{line_count, reading_checks, reading_of}
use Rattle.numbering.specs.Plan.{planned_groups}
use Rattle.numbering.specs.Planning.{earlier_checks, planning_checks, planning_of}
use Rattle.numbering.specs.Writing.{writing_checks, writing_of}
use Rattle.numbering.specs.Building.{building_of}
use Rattle.numbering.specs.FromText.{list_from_text, planning_from_text, writing_from_text, building_from_text}

-- A text of at most 65,527 bytes has at most 5,957 lines.
abbrev pub text_lines : ℕ
text_lines = 5957

-- A refusal of reading names a line of the text,
reading-place : (text : List ℕ) → length text ≤ text_max → PlaceBelow text_lines (reading_of text tags_max)
unfolding reading_of reading_checks line_count
reading-place text short =
    below-checks text_lines (reading_checks text tags_max) _
    ((λ _. met-below text_lines _ (omega arith))
    then (λ _. first_below text_lines _ (line_count text) (omega arith))
    then (λ _. met-below text_lines _ (omega arith))
    then (λ _. met-below text_lines _ (omega arith))
    then tt)
    (λ _. tt)

-- and one of an operation an index of a list that is not too long, or a group. What the checks before it say:
pub few : (tags : List ℕ) → met (ltb tags_max (length tags)) ≡ None → length tags ≤ text_lines
few tags e = omega (arith, ltb-false tags_max (length tags) (false-of-met _ e))

pub legal : (groups : ℕ) → met (outside 1 groups_max groups) ≡ None → groups ≤ text_lines
legal groups e = omega (arith, (inside 1 groups_max groups (false-of-met _ e)).1)

planning-place : (tags : List ℕ) (groups limit : ℕ) → PlaceBelow text_lines (planning_of tags groups limit)
unfolding planning_of planning_checks earlier_checks
planning-place tags groups limit =
    let checks = planning_checks tags groups limit in
    below-checks text_lines checks _
    ((λ _. met-below text_lines _ (omega arith))
    then (λ _. met-below text_lines _ (omega arith))
    then (λ _. met-below text_lines _ (omega arith))
    then (λ passes. first_below text_lines _ (length tags) (few tags (passed (checks_before 6 checks) passes 5)))
    then (λ _. met-below text_lines _ (omega arith))
    then (λ passes. first_below text_lines _ groups (legal groups (passed (checks_before 10 checks) passes 8)))
    then (λ passes. first_below text_lines _ groups (legal groups (passed (checks_before 7 checks) passes 8)))
    then tt)
    (λ _. tt)

writing-place : (tags plan : List ℕ) (room : ℕ) → PlaceBelow text_lines (writing_of tags plan room)
unfolding writing_of writing_checks
writing-place tags plan room =
    let checks = writing_checks tags plan room in
    let groups = planned_groups plan in
    below-checks text_lines checks _
    ((λ _. met-below text_lines _ (omega arith))
    then (λ passes. first_below text_lines _ groups (legal groups (passed (checks_before 2 checks) passes 8)))
    then (λ _. met-below text_lines _ (omega arith))
    then (λ passes. first_below text_lines _ (length tags) (few tags (passed (checks_before 6 checks) passes 5)))
    then (λ _. met-below text_lines _ (omega arith))
    then (λ _. met-below text_lines _ (omega arith))
    then (λ passes. first_below text_lines _ groups (legal groups (passed (checks_before 10 checks) passes 8)))
    then (λ passes. first_below text_lines _ groups (legal groups (passed (checks_before 18 checks) passes 8)))
    then tt)
    (λ _. tt)

pub list-place : (text : List ℕ) → PlaceBelow text_lines (list_from_text text)
unfolding list_from_text
list-place text =
    below-checks text_lines ((5, met (ltb text_max (length text))) ∷ []) (reading_of text tags_max)
    ((λ _. met-below text_lines _ (omega arith)) then tt)
    (λ short. reading-place text (ltb-false text_max (length text) (false-of-met _ short.0)))

-- Every refusal of reading has a number.
pub list-numbered : (text : List ℕ) → Numbered (list_from_text text)
unfolding list_from_text reading_of reading_checks
list-numbered text = numbered-checks _ (reading_of text tags_max) refl (numbered-checks (reading_checks text tags_max) _ refl tt)

-- The place of a refusal of planning, of writing and of building from a list text.
pub plan-text-place : (text : List ℕ) → PlaceBelow text_lines (planning_from_text text)
unfolding planning_from_text
plan-text-place text =
    below-followed text_lines (list_from_text text) _ (list-place text)
    (λ listed. planning-place listed.tags listed.groups listed.limit)

pub write-text-place : (text plan : List ℕ) (room : ℕ) → PlaceBelow text_lines (writing_from_text text plan room)
unfolding writing_from_text
write-text-place text plan room =
    below-followed text_lines (list_from_text text) _ (list-place text) (λ listed. writing-place listed.tags plan room)

pub from-text-place : (text : List ℕ) (room : ℕ) → PlaceBelow text_lines (building_from_text text room)
unfolding building_from_text building_of
from-text-place text room =
    below-followed text_lines (list_from_text text) _ (list-place text)
    (λ listed.
    below-followed text_lines (planning_of listed.tags listed.groups listed.limit) _
    (planning-place listed.tags listed.groups listed.limit) (λ planned. writing-place listed.tags _ room))
