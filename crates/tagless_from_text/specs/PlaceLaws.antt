-- The place of a refusal of building an index without tags from a list text is below the number of lines that a text may have; its
-- number is not 0, and a length is at most 10,763. Assumes nothing.
use Rattle.std.specs.Prelude.{◌≡◌, List, ℕ, ◌≤◌, length}
use Rattle.std.proofs.Common.{arith}
use Rattle.refusal.specs.Limits.{groups_max}
use Rattle.refusal.proofs.LimitsLaws.{inside}
use Rattle.refusal.specs.Outcome.{answered}
use Rattle.refusal.specs.ChecksBefore.{checks_before}
use Rattle.refusal.proofs.ChecksLaws.{◌then◌, false-of-met, passed}
use Rattle.refusal.proofs.PlaceLaws.{PlaceBelow, below-checks, below-followed, met-below, first_below}
use Rattle.numbering.specs.FromText.{list_from_text}
use Rattle.from_text.specs.PlaceLaws.{text_lines, few, legal, list-place}
use Rattle.tagless_image.specs.Sheet.{tagless_length}
use Rattle.tagless.specs.Building.{tagless_building_checks, tagless_building_of}
use Rattle.tagless.proofs.BuildingLaws.{building-says}
use Rattle.tagless.specs.FromText.{tagless_from_text}

building-place : (tags : List ℕ) (groups limit room : ℕ) → PlaceBelow text_lines (tagless_building_of tags groups limit room)
unfolding tagless_building_of tagless_building_checks
building-place tags groups limit room =
    let checks = tagless_building_checks tags groups limit room in
    below-checks text_lines checks _
    ((λ _. met-below text_lines _ (omega arith))
    then (λ _. met-below text_lines _ (omega arith))
    then (λ _. met-below text_lines _ (omega arith))
    then (λ passes. first_below text_lines _ (length tags) (few tags (passed (checks_before 6 checks) passes 5)))
    then (λ _. met-below text_lines _ (omega arith))
    then (λ _. met-below text_lines _ (omega arith))
    then (λ passes. first_below text_lines _ groups (legal groups (passed (checks_before 10 checks) passes 8)))
    then (λ passes. first_below text_lines _ groups (legal groups (passed (checks_before 7 checks) passes 8)))
    then tt)
    (λ _. tt)

pub tagless-text-place : (text : List ℕ) (room : ℕ) → PlaceBelow text_lines (tagless_from_text text room)
unfolding tagless_from_text
tagless-text-place text room =
    below-followed text_lines (list_from_text text) _ (list-place text)
    (λ listed. building-place listed.tags listed.groups listed.limit room)

-- The longest image has 512 groups.
pub answered-most : (tags : List ℕ) (groups limit room : ℕ) {size : ℕ} → tagless_building_of tags groups limit room ≡ answered size
    → size ≤ 10763
unfolding tagless_building_checks tagless_length
answered-most tags groups limit room e =
    let (passes, is) = building-says tags groups limit room e in
    let legal-groups = inside 1 groups_max groups (false-of-met _ (passed (tagless_building_checks tags groups limit room) passes 8)) in
    omega (arith, is, legal-groups)
