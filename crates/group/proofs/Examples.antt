-- The order of placing's refusals, each where the next one is due too, and small groups in which the order of choices decides, by
-- computation. Assumes nothing.
use Rattle.std.specs.Prelude.{◌≡◌, refl, true, false, List, [], ◌∷◌, ℕ, suc, replicate, Some}
use Rattle.refusal.specs.Limits.{group_max, outside}
use Rattle.refusal.specs.Outcome.{refused}
use Rattle.lists.specs.First.{first, met_at, is_some}
use Rattle.refusal.specs.Checks.{met, in_order}
use Rattle.hash.specs.Formula.{product, high_part, hashed, multiplier, place_of}
use Rattle.lists.specs.Occurs.{occurs}
use Rattle.filling.specs.Filling.{place_by}
use Rattle.filling.specs.Word.{choice_number}
use Rattle.filling.specs.Order.{ones}
use Rattle.filling.specs.Least.{beginning, least_from, least, feasible}
use Rattle.filling.specs.Taken.{fewer_ones, taken_from, sequence_taken}
use Rattle.group.specs.Group.{both_places, candidates, group_under, least_seed, taken}
use Rattle.group.specs.Ascending.{not_above}
use Rattle.group.specs.Unwired.{starts_unwired}
use Rattle.group.specs.Placing.{placing_checks, placing_of}

-- `unfolding computed` opens every definition that these compute through.
computed : ℕ
unfolding outside first met_at is_some met in_order product high_part hashed multiplier place_of occurs place_by
    beginning least_from least feasible choice_number ones fewer_ones taken_from sequence_taken both_places candidates least_seed taken
    not_above starts_unwired placing_checks placing_of
computed = 0

-- One tag, once more than a group holds tags, which is too many tags, not ascending, and has no seed.
abbrev too_many : List ℕ
too_many = replicate (suc group_max) 7

four-before-five : placing_of too_many 0 ≡ refused 4 0
unfolding computed
four-before-five = refl

five-before-six : placing_of too_many 1 ≡ refused 5 0
unfolding computed
five-before-six = refl

-- Tag 0 twice.
six-before-seventeen : placing_of (0 ∷ 0 ∷ []) 1 ≡ refused 6 1
unfolding computed
six-before-seventeen = refl

-- The tags of worked value 6: no seed serves them either.
seventeen-before-seven : placing_of (0 ∷ 1073741824 ∷ 3221225472 ∷ []) 1 ≡ refused 17 0
unfolding computed
seventeen-before-seven = refl

seven-last : placing_of (1 ∷ 3 ∷ []) 1 ≡ refused 7 0
unfolding computed
seven-last = refl

-- {1, 2, 12} under seed 0: 0, 1, 1 fills too, and has one more second place.
fewest-ones : (taken (1 ∷ 2 ∷ 12 ∷ []) 0 ≡ true ∷ false ∷ false ∷ [])
    × (least (group_under (1 ∷ 2 ∷ 12 ∷ []) 0) ≡ Some (false ∷ true ∷ true ∷ []))
unfolding computed
fewest-ones = (refl, refl)

-- {599, 1193} have the same two places: either could have the second, and the lowest tag decides, 0 before 1.
lowest-decides : taken (599 ∷ 1193 ∷ []) 0 ≡ false ∷ true ∷ []
unfolding computed
lowest-decides = refl
