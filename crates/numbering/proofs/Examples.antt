-- The order of the refusals of planning and of writing, each where the next one is due too, by computation; of 10 and 7,
-- `PlanningLaws.seven-decides` says it, and of building's 7 and 9 `BuildingLaws.building-in-order`. Assumes nothing.
use Rattle.std.specs.Prelude.{◌≡◌, refl, List, [], ◌∷◌, ℕ, suc, replicate}
use Rattle.std.specs.Option.{option_or}
use Rattle.refusal.specs.Limits.{tags_max, group_max, outside}
use Rattle.refusal.specs.Outcome.{refused, followed_by}
use Rattle.lists.specs.First.{first, met_at}
use Rattle.lists.specs.UpTo.{up_to}
use Rattle.refusal.specs.Checks.{met, in_order}
use Rattle.group.specs.Ascending.{not_above}
use Rattle.group.specs.Unwired.{starts_unwired}
use Rattle.image.specs.Sheet.{image_length}
use Rattle.hash.specs.Formula.{product, high_part, hashed, group_of}
use Rattle.numbering.specs.Members.{select, members}
use Rattle.numbering.specs.Plan.{plan_of, planned_groups, planned_seed}
use Rattle.numbering.specs.Planning.{earlier_checks, planning_checks, planning_of}
use Rattle.numbering.specs.Writing.{writing_checks, writing_of}
use Rattle.numbering.specs.Building.{building_of}

-- `unfolding computed` opens every definition that these compute through.
computed : ℕ
unfolding outside followed_by first met_at up_to met in_order product high_part hashed group_of select members not_above
    starts_unwired image_length plan_of planned_groups planned_seed earlier_checks planning_checks planning_of writing_checks
    writing_of building_of
computed = 0

-- One tag 4,097 times, which is too many tags, and not ascending; and one tag more than a group holds.
abbrev too_many : List ℕ
too_many = replicate (suc tags_max) 7

abbrev overfull : List ℕ
overfull = up_to (suc group_max) suc

-- Planning: 8, 4, 5, 6, 17, 10.
eight-before-four : planning_of [] 0 0 ≡ refused 8 0
unfolding computed
eight-before-four = refl

four-before-five : planning_of too_many 1 0 ≡ refused 4 0
unfolding computed
four-before-five = refl

five-before-six : planning_of too_many 1 1 ≡ refused 5 0
unfolding computed
five-before-six = refl

six-before-seventeen : planning_of (0 ∷ 0 ∷ []) 1 1 ≡ refused 6 1
unfolding computed
six-before-seventeen = refl

seventeen-before-ten : planning_of (up_to (suc group_max) (λ i. i)) 1 1 ≡ refused 17 0
unfolding computed
seventeen-before-ten = refl

-- Building: 10 before 9.
ten-before-nine : building_of overfull 1 1 0 ≡ refused 10 0
unfolding computed
ten-before-nine = refl

-- Writing: 8, 2, 5, 6, 17, 9, 10. The plan's one group has this seed.
abbrev one : ℕ → List ℕ
one seed = plan_of 1 (λ g. seed)

eight-before-two : writing_of [] (0 ∷ 65536 ∷ []) 0 ≡ refused 8 0
unfolding computed
eight-before-two = refl

two-before-five : writing_of too_many (one 65536) 0 ≡ refused 2 0
unfolding computed
two-before-five = refl

five-before-six-written : writing_of too_many (one 0) 0 ≡ refused 5 0
unfolding computed
five-before-six-written = refl

six-before-seventeen-written : writing_of (0 ∷ 0 ∷ []) (one 0) 0 ≡ refused 6 1
unfolding computed
six-before-seventeen-written = refl

seventeen-before-nine : writing_of (0 ∷ 1 ∷ []) (one 0) 0 ≡ refused 17 0
unfolding computed
seventeen-before-nine = refl

nine-before-ten : writing_of overfull (one 0) 0 ≡ refused 9 0
unfolding computed
nine-before-ten = refl

-- A seed behind the first B groups is not looked at: here the second of a plan with B = 1.
behind-unseen : writing_of (0 ∷ []) (1 ∷ 0 ∷ 65536 ∷ []) 0 ≡ refused 17 0
unfolding computed
behind-unseen = refl
