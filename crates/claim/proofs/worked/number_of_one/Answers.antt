-- `claim::worked::number_of_one` meets its contract: by the promise of `build_then_look_up` the answer is what the definition
-- computes to. Assumes nothing.
use mathlib.Core.Path.{◌≡◌, refl, ◌∙◌}
use mathlib.Core.List.{[], ◌∷◌}
use Prim.Native.Nat.{ℕ}
use native.Mathlib.Omega.{arith}
use Rattle.refusal.specs.Limits.{outside}
use Rattle.refusal.specs.Outcome.{answered, refused, followed_by, on_answer}
use Rattle.lists.specs.First.{first, met_at, is_some}
use Rattle.refusal.specs.Checks.{met, in_order}
use Rattle.hash.specs.Formula.{product, high_part, hashed, group_of, multiplier, place_of}
use Rattle.lists.specs.Occurs.{occurs}
use Rattle.filling.specs.Filling.{place_by}
use Rattle.filling.specs.Least.{beginning, least_from, least, feasible}
use Rattle.filling.specs.Order.{ones}
use Rattle.filling.specs.Taken.{fewer_ones, taken_from, sequence_taken}
use Rattle.filling.specs.Word.{choice_number}
use Rattle.group.specs.Group.{both_places, candidates, least_seed, taken}
use Rattle.group.specs.Ascending.{not_above}
use Rattle.group.specs.Unwired.{starts_unwired}
use Rattle.image.specs.Sheet.{image_length}
use Rattle.image.specs.Lookup.{number, unknown}
use Rattle.numbering.specs.Members.{select, members, start_of}
use Rattle.numbering.specs.Number.{choice_of, place_in, number_of}
use Rattle.numbering.specs.Plan.{plan_of, planned_groups, planned_seed}
use Rattle.numbering.specs.Planning.{earlier_checks, planning_checks, planning_of, seed_taken, plan_after}
use Rattle.numbering.specs.Writing.{choices_under, writing_checks, writing_of}
use Rattle.numbering.specs.Building.{building_of}
use Rattle.lists.specs.UpTo.{up_to}
use Rattle.claim.specs.Claim.{found_in, claim_of}
use Rattle.claim.proofs.worked.number_of_one.Goals as goal

computed : claim_of (1 ∷ 2 ∷ []) 1 1 44 1 ≡ answered (number 1)
unfolding outside followed_by first met_at is_some met in_order product high_part hashed group_of multiplier
    place_of occurs place_by beginning least_from least feasible
    ones fewer_ones taken_from sequence_taken choice_number both_places candidates least_seed taken
    not_above starts_unwired image_length select members start_of choice_of place_in number_of on_answer up_to
    plan_of planned_groups planned_seed earlier_checks planning_checks planning_of seed_taken plan_after choices_under
    writing_checks writing_of building_of found_in claim_of
computed = refl

same : {j : ℕ} → answered (number j) ≡ answered (number 1) → j ≡ 1
same e = cc

not-unknown : answered unknown ≡ answered (number 1) → ⊥
not-unknown e = let z : ◌≡◌ {A = ℕ} 0 1 = cc in omega arith

not-refused : {reason place : ℕ} → refused reason place ≡ answered (number 1) → ⊥
not-refused e = let z : ◌≡◌ {A = ℕ} 0 1 = cc in omega arith

pub returns-in-Number : goal.returns-in-Number
returns-in-Number c =
    let promised = rw c.in-Number.is at c.build_then_look_up.ensures.answer in
    record { answer = same (promised ∙ computed) }

pub returns-in-Unknown : goal.returns-in-Unknown
returns-in-Unknown c =
    let promised = rw c.in-Unknown.is at c.build_then_look_up.ensures.answer in
    record { answer = absurd (not-unknown (promised ∙ computed)) }

pub returns-in-Refused : goal.returns-in-Refused
returns-in-Refused c =
    let promised = rw c.in-Refused.is at c.build_then_look_up.ensures.answer in
    record { answer = absurd (not-refused (promised ∙ computed)) }
