-- `placing::worked::placement_of_one_and_three` meets its contract: by the promise of `place_group` the answer is what the
-- definition computes to. Assumes nothing.
use mathlib.Core.Path.{◌≡◌, refl, ap}
use mathlib.Core.List.{[], ◌∷◌}
use native.Mathlib.Omega.{arith}
use Prim.Native.Nat.{ℕ}
use Rattle.refusal.specs.Limits.{outside}
use Rattle.refusal.specs.Outcome.{answered}
use Rattle.lists.specs.First.{first, met_at, is_some}
use Rattle.refusal.specs.Checks.{met, in_order}
use Rattle.hash.specs.Formula.{product, high_part, hashed, multiplier, place_of}
use Rattle.lists.specs.Occurs.{occurs}
use Rattle.filling.specs.Filling.{place_by}
use Rattle.filling.specs.Least.{beginning, least_from, least, feasible}
use Rattle.filling.specs.Order.{ones}
use Rattle.filling.specs.Taken.{fewer_ones, taken_from, sequence_taken}
use Rattle.filling.specs.Word.{choice_number, word_of}
use Rattle.group.specs.Group.{both_places, candidates, least_seed, taken}
use Rattle.group.specs.Ascending.{not_above}
use Rattle.group.specs.Unwired.{starts_unwired}
use Rattle.group.specs.Placing.{Placement, placing_checks, placement_of, placing_of}
use Rattle.placing.proofs.worked.placement_of_one_and_three.Goals as goal

computed : placing_of (1 ∷ 3 ∷ []) 2 ≡ answered (record { seed = 1; word = 2 })
unfolding outside first met_at is_some met in_order product high_part hashed multiplier place_of occurs place_by
    beginning least_from least feasible
    ones fewer_ones taken_from sequence_taken choice_number word_of both_places candidates least_seed taken not_above starts_unwired
    placing_checks placement_of placing_of
computed = refl

-- What an answer says.
said : {seed word : ℕ} → answered (record { seed = seed; word = word }) ≡ placing_of (1 ∷ 3 ∷ []) 2 → (seed ≡ 1) × (word ≡ 2)
said {seed} {word} e =
    let same : ◌≡◌ {A = Placement} (record { seed = seed; word = word }) (record { seed = 1; word = 2 }) = cc computed in
    (ap (λ (p : Placement). p.seed) same, ap (λ (p : Placement). p.word) same)

pub returns-in_default : goal.returns-in_default
returns-in_default c =
    let promised = rw c.in_default.is at c.place_group.ensures.answer in
    record { answer = cc computed }

pub overflow_mul-result : goal.overflow_mul-result
overflow_mul-result c =
    let promised = rw c.in-Ok.is at c.place_group.ensures.answer in
    omega (arith, said promised)

pub overflow_add-result : goal.overflow_add-result
overflow_add-result c =
    let promised = rw c.in-Ok.is at c.place_group.ensures.answer in
    omega (arith, said promised)

pub returns : goal.returns
returns c =
    let promised = rw c.in-Ok.is at c.place_group.ensures.answer in
    record { answer = omega (arith, said promised) }
