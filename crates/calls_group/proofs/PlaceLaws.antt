-- Placing over the C boundary: its answer and the cell are taken apart into the outcome, which meets Condition 3 of one group.
-- Assumes nothing.
use Rattle.std.specs.Prelude.{◌≡◌, refl, List, ℕ, ◌≤◌, ◌<◌, length}
use Rattle.std.proofs.Common.{sym, ◌∙◌, ap, arith, ltb-false}
use Rattle.refusal.specs.Limits.{tag_end, group_max}
use Rattle.refusal.specs.Outcome.{Outcome, answered, refused, answered_by}
use Rattle.refusal.specs.Checks.{Pass}
use Rattle.refusal.specs.ChecksBefore.{checks_before}
use Rattle.refusal.proofs.ChecksLaws.{◌then◌, false-of-met, passed}
use Rattle.refusal.proofs.PlaceLaws.{PlaceBelow, Numbered, below-checks, numbered-checks, met-below, first_below}
use Rattle.group.specs.Ascending.{not_above}
use Rattle.group.specs.Placing.{Placement, placing_checks, placing_of}
use Rattle.placing.proofs.Condition3Laws.{placing-condition3, answered-checked}
use Rattle.answer64.specs.Answer64.{answer64}
use Rattle.answer64.proofs.Answer64Laws.{Fits, outcome-answer}
use Rattle.calls_group.specs.Place.{place_answer, cell_with, word_after, placed64, PlaceCondition3}

-- A refusal names an index of the group, since check 5 comes before check 6, or 0; and has a number.
pub placing-place : (tags : List ℕ) (limit : ℕ) → PlaceBelow group_max (placing_of tags limit)
unfolding placing_of placing_checks
placing-place tags limit =
    below-checks group_max (placing_checks tags limit) _
    ((λ _. met-below group_max _ (omega arith))
    then (λ _. met-below group_max _ (omega arith))
    then (λ passes. first_below group_max (not_above tags) (length tags) (few passes))
    then (λ _. met-below group_max _ (omega arith))
    then (λ _. met-below group_max _ (omega arith))
    then tt)
    (λ _. tt)
  where
    few : Pass (checks_before 6 (placing_checks tags limit)) → length tags ≤ group_max
    few passes = ltb-false group_max (length tags) (false-of-met _ (passed (checks_before 6 (placing_checks tags limit)) passes 5))

place-numbered : (tags : List ℕ) (limit : ℕ) → Numbered (placing_of tags limit)
unfolding placing_of placing_checks
place-numbered tags limit = numbered-checks (placing_checks tags limit) _ refl tt

-- A seed is below L.
seed-small : (tags : List ℕ) (limit : ℕ) (placed : Placement) → placing_of tags limit ≡ answered placed → placed.seed < tag_end
seed-small tags limit placed e =
    let legal = (answered-checked tags limit e).limit-legal in
    omega (arith, legal.1, ((placing-condition3 tags limit).accepted placed e).below-limit)

-- What an outcome of placing answers.
abbrev pub seed_answered : Outcome Placement → Outcome ℕ
seed_answered o = answered_by (λ (placed : Placement). placed.seed) o

-- So every outcome of placing fits,
pub place-fits : (tags : List ℕ) (limit : ℕ) → Fits (seed_answered (placing_of tags limit))
unfolding answered_by
place-fits tags limit = go (placing_of tags limit) (seed-small tags limit) (placing-place tags limit) (place-numbered tags limit)
  where
    go : (o : Outcome Placement) → ((placed : Placement) → o ≡ answered placed → placed.seed < tag_end) → PlaceBelow group_max o
        → Numbered o → Fits (seed_answered o)
    go (answered placed) small place numbered = small placed refl
    go (refused reason place) small low numbered = (numbered, omega arith)

-- and the answer and the cell are taken apart into it.
pub placed-answer : (tags : List ℕ) (limit : ℕ) (before : List ℕ)
    → placed64 (place_answer tags limit) (word_after tags limit before) ≡ placing_of tags limit
unfolding place_answer word_after cell_with placed64 answered_by
placed-answer tags limit before = go (placing_of tags limit) (place-fits tags limit)
  where
    go : (o : Outcome Placement) → Fits (seed_answered o) → placed64 (answer64 (seed_answered o)) (cell_with o before) ≡ o
    go (answered placed) fits = rw (outcome-answer (answered placed.seed) fits)
    go (refused reason place) fits = rw (outcome-answer (refused reason place) fits)

-- Calls with one answer and one word came to one outcome.
pub place-apart : (tags tags' : List ℕ) (limit limit' : ℕ) (before before' : List ℕ) → place_answer tags limit ≡ place_answer tags' limit'
    → word_after tags limit before ≡ word_after tags' limit' before' → placing_of tags limit ≡ placing_of tags' limit'
place-apart tags tags' limit limit' before before' answer word =
    sym (placed-answer tags limit before) ∙ rw (answer, word) (placed-answer tags' limit' before')

-- The answer and the cell of an outcome that is placing's are what the call owes, with Condition 3 of the group.
pub placed-promised : (tags : List ℕ) (limit : ℕ) (before after : List ℕ) (r : ℕ) (outcome : Outcome Placement)
    → outcome ≡ placing_of tags limit → r ≡ answer64 (seed_answered outcome) → after ≡ cell_with outcome before
    → (r ≡ place_answer tags limit) × ((after ≡ word_after tags limit before) × PlaceCondition3 tags limit r after)
unfolding place_answer word_after
placed-promised tags limit before after r outcome told answer cell =
    let of-outcome = answer ∙ ap (λ (o : Outcome Placement). answer64 (seed_answered o)) told in
    let left = cell ∙ ap (λ (o : Outcome Placement). cell_with o before) told in
    (of-outcome, (left, rw (of-outcome, left, placed-answer tags limit before) (placing-condition3 tags limit)))
