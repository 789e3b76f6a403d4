-- Counting parts over the C boundary: its answer is taken apart into the outcome, which meets its condition. Assumes nothing.
use Rattle.std.specs.Prelude.{◌≡◌, ◌↔◌, Bool, true, false, cond, List, ℕ, ◌+◌, ◌*◌, ◌/◌, ◌%◌, ◌≤◌, eqb, ltb, length}
use Rattle.std.proofs.Math.Path.{refl, ap}
use Rattle.std.proofs.Common.{sym, ◌∙◌, arith}
use borrow.Author.Tests.{ltb-false}
use Rattle.refusal.specs.Limits.{tag_end, group_max}
use Rattle.refusal.specs.Outcome.{Outcome, answered, refused, answered_by}
use Rattle.refusal.specs.Checks.{Pass}
use Rattle.refusal.specs.ChecksBefore.{checks_before}
use Rattle.refusal.proofs.ChecksLaws.{◌then◌, false-of-met, passed, in_order-answered}
use Rattle.refusal.proofs.PlaceLaws.{PlaceBelow, Numbered, below-checks, numbered-checks, met-below, first_below}
use Rattle.filling.specs.Filling.{Fills}
use Rattle.group.specs.Ascending.{not_above}
use Rattle.group.specs.Group.{group_under}
use Rattle.graph.specs.HowMany.{one}
use Rattle.graph.proofs.HowManyLaws.{one-most, how_many-most}
use Rattle.graph.specs.Parts.{lowest, Parts, parts_of}
use Rattle.parts_condition.specs.Condition.{PartsChecks}
use Rattle.counting.specs.Counting.{counting_checks, counting_of}
use Rattle.counting.proofs.ConditionLaws.{counting-condition}
use Rattle.answer64.specs.Answer64.{answer64, outcome64}
use Rattle.answer64.proofs.Answer64Laws.{Fits, outcome-answer}
use Rattle.calls_group.specs.Parts.{parts_number, parts_answer, parts_in, parts64, PartsAnswerCondition}

module _ (tags : List ℕ) (seed : ℕ) where
  few : Pass (checks_before 6 (counting_checks tags seed)) → length tags ≤ group_max
  unfolding counting_checks
  few passes = ltb-false group_max (length tags) (false-of-met _ (passed (checks_before 6 (counting_checks tags seed)) passes 5))

  -- A refusal names an index of the group, since check 5 comes before check 6, or 0; and has a number.
  pub parts-place : PlaceBelow group_max (counting_of tags seed)
  unfolding counting_of counting_checks
  parts-place =
      below-checks group_max (counting_checks tags seed) _
      ((λ _. met-below group_max _ (omega arith))
      then (λ _. met-below group_max _ (omega arith))
      then (λ passes. first_below group_max (not_above tags) (length tags) (few passes))
      then (λ _. met-below group_max _ (omega arith))
      then tt)
      (λ _. tt)

  parts-numbered : Numbered (counting_of tags seed)
  unfolding counting_of counting_checks
  parts-numbered = numbered-checks (counting_checks tags seed) _ refl tt

  -- There are no more parts than places.
  parts-few : (parts : Parts) → counting_of tags seed ≡ answered parts → parts.number ≤ group_max
  unfolding counting_of counting_checks parts_of
  parts-few parts e =
      let (passes, told) = in_order-answered (counting_checks tags seed) (answered (parts_of (length tags) (group_under tags seed))) e in
      let same : parts_of (length tags) (group_under tags seed) ≡ parts = cc in
      let size = ltb-false group_max (length tags) (false-of-met _ (passed (counting_checks tags seed) passes 5)) in
      omega (arith, ap (λ (p : Parts). p.number) same, how_many-most (lowest (group_under tags seed)) (λ v. v) (length tags))

-- The number of an answer is taken apart into it.
pub parts-in : (parts : Parts) → parts_in (parts_number parts) ≡ parts
unfolding parts_in parts_number one
parts-in parts = go parts.serves refl
  where
    go : (b : Bool) → parts.serves ≡ b → parts_in (2 * parts.number + one b) ≡ parts
    go true e =
        let rest : (2 * parts.number + 1) % 2 ≡ 1 = omega arith in
        let half : (2 * parts.number + 1) / 2 ≡ parts.number = omega arith in
        rw (rest, half, ← e)
    go false e =
        let rest : (2 * parts.number + 0) % 2 ≡ 0 = omega arith in
        let half : (2 * parts.number + 0) / 2 ≡ parts.number = omega arith in
        rw (rest, half, ← e)

-- So every outcome of counting parts fits,
pub parts-fits : (tags : List ℕ) (seed : ℕ) → Fits (answered_by parts_number (counting_of tags seed))
unfolding answered_by parts_number
parts-fits tags seed = go (counting_of tags seed) (parts-few tags seed) (parts-place tags seed) (parts-numbered tags seed)
  where
    go : (o : Outcome Parts) → ((parts : Parts) → o ≡ answered parts → parts.number ≤ group_max) → PlaceBelow group_max o → Numbered o
        → Fits (answered_by parts_number o)
    go (answered parts) small place numbered = omega (arith, small parts refl, one-most parts.serves)
    go (refused reason place) small low numbered = (numbered, omega arith)

-- and the answer is taken apart into it.
pub parts-answer : (tags : List ℕ) (seed : ℕ) → parts64 (parts_answer tags seed) ≡ counting_of tags seed
unfolding parts_answer parts64 answered_by
parts-answer tags seed = go (counting_of tags seed) (parts-fits tags seed)
  where
    go : (o : Outcome Parts) → Fits (answered_by parts_number o) → parts64 (answer64 (answered_by parts_number o)) ≡ o
    go (answered parts) fits = rw (outcome-answer (answered (parts_number parts)) fits, parts-in parts)
    go (refused reason place) fits = rw (outcome-answer (refused reason place) fits)

-- Calls with one answer came to one outcome.
pub parts-apart : (tags tags' : List ℕ) (seed seed' : ℕ) → parts_answer tags seed ≡ parts_answer tags' seed'
    → counting_of tags seed ≡ counting_of tags' seed'
parts-apart tags tags' seed seed' e = sym (parts-answer tags seed) ∙ ap parts64 e ∙ parts-answer tags' seed'

-- The answer of an outcome that is counting's is what the call owes, with its condition.
pub parts-promised : (tags : List ℕ) (seed r : ℕ) (outcome : Outcome Parts) → outcome ≡ counting_of tags seed
    → r ≡ answer64 (answered_by parts_number outcome) → (r ≡ parts_answer tags seed) × PartsAnswerCondition tags seed r
unfolding parts_answer
parts-promised tags seed r outcome told answer =
    let of-outcome = answer ∙ ap (λ (o : Outcome Parts). answer64 (answered_by parts_number o)) told in
    (of-outcome, rw (of-outcome, parts-answer tags seed) (counting-condition tags seed))

-- A seed serves a group that nothing refuses exactly if the answer is odd.
pub odd-serves : (tags : List ℕ) (seed r : ℕ) → PartsAnswerCondition tags seed r → PartsChecks tags seed
    → (eqb (r % 2) 1 ≡ true) ↔ ((choices : List Bool) × Fills (group_under tags seed) choices)
unfolding parts64 parts_in outcome64 answered_by
odd-serves tags seed r condition checks =
    let (parts, told) = condition.otherwise checks in
    rw (odd parts (ltb r tag_end) told) (condition.counted parts told).first-test
  where
    odd : (parts : Parts) (small : Bool)
        → answered_by parts_in (cond small (answered r) (refused (r / tag_end) (r % tag_end))) ≡ answered parts
        → eqb (r % 2) 1 ≡ parts.serves
    odd parts true e = let same : parts_in r ≡ parts = cc in ap (λ (p : Parts). p.serves) same
    odd parts false e = absurd (let z : ◌≡◌ {A = ℕ} 0 1 = cc in omega arith)
