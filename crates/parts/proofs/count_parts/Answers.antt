-- `parts::count_parts` meets its contract: each branch is one of the ways in which counting parts ends. Assumes nothing.
use Prim.Native.Nat.{ℕ, ◌≤◌}
use mathlib.Core.Path.{◌≡◌, refl, sym, ◌∙◌, ap}
use mathlib.Core.List.{List}
use Rattle.std.specs.Prelude.{None, Some}
use borrow.Author.Tests.{lt-ltb, le-ltb}
use lib.ListN.{length}
use Rattle.refusal.specs.Limits.{group_max, seed_max}
use Rattle.refusal.specs.Outcome.{Outcome, answered, refused}
use Rattle.refusal.specs.Reason.{refusal_of}
use Rattle.refusal.specs.Checks.{Check, Pass}
use Rattle.refusal.specs.ChecksBefore.{checks_before}
use Rattle.refusal.proofs.ChecksLaws.{met-true, met-false, met_by, passed_on, met-first, in_order-pass}
use Rattle.graph.specs.Parts.{Parts}
use Rattle.parts_condition.specs.Condition.{PartsCondition}
use Rattle.counting.specs.Counting.{counting_checks, counting_of}
use Rattle.counting.proofs.ConditionLaws.{promised}
use Rattle.parts.proofs.count_parts.Goals as goal
use Rattle.parts.proofs.count_parts.Goals.{Start}

abbrev checks : Start → List Check
checks c = counting_checks c.args.tags.now c.args.seed

-- What has passed behind each check.
module _ (tags : List ℕ) (seed : ℕ) where
  passed-2 : seed ≤ seed_max → Pass (checks_before 5 (counting_checks tags seed))
  unfolding counting_checks
  passed-2 low = passed_on (counting_checks tags seed) 2 5 refl tt (met-false (le-ltb _ _ low))

  passed-5 : seed ≤ seed_max → length tags ≤ group_max → Pass (checks_before 6 (counting_checks tags seed))
  unfolding counting_checks
  passed-5 low few = passed_on (counting_checks tags seed) 5 6 refl (passed-2 low) (met-false (le-ltb _ _ few))

  passed-6 : seed ≤ seed_max → length tags ≤ group_max → met_by (counting_checks tags seed) 6 ≡ None
      → Pass (checks_before 17 (counting_checks tags seed))
  unfolding counting_checks
  passed-6 low few = passed_on (counting_checks tags seed) 6 17 refl (passed-5 low few)

-- A check that is met where those before it pass is the refusal.
due : (c : Start) (number : ℕ) {outcome : Outcome Parts} {place : ℕ} → outcome ≡ refused number place
    → Pass (checks_before number (checks c)) → met_by (checks c) number ≡ Some place
    → (outcome ≡ counting_of c.args.tags.now c.args.seed) × PartsCondition c.args.tags.now c.args.seed outcome
unfolding counting_of
due c number is passes met = promised _ _ (is ∙ sym (met-first (checks c) _ number passes met))

pub returns-then-seed-gt-SEED_MAX : goal.returns-then-seed-gt-SEED_MAX
unfolding counting_checks
returns-then-seed-gt-SEED_MAX c =
    let (answer, condition) =
    due (goal.at.returns-then-seed-gt-SEED_MAX c).Start 2 (ap refusal_of c.into.ensures) tt
    (met-true (lt-ltb _ _ c.if-seed-gt-SEED_MAX.true)) in
    record { answer = answer; condition = condition }

pub returns-then-tags : goal.returns-then-tags
unfolding counting_checks
returns-then-tags c =
    let front = passed-2 c.args.tags.now c.args.seed c.if-seed-gt-SEED_MAX.false in
    let (answer, condition) =
    due (goal.at.returns-then-tags c).Start 5 (ap refusal_of c.into-then-tags.ensures) front (met-true (lt-ltb _ _ c.if-tags.true)) in
    record { answer = answer; condition = condition }

pub returns-in-Some : goal.returns-in-Some
unfolding counting_checks
returns-in-Some c =
    let front = passed-5 c.args.tags.now c.args.seed c.if-seed-gt-SEED_MAX.false c.if-tags.false in
    let (answer, condition) =
    due (goal.at.returns-in-Some c).Start 6 (ap refusal_of c.at.ensures.answer) front (sym c.in-Some.ensures.answer) in
    record { answer = answer; condition = condition }

pub returns-then-starts_unwired : goal.returns-then-starts_unwired
unfolding counting_checks
returns-then-starts_unwired c =
    let up = sym c.in_default.ensures.answer in
    let front = passed-6 c.args.tags.now c.args.seed c.if-seed-gt-SEED_MAX.false c.if-tags.false up in
    let (answer, condition) =
    due (goal.at.returns-then-starts_unwired c).Start 17 (ap refusal_of c.into-then-starts_unwired.ensures) front
    (met-true (sym c.starts_unwired.ensures.answer ∙ c.if-starts_unwired.true)) in
    record { answer = answer; condition = condition }

pub returns : goal.returns
unfolding counting_checks counting_of
returns c =
    let checks = counting_checks c.args.tags.now c.args.seed in
    let up = sym c.in_default.ensures.answer in
    let front = passed-6 c.args.tags.now c.args.seed c.if-seed-gt-SEED_MAX.false c.if-tags.false up in
    let passes = passed_on checks 17 0 refl front (met-false (sym c.starts_unwired.ensures.answer ∙ c.if-starts_unwired.false)) in
    let (answer, condition) = promised _ _ (ap answered c.parts_under.ensures.answer ∙ sym (in_order-pass checks _ passes)) in
    record { answer = answer; condition = condition }
