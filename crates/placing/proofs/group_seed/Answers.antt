-- `placing::group_seed` meets its contract: each branch is one of the ways in which placing ends. Assumes nothing.
use Prim.Native.Nat.{ℕ, ◌≤◌}
use mathlib.Core.Path.{◌≡◌, refl, sym, ◌∙◌, ap}
use mathlib.Core.List.{List}
use Rattle.std.specs.Prelude.{None, Some}
use borrow.Author.Tests.{lt-ltb, le-ltb}
use lib.ListN.{length}
use Rattle.refusal.specs.Limits.{group_max}
use Rattle.refusal.specs.Outcome.{Outcome, refused, answered_by}
use Rattle.refusal.specs.Reason.{refusal_of}
use Rattle.refusal.proofs.OutcomeLaws.{by-answered, by-refused}
use Rattle.refusal.proofs.AnswerLaws.{raised, ok_or-ok, ok_or-err}
use Rattle.refusal.specs.Checks.{Check, Pass}
use Rattle.refusal.specs.ChecksBefore.{checks_before}
use Rattle.refusal.proofs.ChecksLaws.{met-true, met-false, met_by, passed_on}
use Rattle.group.specs.Placing.{Placement, placing_checks, placing_of}
use Rattle.placing.proofs.PlacingLaws.{placing-refused, Placeable, limit-legal, few, placing-unseeded, placing-seeded}
use Rattle.placing.proofs.group_seed.Goals as goal
use Rattle.placing.proofs.group_seed.Goals.{Else-starts_unwired, Start}

abbrev checks : Start → List Check
checks c = placing_checks c.args.tags.now c.args.limit

-- What has passed behind each check.
module _ (tags : List ℕ) (limit : ℕ) where
  passed-4 : met_by (placing_checks tags limit) 4 ≡ None → Pass (checks_before 5 (placing_checks tags limit))
  unfolding placing_checks
  passed-4 = passed_on (placing_checks tags limit) 4 5 refl tt

  passed-5 : met_by (placing_checks tags limit) 4 ≡ None → length tags ≤ group_max → Pass (checks_before 6 (placing_checks tags limit))
  unfolding placing_checks
  passed-5 inside few = passed_on (placing_checks tags limit) 5 6 refl (passed-4 inside) (met-false (le-ltb _ _ few))

  passed-6 : met_by (placing_checks tags limit) 4 ≡ None → length tags ≤ group_max → met_by (placing_checks tags limit) 6 ≡ None
      → Pass (checks_before 17 (placing_checks tags limit))
  unfolding placing_checks
  passed-6 inside few = passed_on (placing_checks tags limit) 6 17 refl (passed-5 inside few)

placeable : (c : Else-starts_unwired) → Placeable c.args.tags.now c.args.limit
unfolding placing_checks
placeable c =
    let tags = c.args.tags.now in
    let limit = c.args.limit in
    let inside = met-false (sym c.outside.ensures.answer ∙ c.if-outside.false) in
    let up = sym c.first_not_above.ensures.answer ∙ c.in_default.is in
    let wired = met-false (sym c.starts_unwired.ensures.answer ∙ c.if-starts_unwired.false) in
    record { passes = passed_on (placing_checks tags limit) 17 7 refl (passed-6 tags limit inside c.if-tags.false up) wired }

-- A refusal of placing is one of the seed.
due : (c : Start) (number : ℕ) {outcome : Outcome ℕ} {place : ℕ} → outcome ≡ refused number place
    → Pass (checks_before number (checks c)) → met_by (checks c) number ≡ Some place
    → outcome ≡ answered_by (λ (placed : Placement). placed.seed) (placing_of c.args.tags.now c.args.limit)
due c number is passes met = is ∙ sym (by-refused _ (placing-refused _ _ number passes met))

pub returns-then-outside : goal.returns-then-outside
unfolding placing_checks
returns-then-outside c =
    record {
      answer = due (goal.at.returns-then-outside c).Start 4 (ap refusal_of c.into.ensures) tt
          (met-true (sym c.outside.ensures.answer ∙ c.if-outside.true));
    }

pub returns-then-tags : goal.returns-then-tags
unfolding placing_checks
returns-then-tags c =
    let inside = met-false (sym c.outside.ensures.answer ∙ c.if-outside.false) in
    record {
      answer = due (goal.at.returns-then-tags c).Start 5 (ap refusal_of c.into-then-tags.ensures)
          (passed-4 c.args.tags.now c.args.limit inside)
          (met-true (lt-ltb _ _ c.if-tags.true));
    }

pub returns-in-Some : goal.returns-in-Some
unfolding placing_checks
returns-in-Some c =
    let inside = met-false (sym c.outside.ensures.answer ∙ c.if-outside.false) in
    record {
      answer = due (goal.at.returns-in-Some c).Start 6 (ap refusal_of c.at.ensures.answer) (passed-5 c.args.tags.now c.args.limit inside
          c.if-tags.false)
          (sym c.first_not_above.ensures.answer ∙ c.in-Some.is);
    }

pub returns-then-starts_unwired : goal.returns-then-starts_unwired
unfolding placing_checks
returns-then-starts_unwired c =
    let inside = met-false (sym c.outside.ensures.answer ∙ c.if-outside.false) in
    let up = sym c.first_not_above.ensures.answer ∙ c.in_default.is in
    record {
      answer = due (goal.at.returns-then-starts_unwired c).Start 17 (ap refusal_of c.into-then-starts_unwired.ensures)
          (passed-6 c.args.tags.now c.args.limit inside c.if-tags.false up)
          (met-true (sym c.starts_unwired.ensures.answer ∙ c.if-starts_unwired.true));
    }

pub least_seed-requires : goal.least_seed-requires
least_seed-requires c =
    let p = placeable (goal.at.least_seed-requires c).Else-starts_unwired in
    (few p, (limit-legal p).1, refl)

pub returns-in_err-ok_or : goal.returns-in_err-ok_or
returns-in_err-ok_or c =
    let (nothing, same) = ok_or-err _ _ c.in_err-ok_or.ensures.value in
    let p = placeable (goal.at.returns-in_err-ok_or c).Else-starts_unwired in
    record {
      answer = raised _ _ (rw same at c.from_residual.ensures)
          ∙ sym (by-refused _ (placing-unseeded p (sym c.least_seed.ensures.answer ∙ nothing)));
    }

pub returns : goal.returns
returns c =
    let seed = sym c.least_seed.ensures.answer ∙ ok_or-ok _ _ c.in_ok-ok_or.ensures.value in
    record { answer = sym (by-answered _ (placing-seeded (placeable (goal.at.returns c).Else-starts_unwired) seed)) }
