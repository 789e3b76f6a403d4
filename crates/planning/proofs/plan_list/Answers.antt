-- `planning::plan_list` meets its contract: each branch is the first check that is met, and the cells are zeros by then. Assumes nothing.
use mathlib.Core.Path.{◌≡◌, refl, sym, ◌∙◌, ap}
use mathlib.Core.List.{List}
use Prim.Native.Nat.{ℕ, ◌≤◌}
use borrow.Author.Tests.{lt-ltb, le-ltb}
use Rattle.refusal.specs.Reason.{refusal_of}
use Rattle.refusal.specs.Outcome.{Outcome, refused}
use Rattle.refusal.specs.Limits.{groups_max, limit_max, tags_max, outside}
use Rattle.group.specs.Ascending.{not_above}
use Rattle.group.specs.Unwired.{starts_unwired}
use Rattle.std.specs.Prelude.{Option, Some, None}
use Rattle.lists.specs.First.{first}
use mathlib.Core.Bool.{Bool, false}
use lib.ListN.{length}
use Rattle.refusal.specs.Checks.{Check, Pass}
use Rattle.refusal.specs.ChecksBefore.{checks_before}
use Rattle.refusal.proofs.ChecksLaws.{met-true, met-false, met_by, passed_on}
use Rattle.numbering.specs.Plan.{no_plan}
use Rattle.numbering.specs.Planning.{earlier_checks}
use Rattle.numbering.proofs.PlanningLaws.{planning-refused}
use Rattle.planning.specs.PromiseLaws.{Promised, promised, promised-refusal}
use Rattle.planning.proofs.plan_list.Goals as goal

module _ (tags : List ℕ) (groups limit : ℕ) where
  -- The checks.
  abbrev checks : List Check
  checks = earlier_checks tags groups limit

  -- A check that is met where those before it pass is the refusal.
  due : (number : ℕ) {place : ℕ} {outcome : Outcome ℕ} → outcome ≡ refused number place
      → Pass (checks_before number checks) → met_by checks number ≡ Some place
      → Promised tags groups limit outcome no_plan
  due number is passes met = promised-refusal tags groups limit is (planning-refused tags groups limit number passes met)

  -- What has passed on the way to the next check.
  passed-8 : {found : Bool} → found ≡ outside 1 groups_max groups → found ≡ false → Pass (checks_before 4 checks)
  unfolding earlier_checks
  passed-8 answer is = passed_on checks 8 4 refl tt (met-false (sym answer ∙ is))

  passed-4 : {found : Bool} → Pass (checks_before 4 checks) → found ≡ outside 1 limit_max limit → found ≡ false
      → Pass (checks_before 5 checks)
  unfolding earlier_checks
  passed-4 before answer is = passed_on checks 4 5 refl before (met-false (sym answer ∙ is))

  passed-5 : Pass (checks_before 5 checks) → length tags ≤ tags_max → Pass (checks_before 6 checks)
  unfolding earlier_checks
  passed-5 before few = passed_on checks 5 6 refl before (met-false (le-ltb _ _ few))

  passed-6 : {found : Option ℕ} → Pass (checks_before 6 checks) → found ≡ first (not_above tags) (length tags)
      → found ≡ None → Pass (checks_before 17 checks)
  unfolding earlier_checks
  passed-6 before answer is = passed_on checks 6 17 refl before (sym answer ∙ is)

  passed-17 : {found : Bool} → Pass (checks_before 17 checks) → found ≡ starts_unwired tags → found ≡ false
      → Pass (checks_before 10 checks)
  unfolding earlier_checks
  passed-17 before answer is = passed_on checks 17 10 refl before (met-false (sym answer ∙ is))

pub returns-then-outside : goal.returns-then-outside
unfolding earlier_checks
returns-then-outside c =
    let both = due c.args.tags.now c.args.groups c.args.limit 8 (ap refusal_of c.into.ensures) tt
    (met-true (sym c.outside.ensures.answer ∙ c.if-outside.true)) in
    record { answer = both.0; plan = both.1.0; condition3 = both.1.1 }

pub returns-then-outside-2 : goal.returns-then-outside-2
unfolding earlier_checks
returns-then-outside-2 c =
    let p8 = passed-8 c.args.tags.now c.args.groups c.args.limit c.outside.ensures.answer c.if-outside.false in
    let both = due c.args.tags.now c.args.groups c.args.limit 4 (ap refusal_of c.into-then-outside-2.ensures) p8
    (met-true (sym c.outside-2.ensures.answer ∙ c.if-outside-2.true)) in
    record { answer = both.0; plan = both.1.0; condition3 = both.1.1 }

pub returns-then-tags-gt-TAGS_MAX : goal.returns-then-tags-gt-TAGS_MAX
unfolding earlier_checks
returns-then-tags-gt-TAGS_MAX c =
    let p8 = passed-8 c.args.tags.now c.args.groups c.args.limit c.outside.ensures.answer c.if-outside.false in
    let p4 = passed-4 c.args.tags.now c.args.groups c.args.limit p8 c.outside-2.ensures.answer c.if-outside-2.false in
    let both = due c.args.tags.now c.args.groups c.args.limit 5 (ap refusal_of c.into-then-tags-gt-TAGS_MAX.ensures) p4
    (met-true (lt-ltb _ _ c.if-tags-gt-TAGS_MAX.true)) in
    record { answer = both.0; plan = both.1.0; condition3 = both.1.1 }

pub returns-in-Some : goal.returns-in-Some
unfolding earlier_checks
returns-in-Some c =
    let p8 = passed-8 c.args.tags.now c.args.groups c.args.limit c.outside.ensures.answer c.if-outside.false in
    let p4 = passed-4 c.args.tags.now c.args.groups c.args.limit p8 c.outside-2.ensures.answer c.if-outside-2.false in
    let p5 = passed-5 c.args.tags.now c.args.groups c.args.limit p4 c.if-tags-gt-TAGS_MAX.false in
    let both = due c.args.tags.now c.args.groups c.args.limit 6 (ap refusal_of c.at.ensures.answer) p5
    (sym c.first_not_above.ensures.answer ∙ c.in-Some.is) in
    record { answer = both.0; plan = both.1.0; condition3 = both.1.1 }

pub returns-then-starts_unwired : goal.returns-then-starts_unwired
unfolding earlier_checks
returns-then-starts_unwired c =
    let p8 = passed-8 c.args.tags.now c.args.groups c.args.limit c.outside.ensures.answer c.if-outside.false in
    let p4 = passed-4 c.args.tags.now c.args.groups c.args.limit p8 c.outside-2.ensures.answer c.if-outside-2.false in
    let p5 = passed-5 c.args.tags.now c.args.groups c.args.limit p4 c.if-tags-gt-TAGS_MAX.false in
    let p6 = passed-6 c.args.tags.now c.args.groups c.args.limit p5 c.first_not_above.ensures.answer c.in_default.is in
    let both = due c.args.tags.now c.args.groups c.args.limit 17 (ap refusal_of c.into-then-starts_unwired.ensures) p6
    (met-true (sym c.starts_unwired.ensures.answer ∙ c.if-starts_unwired.true)) in
    record { answer = both.0; plan = both.1.0; condition3 = both.1.1 }

pub plan_admitted-requires : goal.plan_admitted-requires
plan_admitted-requires c =
    let p8 = passed-8 c.args.tags.now c.args.groups c.args.limit c.outside.ensures.answer c.if-outside.false in
    let p4 = passed-4 c.args.tags.now c.args.groups c.args.limit p8 c.outside-2.ensures.answer c.if-outside-2.false in
    let p5 = passed-5 c.args.tags.now c.args.groups c.args.limit p4 c.if-tags-gt-TAGS_MAX.false in
    let p6 = passed-6 c.args.tags.now c.args.groups c.args.limit p5 c.first_not_above.ensures.answer c.in_default.is in
    let p17 = passed-17 c.args.tags.now c.args.groups c.args.limit p6 c.starts_unwired.ensures.answer c.if-starts_unwired.false in
    (record { passes = p17 }, refl)

pub returns : goal.returns
returns c =
    let both = promised c.args.tags.now c.args.groups c.args.limit c.plan_admitted.ensures.answer c.plan_admitted.ensures.plan in
    record { answer = both.0; plan = both.1.0; condition3 = both.1.1 }
