-- `writing::write_list` meets its contract: each branch is the first check that is met, and the buffer is as it was by then.
-- Assumes nothing.
use mathlib.Core.Path.{◌≡◌, refl, sym, ◌∙◌, ap}
use mathlib.Core.List.{List}
use Prim.Native.Nat.{ℕ, ◌≤◌, ◌<◌}
use native.Mathlib.Omega.{arith}
use lib.ListN.{length, get_or}
use borrow.Author.Rules.{rules}
use borrow.Author.Tests.{lt-ltb, le-ltb}
use Rattle.refusal.specs.Reason.{refusal_of}
use Rattle.refusal.specs.Limits.{groups_max, tags_max, tag_end, outside}
use Rattle.refusal.proofs.LimitsLaws.{inside}
use Rattle.refusal.specs.Outcome.{Outcome, refused}
use Rattle.std.specs.Prelude.{Option, Some, None}
use Rattle.group.specs.Ascending.{not_above}
use Rattle.group.specs.Unwired.{starts_unwired}
use Rattle.lists.specs.First.{first}
use Rattle.image.specs.Sheet.{image_length}
use mathlib.Core.Bool.{Bool, false}
use Rattle.refusal.specs.Checks.{Check, Pass}
use Rattle.refusal.specs.ChecksBefore.{checks_before}
use Rattle.refusal.proofs.ChecksLaws.{met-true, met-false, met_by, passed_on}
use Rattle.numbering.specs.Plan.{planned_groups}
use Rattle.numbering.specs.Writing.{writing_checks, seed_above}
use Rattle.numbering.proofs.WritingLaws.{writing-refused}
use Rattle.writing.specs.PromiseLaws.{Promised, promised, promised-refusal}
use Rattle.writing.proofs.write_list.Goals as goal

module _ (tags plan before : List ℕ) where
  -- The checks.
  abbrev checks : List Check
  checks = writing_checks tags plan (length before)

  -- A check that is met where those before it pass is the refusal.
  due : ((i : ℕ) → get_or tags i 0 < tag_end) → (number : ℕ) {place : ℕ} {outcome : Outcome ℕ} → outcome ≡ refused number place
      → Pass (checks_before number checks) → met_by checks number ≡ Some place
      → Promised tags plan before outcome before
  due words number is passes met =
      promised-refusal tags plan before words is (writing-refused tags plan (length before) number passes met)

  -- What has passed on the way to the next check.
  passed-8 : {found : Bool} → found ≡ outside 1 groups_max (planned_groups plan) → found ≡ false → Pass (checks_before 2 checks)
  unfolding writing_checks
  passed-8 answer is = passed_on checks 8 2 refl tt (met-false (sym answer ∙ is))

  passed-2 : {found : Option ℕ} → Pass (checks_before 2 checks) → found ≡ first (seed_above plan) (planned_groups plan)
      → found ≡ None → Pass (checks_before 5 checks)
  unfolding writing_checks
  passed-2 earlier answer is = passed_on checks 2 5 refl earlier (sym answer ∙ is)

  passed-5 : Pass (checks_before 5 checks) → length tags ≤ tags_max → Pass (checks_before 6 checks)
  unfolding writing_checks
  passed-5 earlier few = passed_on checks 5 6 refl earlier (met-false (le-ltb _ _ few))

  passed-6 : {found : Option ℕ} → Pass (checks_before 6 checks) → found ≡ first (not_above tags) (length tags)
      → found ≡ None → Pass (checks_before 17 checks)
  unfolding writing_checks
  passed-6 earlier answer is = passed_on checks 6 17 refl earlier (sym answer ∙ is)

  passed-17 : {found : Bool} → Pass (checks_before 17 checks) → found ≡ starts_unwired tags → found ≡ false
      → Pass (checks_before 9 checks)
  unfolding writing_checks
  passed-17 earlier answer is = passed_on checks 17 9 refl earlier (met-false (sym answer ∙ is))

  passed-9 : {size : ℕ} → Pass (checks_before 9 checks) → size ≡ image_length (planned_groups plan) (length tags) → size ≤ length before
      → Pass (checks_before 10 checks)
  unfolding writing_checks
  passed-9 earlier answer fits = passed_on checks 9 10 refl earlier (met-false (le-ltb _ _ (rw answer at fits)))

groups-legal : (plan : List ℕ) {found : Bool} → found ≡ outside 1 groups_max (planned_groups plan) → found ≡ false
    → (1 ≤ planned_groups plan) × (planned_groups plan ≤ groups_max)
groups-legal plan answer is = inside 1 groups_max _ (sym answer ∙ is)

pub returns-then-outside : goal.returns-then-outside
unfolding writing_checks planned_groups
returns-then-outside c =
    let both = due c.args.tags.now c.args.plan.now c.args.buffer.now (λ i. omega (arith, c.type_inv.tags i))
    8 (ap refusal_of c.into.ensures) tt
    (met-true (sym c.outside.ensures.answer ∙ c.if-outside.true)) in
    record { answer = both.0; bytes = both.1.0; condition3 = both.1.1 }

pub overflow_cast-groups : goal.overflow_cast-groups
unfolding planned_groups
overflow_cast-groups c =
    let legal = groups-legal c.args.plan.now c.outside.ensures.answer c.if-outside.false in
    search (rules, legal.1)

pub first_seed_above-requires : goal.first_seed_above-requires
unfolding planned_groups
first_seed_above-requires c =
    let legal = groups-legal c.args.plan.now c.outside.ensures.answer c.if-outside.false in
    omega (arith, legal)

pub returns-in-Some : goal.returns-in-Some
unfolding writing_checks planned_groups
returns-in-Some c =
    let p8 = passed-8 c.args.tags.now c.args.plan.now c.args.buffer.now c.outside.ensures.answer c.if-outside.false in
    let both = due c.args.tags.now c.args.plan.now c.args.buffer.now
    (λ i. omega (arith, c.type_inv.tags i)) 2 (ap refusal_of c.at.ensures.answer) p8
    (sym c.first_seed_above.ensures.answer ∙ c.in-Some.is) in
    record { answer = both.0; bytes = both.1.0; condition3 = both.1.1 }

pub returns-then-tags-gt-TAGS_MAX : goal.returns-then-tags-gt-TAGS_MAX
unfolding writing_checks planned_groups
returns-then-tags-gt-TAGS_MAX c =
    let p8 = passed-8 c.args.tags.now c.args.plan.now c.args.buffer.now c.outside.ensures.answer c.if-outside.false in
    let p2 = passed-2 c.args.tags.now c.args.plan.now c.args.buffer.now p8 c.first_seed_above.ensures.answer c.in_default.is in
    let both = due c.args.tags.now c.args.plan.now c.args.buffer.now
    (λ i. omega (arith, c.type_inv.tags i)) 5 (ap refusal_of c.into-then-tags-gt-TAGS_MAX.ensures) p2
    (met-true (lt-ltb _ _ c.if-tags-gt-TAGS_MAX.true)) in
    record { answer = both.0; bytes = both.1.0; condition3 = both.1.1 }

pub returns-in-Some-first_not_above : goal.returns-in-Some-first_not_above
unfolding writing_checks planned_groups
returns-in-Some-first_not_above c =
    let p8 = passed-8 c.args.tags.now c.args.plan.now c.args.buffer.now c.outside.ensures.answer c.if-outside.false in
    let p2 = passed-2 c.args.tags.now c.args.plan.now c.args.buffer.now p8 c.first_seed_above.ensures.answer c.in_default.is in
    let p5 = passed-5 c.args.tags.now c.args.plan.now c.args.buffer.now p2 c.if-tags-gt-TAGS_MAX.false in
    let both = due c.args.tags.now c.args.plan.now c.args.buffer.now
    (λ i. omega (arith, c.type_inv.tags i)) 6 (ap refusal_of c.at-in-Some-first_not_above.ensures.answer) p5
    (sym c.first_not_above.ensures.answer ∙ c.in-Some-first_not_above.is) in
    record { answer = both.0; bytes = both.1.0; condition3 = both.1.1 }

pub returns-then-starts_unwired : goal.returns-then-starts_unwired
unfolding writing_checks planned_groups
returns-then-starts_unwired c =
    let p8 = passed-8 c.args.tags.now c.args.plan.now c.args.buffer.now c.outside.ensures.answer c.if-outside.false in
    let p2 = passed-2 c.args.tags.now c.args.plan.now c.args.buffer.now p8 c.first_seed_above.ensures.answer c.in_default.is in
    let p5 = passed-5 c.args.tags.now c.args.plan.now c.args.buffer.now p2 c.if-tags-gt-TAGS_MAX.false in
    let p6 = passed-6 c.args.tags.now c.args.plan.now c.args.buffer.now p5
    c.first_not_above.ensures.answer c.in_default-first_not_above.is in
    let both = due c.args.tags.now c.args.plan.now c.args.buffer.now
    (λ i. omega (arith, c.type_inv.tags i)) 17 (ap refusal_of c.into-then-starts_unwired.ensures) p6
    (met-true (sym c.starts_unwired.ensures.answer ∙ c.if-starts_unwired.true)) in
    record { answer = both.0; bytes = both.1.0; condition3 = both.1.1 }

pub image_length-requires : goal.image_length-requires
unfolding planned_groups
image_length-requires c =
    let legal = groups-legal c.args.plan.now c.outside.ensures.answer c.if-outside.false in
    (legal.1, c.if-tags-gt-TAGS_MAX.false)

pub returns-then-buffer-image_length : goal.returns-then-buffer-image_length
unfolding writing_checks planned_groups
returns-then-buffer-image_length c =
    let p8 = passed-8 c.args.tags.now c.args.plan.now c.args.buffer.now c.outside.ensures.answer c.if-outside.false in
    let p2 = passed-2 c.args.tags.now c.args.plan.now c.args.buffer.now p8 c.first_seed_above.ensures.answer c.in_default.is in
    let p5 = passed-5 c.args.tags.now c.args.plan.now c.args.buffer.now p2 c.if-tags-gt-TAGS_MAX.false in
    let p6 = passed-6 c.args.tags.now c.args.plan.now c.args.buffer.now p5
    c.first_not_above.ensures.answer c.in_default-first_not_above.is in
    let p17 = passed-17 c.args.tags.now c.args.plan.now c.args.buffer.now p6 c.starts_unwired.ensures.answer c.if-starts_unwired.false in
    let both = due c.args.tags.now c.args.plan.now c.args.buffer.now
    (λ i. omega (arith, c.type_inv.tags i)) 9 (ap refusal_of c.into-then-buffer-image_length.ensures) p17
    (met-true (lt-ltb _ _ (rw c.image_length.ensures.answer at c.if-buffer-image_length.true))) in
    record { answer = both.0; bytes = both.1.0; condition3 = both.1.1 }

pub write_admitted-requires : goal.write_admitted-requires
unfolding planned_groups
write_admitted-requires c =
    let p8 = passed-8 c.args.tags.now c.args.plan.now c.args.buffer.now c.outside.ensures.answer c.if-outside.false in
    let p2 = passed-2 c.args.tags.now c.args.plan.now c.args.buffer.now p8 c.first_seed_above.ensures.answer c.in_default.is in
    let p5 = passed-5 c.args.tags.now c.args.plan.now c.args.buffer.now p2 c.if-tags-gt-TAGS_MAX.false in
    let p6 = passed-6 c.args.tags.now c.args.plan.now c.args.buffer.now p5
    c.first_not_above.ensures.answer c.in_default-first_not_above.is in
    let p17 = passed-17 c.args.tags.now c.args.plan.now c.args.buffer.now p6 c.starts_unwired.ensures.answer c.if-starts_unwired.false in
    let p9 = passed-9 c.args.tags.now c.args.plan.now c.args.buffer.now p17 c.image_length.ensures.answer c.if-buffer-image_length.false in
    record { groups-are = refl; cells = search rules; passes = p9 }

pub returns : goal.returns
returns c =
    let both = promised c.args.tags.now c.args.plan.now c.args.buffer.now
    (λ i. omega (arith, c.type_inv.tags i)) c.write_admitted.ensures.answer c.write_admitted.ensures.bytes in
    record { answer = both.0; bytes = both.1.0; condition3 = both.1.1 }
