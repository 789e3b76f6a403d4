-- `tagless_building::tagless_build` meets its contract: each branch is the first check that is met, and nothing is written by then; the
-- condition follows from the two equations. Assumes nothing.
use mathlib.Core.Path.{◌≡◌, refl, sym, ◌∙◌, ap}
use mathlib.Core.List.{List}
use mathlib.Core.Bool.{Bool, false}
use Prim.Native.Nat.{◌≤◌}
use Rattle.refusal.specs.Reason.{refusal_of}
use Rattle.std.specs.Prelude.{Option, Some, None}
use Rattle.refusal.specs.Limits.{limit_max, tags_max, outside}
use Rattle.group.specs.Ascending.{ascending_check}
use Rattle.group.specs.Unwired.{starts_unwired}
use Rattle.tagless_image.specs.Sheet.{tagless_length}
use Prim.Native.Nat.{ℕ}
use lib.ListN.{length}
use borrow.Author.Tests.{lt-ltb, le-ltb}
use Rattle.refusal.specs.Limits.{groups_max}
use Rattle.refusal.proofs.LimitsLaws.{inside}
use Rattle.refusal.specs.Outcome.{Outcome, refused}
use Rattle.refusal.specs.Checks.{Check, Pass}
use Rattle.refusal.specs.ChecksBefore.{checks_before}
use Rattle.refusal.proofs.ChecksLaws.{met-true, met-false, met_by, passed_on}
use Rattle.tagless.specs.Building.{tagless_building_checks}
use Rattle.tagless.proofs.BuildingLaws.{building-refused}
use Rattle.tagless_building.specs.PromiseLaws.{Promised, promised, promised-refusal}
use Rattle.tagless_building.proofs.tagless_build.Goals as goal

module _ (tags : List ℕ) (groups limit : ℕ) (before : List ℕ) where
  -- The checks of the arguments.
  abbrev checks : List Check
  checks = tagless_building_checks tags groups limit (length before)

  -- A check that is met where those before it pass is the refusal.
  due : (number : ℕ) {place : ℕ} {outcome : Outcome ℕ} → outcome ≡ refused number place → Pass (checks_before number checks)
      → met_by checks number ≡ Some place → Promised tags groups limit before outcome before
  due number is passes met =
      promised-refusal tags groups limit before is (building-refused tags groups limit (length before) number passes met)

  -- What has passed on the way to the next check.
  passed-8 : {r : Bool} → r ≡ outside 1 groups_max groups → r ≡ false → Pass (checks_before 4 checks)
  unfolding tagless_building_checks
  passed-8 told e = passed_on checks 8 4 refl tt (met-false (sym told ∙ e))

  passed-4 : {r : Bool} → Pass (checks_before 4 checks) → r ≡ outside 1 limit_max limit → r ≡ false → Pass (checks_before 5 checks)
  unfolding tagless_building_checks
  passed-4 passes told e = passed_on checks 4 5 refl passes (met-false (sym told ∙ e))

  passed-5 : Pass (checks_before 5 checks) → length tags ≤ tags_max → Pass (checks_before 6 checks)
  unfolding tagless_building_checks
  passed-5 passes few = passed_on checks 5 6 refl passes (met-false (le-ltb _ _ few))

  passed-6 : {r : Option ℕ} → Pass (checks_before 6 checks) → r ≡ (ascending_check tags).1 → r ≡ None
      → Pass (checks_before 17 checks)
  unfolding tagless_building_checks
  passed-6 passes told e = passed_on checks 6 17 refl passes (sym told ∙ e)

  passed-17 : {r : Bool} → Pass (checks_before 17 checks) → r ≡ starts_unwired tags → r ≡ false → Pass (checks_before 9 checks)
  unfolding tagless_building_checks
  passed-17 passes told e = passed_on checks 17 9 refl passes (met-false (sym told ∙ e))

  passed-9 : {n : ℕ} → Pass (checks_before 9 checks) → n ≡ tagless_length groups → n ≤ length before → Pass (checks_before 10 checks)
  unfolding tagless_building_checks
  passed-9 passes told long = passed_on checks 9 10 refl passes (met-false (le-ltb _ _ (rw told at long)))

pub returns-then-outside : goal.returns-then-outside
unfolding tagless_building_checks
returns-then-outside c =
    let a = c.args in
    let p = due a.tags.now a.groups a.limit a.buffer.now 8 (ap refusal_of c.into.ensures) tt
    (met-true (sym c.outside.ensures.answer ∙ c.if-outside.true)) in
    record { answer = p.0; bytes = p.1.0; condition = p.1.1 }

pub returns-then-outside-2 : goal.returns-then-outside-2
unfolding tagless_building_checks
returns-then-outside-2 c =
    let a = c.args in
    let p8 = passed-8 a.tags.now a.groups a.limit a.buffer.now c.outside.ensures.answer c.if-outside.false in
    let p = due a.tags.now a.groups a.limit a.buffer.now 4 (ap refusal_of c.into-then-outside-2.ensures) p8
    (met-true (sym c.outside-2.ensures.answer ∙ c.if-outside-2.true)) in
    record { answer = p.0; bytes = p.1.0; condition = p.1.1 }

pub returns-then-tags-gt-TAGS_MAX : goal.returns-then-tags-gt-TAGS_MAX
unfolding tagless_building_checks
returns-then-tags-gt-TAGS_MAX c =
    let a = c.args in
    let p8 = passed-8 a.tags.now a.groups a.limit a.buffer.now c.outside.ensures.answer c.if-outside.false in
    let p4 = passed-4 a.tags.now a.groups a.limit a.buffer.now p8 c.outside-2.ensures.answer c.if-outside-2.false in
    let p = due a.tags.now a.groups a.limit a.buffer.now 5 (ap refusal_of c.into-then-tags-gt-TAGS_MAX.ensures) p4
    (met-true (lt-ltb _ _ c.if-tags-gt-TAGS_MAX.true)) in
    record { answer = p.0; bytes = p.1.0; condition = p.1.1 }

pub returns-in-Some : goal.returns-in-Some
unfolding tagless_building_checks
returns-in-Some c =
    let a = c.args in
    let p8 = passed-8 a.tags.now a.groups a.limit a.buffer.now c.outside.ensures.answer c.if-outside.false in
    let p4 = passed-4 a.tags.now a.groups a.limit a.buffer.now p8 c.outside-2.ensures.answer c.if-outside-2.false in
    let p5 = passed-5 a.tags.now a.groups a.limit a.buffer.now p4 c.if-tags-gt-TAGS_MAX.false in
    let p = due a.tags.now a.groups a.limit a.buffer.now 6 (ap refusal_of c.at.ensures.answer) p5
    (sym c.first_not_above.ensures.answer ∙ c.in-Some.is) in
    record { answer = p.0; bytes = p.1.0; condition = p.1.1 }

pub returns-then-starts_unwired : goal.returns-then-starts_unwired
unfolding tagless_building_checks
returns-then-starts_unwired c =
    let a = c.args in
    let p8 = passed-8 a.tags.now a.groups a.limit a.buffer.now c.outside.ensures.answer c.if-outside.false in
    let p4 = passed-4 a.tags.now a.groups a.limit a.buffer.now p8 c.outside-2.ensures.answer c.if-outside-2.false in
    let p5 = passed-5 a.tags.now a.groups a.limit a.buffer.now p4 c.if-tags-gt-TAGS_MAX.false in
    let p6 = passed-6 a.tags.now a.groups a.limit a.buffer.now p5 c.first_not_above.ensures.answer c.in_default.is in
    let p = due a.tags.now a.groups a.limit a.buffer.now 17 (ap refusal_of c.into-then-starts_unwired.ensures) p6
    (met-true (sym c.starts_unwired.ensures.answer ∙ c.if-starts_unwired.true)) in
    record { answer = p.0; bytes = p.1.0; condition = p.1.1 }

pub image_length-requires : goal.image_length-requires
image_length-requires c = (inside 1 groups_max c.args.groups (sym c.outside.ensures.answer ∙ c.if-outside.false)).1

pub returns-then-buffer-image_length : goal.returns-then-buffer-image_length
unfolding tagless_building_checks
returns-then-buffer-image_length c =
    let a = c.args in
    let p8 = passed-8 a.tags.now a.groups a.limit a.buffer.now c.outside.ensures.answer c.if-outside.false in
    let p4 = passed-4 a.tags.now a.groups a.limit a.buffer.now p8 c.outside-2.ensures.answer c.if-outside-2.false in
    let p5 = passed-5 a.tags.now a.groups a.limit a.buffer.now p4 c.if-tags-gt-TAGS_MAX.false in
    let p6 = passed-6 a.tags.now a.groups a.limit a.buffer.now p5 c.first_not_above.ensures.answer c.in_default.is in
    let p17 = passed-17 a.tags.now a.groups a.limit a.buffer.now p6 c.starts_unwired.ensures.answer c.if-starts_unwired.false in
    let p = due a.tags.now a.groups a.limit a.buffer.now 9 (ap refusal_of c.into-then-buffer-image_length.ensures) p17
    (met-true (lt-ltb _ _ (rw c.image_length.ensures.answer at c.if-buffer-image_length.true))) in
    record { answer = p.0; bytes = p.1.0; condition = p.1.1 }

pub build_admitted-requires : goal.build_admitted-requires
build_admitted-requires c =
    let a = c.args in
    let p8 = passed-8 a.tags.now a.groups a.limit a.buffer.now c.outside.ensures.answer c.if-outside.false in
    let p4 = passed-4 a.tags.now a.groups a.limit a.buffer.now p8 c.outside-2.ensures.answer c.if-outside-2.false in
    let p5 = passed-5 a.tags.now a.groups a.limit a.buffer.now p4 c.if-tags-gt-TAGS_MAX.false in
    let p6 = passed-6 a.tags.now a.groups a.limit a.buffer.now p5 c.first_not_above.ensures.answer c.in_default.is in
    let p17 = passed-17 a.tags.now a.groups a.limit a.buffer.now p6 c.starts_unwired.ensures.answer c.if-starts_unwired.false in
    let p9 = passed-9 a.tags.now a.groups a.limit a.buffer.now p17 c.image_length.ensures.answer c.if-buffer-image_length.false in
    record { passes = p9 }

pub returns : goal.returns
returns c =
    let a = c.args in
    let p = promised a.tags.now a.groups a.limit a.buffer.now c.build_admitted.ensures.answer c.build_admitted.ensures.bytes in
    record { answer = p.0; bytes = p.1.0; condition = p.1.1 }
