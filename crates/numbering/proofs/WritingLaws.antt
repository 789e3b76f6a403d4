-- The ways in which writing ends, what it leaves in the buffer, and writing behind a planning that yielded its plan. Assumes nothing.
use Rattle.std.specs.Prelude.{◌≡◌, true, List, [], ◌∷◌, ◌++◌, ℕ, ◌≤◌, ◌<◌, length, drop, None, Some}
use Rattle.std.proofs.Math.Path.{refl, sym}
use Rattle.std.proofs.Common.{◌∙◌, arith}
use borrow.Author.Tests.{ltb-false, le-ltb, not-false}
use Rattle.refusal.specs.Limits.{tags_max, groups_max, group_max, limit_max, seed_max}
use Rattle.refusal.proofs.LimitsLaws.{inside}
use Rattle.refusal.specs.Outcome.{Outcome, answered, refused}
use Rattle.refusal.proofs.OutcomeLaws.{left-answered, left-refused}
use Rattle.lists.specs.First.{first}
use Rattle.lists.proofs.FirstLaws.{first-none, first_out, first_cong}
use Rattle.refusal.specs.Checks.{Check, in_order, Pass}
use Rattle.refusal.specs.ChecksBefore.{checks_before}
use Rattle.refusal.proofs.ChecksLaws.{◌then◌, false-of-met, met_by, passed, pass-before, checks_behind, met-first}
use Rattle.refusal.proofs.ChecksLaws.{in_order-pass, in_order-answered, in_order-append}
use Rattle.filling.specs.Least.{feasible}
use Rattle.filling.proofs.LeastLaws.{fills-feasible, feasible-fills}
use Rattle.group.specs.Group.{group_under}
use Rattle.group.proofs.GroupLaws.{LeastSeed, taken-fills}
use Rattle.group.specs.Ascending.{Ascending}
use Rattle.group.proofs.AscendingLaws.{ascending-of-check, ascending-distinct}
use Rattle.group.specs.Unwired.{FirstWired}
use Rattle.group.proofs.UnwiredLaws.{wired-of-check}
use Rattle.image.specs.Sheet.{image_length, longest_image}
use Rattle.image.proofs.SheetLaws.{bytes-length, image-longest}
use Rattle.numbering.specs.Members.{members}
use Rattle.numbering.proofs.NumberLaws.{AllFill}
use Rattle.numbering.specs.Plan.{plan_of, planned_groups, planned_seed}
use Rattle.numbering.proofs.PlanLaws.{plan-groups, plan-seed, image-agree}
use Rattle.numbering.specs.Planning.{too_large, seedless, earlier_checks, seed_taken}
use Rattle.numbering.proofs.PlanningLaws.{earlier-groups, seed-least}
use Rattle.numbering.specs.Writing.{sheet_of, choices_under, image_under, room_check, seed_above, unfilled, writing_checks, writing_of}
use Rattle.numbering.specs.Writing.{planned_image, written, buffer_written}

-- An image has the length that writing answers, under any seeds.
pub image-length : (groups : ℕ) (tags : List ℕ) (seed : ℕ → ℕ) → length (image_under groups tags seed) ≡ image_length groups (length tags)
unfolding image_under sheet_of
image-length groups tags seed = bytes-length (sheet_of groups tags seed (choices_under groups tags seed))

-- What writing's checks before 18 ask of a list, a plan and a buffer of `room` bytes;
pub record Fit (tags plan : List ℕ) (room : ℕ) : Type 0 where
  pub groups-legal : (1 ≤ planned_groups plan) × (planned_groups plan ≤ groups_max)
  pub seeds-legal : (g : ℕ) → g < planned_groups plan → planned_seed plan g ≤ seed_max
  pub count-legal : length tags ≤ tags_max
  pub ascending : Ascending tags
  pub wired : FirstWired tags
  pub fits : image_length (planned_groups plan) (length tags) ≤ room
  pub groups-small : (g : ℕ) → g < planned_groups plan → length (members (planned_groups plan) g tags) ≤ group_max

-- and with 18 all of them.
pub record Ready (tags plan : List ℕ) (room : ℕ) : Type 0 where
  pub fit : Fit tags plan room
  pub filled : (g : ℕ) → g < planned_groups plan → feasible
      (group_under (members (planned_groups plan) g tags) (planned_seed plan g)) ≡ true

module _ (tags plan : List ℕ) (room : ℕ) where
  abbrev checks : List Check
  checks = writing_checks tags plan room

  -- A check that is met where those before it pass is writing's refusal.
  pub writing-refused : (number : ℕ) {place : ℕ} → Pass (checks_before number checks) → met_by checks number ≡ Some place
      → writing_of tags plan room ≡ refused number place
  unfolding writing_of
  writing-refused number passes e = met-first checks _ number passes e

  pub writing-answered : Pass checks → writing_of tags plan room ≡ answered (image_length (planned_groups plan) (length tags))
  unfolding writing_of
  writing-answered passes = in_order-pass checks _ passes

  -- An answer says that the checks pass, and it is the length.
  pub writing-says : {size : ℕ} → writing_of tags plan room ≡ answered size
      → Pass checks × (image_length (planned_groups plan) (length tags) ≡ size)
  unfolding writing_of
  writing-says e =
      let (passes, answer) = in_order-answered checks (answered (image_length (planned_groups plan) (length tags))) e in
      (passes, cc)

  pub fit-of-pass : Pass (checks_before 18 checks) → Fit tags plan room
  unfolding writing_checks
  fit-of-pass h =
      let check = passed (checks_before 18 checks) h in
      record {
        groups-legal = inside 1 groups_max (planned_groups plan) (false-of-met _ (check 8));
        seeds-legal = λ g lt. ltb-false seed_max (planned_seed plan g) (first-none (seed_above plan) (planned_groups plan) (check 2) g lt);
        count-legal = ltb-false tags_max (length tags) (false-of-met _ (check 5));
        ascending = ascending-of-check tags (check 6);
        wired = wired-of-check tags (check 17);
        fits = ltb-false room (image_length (planned_groups plan) (length tags)) (false-of-met _ (check 9));
        groups-small = λ g lt.
            ltb-false group_max (length (members (planned_groups plan) g tags))
            (first-none (too_large (planned_groups plan) tags) (planned_groups plan) (check 10) g lt);
      }

  pub ready-of-pass : Pass checks → Ready tags plan room
  unfolding writing_checks
  ready-of-pass h = record {
    fit = fit-of-pass (pass-before checks h 18);
    filled = λ g lt. not-false _ (first-none (unfilled tags plan) (planned_groups plan) (passed checks h 18) g lt);
  }

-- Where they pass, the sequences taken fill.
pub ready-fill : {tags plan : List ℕ} {room : ℕ} → Ready tags plan room
    → AllFill (planned_groups plan) tags (planned_seed plan) (choices_under (planned_groups plan) tags (planned_seed plan))
unfolding choices_under
ready-fill {tags} {plan} r = record {
  some-group = r.fit.groups-legal.0;
  differ = ascending-distinct tags r.fit.ascending;
  fills = λ g lt.
      let own = members (planned_groups plan) g tags in
      let (cs, f) = feasible-fills (group_under own (planned_seed plan g)) (r.filled g lt) in
      taken-fills own (planned_seed plan g) cs f;
}

-- The length that writing answers is that of an image of at most 4,096 tags in at most 512 groups.
pub written-most : (tags plan : List ℕ) (room : ℕ) {size : ℕ} → writing_of tags plan room ≡ answered size → size ≤ longest_image
written-most tags plan room e =
    let (passes, is) = writing-says tags plan room e in
    let fit = (ready-of-pass tags plan room passes).fit in
    rw (← is) (image-longest (planned_groups plan) (length tags) fit.groups-legal.1 fit.count-legal)

-- A refusal leaves the buffer as it was; otherwise the image stands at its beginning.
module _ (tags plan before : List ℕ) where
  pub writing-kept : {number place : ℕ} → writing_of tags plan (length before) ≡ refused number place
      → buffer_written tags plan before ≡ before
  unfolding buffer_written written
  writing-kept e = left-refused _ _ e

  pub writing-written : {size : ℕ} → writing_of tags plan (length before) ≡ answered size
      → buffer_written tags plan before ≡ planned_image tags plan ++ drop (length (planned_image tags plan)) before
  unfolding buffer_written written
  writing-written e = left-answered _ _ e

-- Plans with one B and the same first B seeds are written alike: what stands behind is not looked at.
module _ (tags plan other : List ℕ) (same-groups : planned_groups plan ≡ planned_groups other)
    (same-seeds : (g : ℕ) → g < planned_groups plan → planned_seed plan g ≡ planned_seed other g) where
  pub answer-alike : (room : ℕ) → writing_of tags plan room ≡ writing_of tags other room
  unfolding writing_of writing_checks
  answer-alike room =
      rw (
        first_cong (seed_above plan) (seed_above other) (planned_groups plan) (λ g lt. rw (same-seeds g lt)),
        first_cong (unfilled tags plan) (unfilled tags other) (planned_groups plan) (λ g lt. rw (same-seeds g lt, same-groups)),
        same-groups,
      )

  pub buffer-alike : (before : List ℕ) → buffer_written tags plan before ≡ buffer_written tags other before
  unfolding planned_image
  buffer-alike before = go (writing_of tags plan (length before)) refl
    where
      go : (o : Outcome ℕ) → writing_of tags plan (length before) ≡ o → buffer_written tags plan before ≡ buffer_written tags other before
      go (answered size) e =
          let legal = (ready-of-pass tags plan (length before) (writing-says tags plan (length before) e).0).fit.groups-legal in
          let image : planned_image tags plan ≡ planned_image tags other =
          image-agree (planned_groups plan) tags (planned_seed plan) (planned_seed other) legal.0 same-seeds ∙ rw same-groups in
          writing-written tags plan before e
          ∙ sym (writing-written tags other before (sym (answer-alike (length before)) ∙ e) ∙ rw (← image))
      go (refused number place) e =
          writing-kept tags plan before e ∙ sym (writing-kept tags other before (sym (answer-alike (length before)) ∙ e))

-- "writing with the same list and the plan as it was yielded": none of 8, 2, 5, 6, 17, 10 and 18 comes, and 9 decides.
module _ (tags : List ℕ) (groups limit : ℕ) (passes : Pass (earlier_checks tags groups limit))
    (every : first (seedless groups tags limit) groups ≡ None) where
  abbrev yielded : List ℕ
  yielded = plan_of groups (seed_taken groups tags limit)

  least : (g : ℕ) → g < groups → LeastSeed (members groups g tags) limit (seed_taken groups tags limit g)
  least g lt = seed-least tags groups limit g (first-none (seedless groups tags limit) groups every g lt)

  limit-most : limit ≤ limit_max
  unfolding earlier_checks
  limit-most = (inside 1 limit_max limit (false-of-met _ (passed (earlier_checks tags groups limit) passes 4))).1

  seeds-small : first (seed_above yielded) groups ≡ None
  seeds-small =
      first_out (seed_above yielded) groups
      (λ g lt.
      let own = plan-seed groups (seed_taken groups tags limit) g lt in
      le-ltb seed_max (planned_seed yielded g) (omega (arith, own, (least g lt).below, limit-most)))

  all-filled : first (unfilled tags yielded) groups ≡ None
  all-filled = first_out (unfilled tags yielded) groups (λ g lt.
      rw (
        plan-groups groups (seed_taken groups tags limit),
        plan-seed groups (seed_taken groups tags limit) g lt,
        fills-feasible (group_under (members groups g tags) (seed_taken groups tags limit g)) _ (least g lt).fills,
      ) refl)

  pub writing-yielded : (room : ℕ)
      → writing_of tags yielded room ≡ in_order (room_check groups tags room ∷ []) (answered (image_length groups (length tags)))
  unfolding writing_of writing_checks earlier_checks planned_groups plan_of
  writing-yielded room =
      let whole = writing_checks tags yielded room in
      let size = answered (image_length groups (length tags)) in
      let check = passed (earlier_checks tags groups limit) passes in
      in_order-append (checks_before 9 whole) (room_check groups tags room ∷ checks_behind 9 whole) size
      ∙ in_order-pass (checks_before 9 whole) _ (check 8 then seeds-small then check 5 then check 6 then check 17 then tt)
      ∙ in_order-append (room_check groups tags room ∷ []) (checks_behind 9 whole) size
      ∙ rw (in_order-pass (checks_behind 9 whole) size (check 10 then all-filled then tt))

  -- The image under the yielded plan is that under the seeds taken.
  pub image-yielded : planned_image tags yielded ≡ image_under groups tags (seed_taken groups tags limit)
  unfolding planned_image
  image-yielded =
      rw (plan-groups groups (seed_taken groups tags limit))
      (image-agree groups tags (planned_seed yielded) (seed_taken groups tags limit) (earlier-groups tags groups limit passes).0
      (plan-seed groups (seed_taken groups tags limit)))
