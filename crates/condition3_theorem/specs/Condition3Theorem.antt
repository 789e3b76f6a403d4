-- Condition 3 holds of planning, writing and building as they are defined, for every list, group count, seed limit, plan and buffer.
-- Assumes nothing.
use Rattle.std.specs.Prelude.{◌≡◌, refl, Bool, true, cond, List, ℕ, ◌+◌, ◌*◌, ◌≤◌, ◌<◌, length, get_or, take, drop, Option, None, Some}
use Rattle.std.proofs.Math.Path.{sym}
use Rattle.std.proofs.Common.{◌∙◌, arith, take_at}
use Rattle.std.proofs.Math.Bool.{false}
use borrow.Author.Tests.{ltb-false, le-ltb, not-true}
use Rattle.refusal.specs.Limits.{tag_end, tags_max, groups_max, group_max, limit_max, seed_max, unwired}
use Rattle.refusal.proofs.LimitsLaws.{outside-not, inside}
use Rattle.refusal.specs.Outcome.{Outcome, answered, refused}
use Rattle.lists.specs.First.{first, is_some}
use Rattle.lists.proofs.FirstLaws.{first_some, first-none, first_found, first_out, none-of-is_some}
use Rattle.refusal.specs.Checks.{Check, Pass}
use Rattle.refusal.proofs.ChecksLaws.{◌then◌, met-false, false-of-met, passed, in_order-pass}
use Rattle.lists.specs.Occurs.{occurs}
use Rattle.lists.proofs.OccursLaws.{occurs-get_or}
use Rattle.group.specs.Group.{least_seed, taken}
use Rattle.group.proofs.GroupLaws.{LeastSeed, least_seed-none, taken-least}
use Rattle.group.specs.Ascending.{Ascending}
use Rattle.group.proofs.AscendingLaws.{ascending-of-check, check-of-ascending, ascending-distinct}
use Rattle.group.specs.Unwired.{FirstWired}
use Rattle.group.proofs.UnwiredLaws.{wired-of-check, check-of-wired, wired-absent}
use Rattle.image.specs.Sheet.{Sheet, image_length}
use Rattle.image.proofs.SheetLaws.{group_at_lem}
use Rattle.image.specs.View.{view_of}
use Rattle.image.specs.Checking.{checking_checks, checking_of}
use Rattle.image.proofs.CheckedLookupLaws.{Sound, pass-of-sound, Looked, image-ends}
use Rattle.image.specs.Lookup.{number, unknown, lookup_of}
use Rattle.numbering.specs.Members.{members}
use Rattle.numbering.proofs.MembersLaws.{start-all, start-before}
use Rattle.numbering.specs.Number.{number_of, tag_numbered}
use Rattle.numbering.proofs.NumberLaws.{number-below, number-apart, number-onto, AllFill, all_placed, tag_numbered-is}
use Rattle.numbering.specs.Plan.{planned_groups, planned_seed}
use Rattle.numbering.proofs.PlanLaws.{plan-groups, plan-seed, no-plan-groups}
use Rattle.numbering.specs.Planning.{too_large, seedless, earlier_checks, planning_of, seed_taken, plan_after}
use Rattle.numbering.proofs.PlanningLaws.{planning-seedless, planning-answered, planning-says, planning-seven, plan-yielded, plan-refused}
use Rattle.numbering.proofs.PlanningLaws.{seed-least}
use Rattle.numbering.specs.Writing.{sheet_of, choices_under, image_under, planned_image, writing_of, buffer_written}
use Rattle.numbering.proofs.WritingLaws.{image-length, Ready, ready-of-pass, ready-fill, writing-says, writing-written}
use Rattle.numbering.specs.Building.{choices_taken, image_of, building_of, buffer_after}
use Rattle.numbering.proofs.BuildingLaws.{building-seedless, building-answered, building-short, building-seven}
use Rattle.numbering.proofs.BuildingLaws.{answered-says, buffer-as-written, building-as-written, buffer-written}
use Rattle.condition3_theorem.specs.BuiltLaws.{Reads, InRange, reads-back, built-many, built-sound, built-listed, built-unlisted}
use Rattle.condition3.specs.Condition3.{NothingFills, HasSeed, LowestWithout, EarlierChecks, Serves, SeedCondition3}
use Rattle.condition3.specs.Condition3.{PlanningCondition3, Accepted, WritingCondition3, Condition3}

module _ (tags : List ℕ) (groups limit : ℕ) where
  unseeded : (g : ℕ) → seedless groups tags limit g ≡ true → (s : ℕ) → s < limit → NothingFills groups tags g s
  unseeded g e =
      let own = members groups g tags in
      least_seed-none own limit (none-of-is_some (least_seed own limit) (not-true (is_some (least_seed own limit)) e))

  -- The lowest group without a seed, by the first index that passes the test.
  lowest-of-first : (g : ℕ) → first (seedless groups tags limit) groups ≡ Some g → LowestWithout groups tags limit g
  unfolding choices_under
  lowest-of-first g e =
      let at = first_some (seedless groups tags limit) groups e in
      record {
        group = at.below;
        without = unseeded g at.holds;
        lower = λ h lt.
            let has = seed-least tags groups limit h (at.lowest h lt) in
            record {
              seed = seed_taken groups tags limit h;
              below = has.below;
              choices = choices_taken groups tags limit h;
              fills = has.fills;
            };
      }

  first-of-lowest : (g : ℕ) → LowestWithout groups tags limit g → first (seedless groups tags limit) groups ≡ Some g
  first-of-lowest g low =
      first_found (seedless groups tags limit) groups g low.group (here (seedless groups tags limit g) refl)
      (λ h lt. there h (low.lower h lt) (seedless groups tags limit h) refl)
    where
      here : (b : Bool) → seedless groups tags limit g ≡ b → seedless groups tags limit g ≡ true
      here true e = e
      here false e =
          let has = seed-least tags groups limit g e in
          let seed = seed_taken groups tags limit g in
          absurd (low.without seed has.below (taken (members groups g tags) seed) has.fills)

      there : (h : ℕ) → HasSeed groups tags limit h → (b : Bool) → seedless groups tags limit h ≡ b → seedless groups tags limit h ≡ false
      there h has true e = absurd (unseeded h e has.seed has.below has.choices has.fills)
      there h has false e = e

  none-of-never : ((g : ℕ) → LowestWithout groups tags limit g → ⊥) → first (seedless groups tags limit) groups ≡ None
  none-of-never never = go (first (seedless groups tags limit) groups) refl
    where
      go : (o : Option ℕ) → first (seedless groups tags limit) groups ≡ o → first (seedless groups tags limit) groups ≡ None
      go None e = e
      go (Some g) e = absurd (never g (lowest-of-first g e))

  abbrev earlier : List Check
  earlier = earlier_checks tags groups limit

  -- The checks before 7 pass exactly where the conditions on the inputs hold: one line for each, in their order.
  pub pass-of-earlier : EarlierChecks tags groups limit → Pass earlier
  unfolding earlier_checks
  pass-of-earlier h =
      met-false (outside-not 1 groups_max groups h.groups-legal.0 h.groups-legal.1)
      then met-false (outside-not 1 limit_max limit h.limit-legal.0 h.limit-legal.1)
      then met-false (le-ltb tags_max (length tags) h.count-legal)
      then check-of-ascending tags h.ascending
      then check-of-wired tags h.wired
      then first_out (too_large groups tags) groups small
      then tt
    where
      small : (g : ℕ) → g < groups → too_large groups tags g ≡ false
      small g lt = le-ltb group_max (length (members groups g tags)) (h.groups-small g lt)

  pub earlier-of-pass : Pass earlier → EarlierChecks tags groups limit
  unfolding earlier_checks
  earlier-of-pass h = record {
    groups-legal = inside 1 groups_max groups (false-of-met _ (passed earlier h 8));
    limit-legal = inside 1 limit_max limit (false-of-met _ (passed earlier h 4));
    count-legal = ltb-false tags_max (length tags) (false-of-met _ (passed earlier h 5));
    ascending = ascending-of-check tags (passed earlier h 6);
    wired = wired-of-check tags (passed earlier h 17);
    groups-small = λ g lt.
        let small = first-none (too_large groups tags) groups (passed earlier h 10) g lt in
        ltb-false group_max (length (members groups g tags)) small;
  }

  -- The yielded plan has each group's least seed.
  module _ {planned : ℕ} (e : planning_of tags groups limit ≡ answered planned) where
    takes : (g : ℕ) → g < groups → LeastSeed (members groups g tags) limit (seed_taken groups tags limit g)
    takes g lt =
        seed-least tags groups limit g (first-none (seedless groups tags limit) groups (planning-says tags groups limit e).1 g lt)

    groups-planned : planned_groups (plan_after tags groups limit) ≡ groups
    groups-planned = rw (plan-yielded tags groups limit e) (plan-groups groups (seed_taken groups tags limit))

    seed-planned : (g : ℕ) → g < groups → planned_seed (plan_after tags groups limit) g ≡ seed_taken groups tags limit g
    seed-planned g lt = rw (plan-yielded tags groups limit e) (plan-seed groups (seed_taken groups tags limit) g lt)

    yielded-serves : Serves tags groups limit (plan_after tags groups limit)
    unfolding choices_under
    yielded-serves = record {
      groups-are = groups-planned;
      below-limit = λ g lt. rw (seed-planned g lt) (takes g lt).below;
      serving = choices_taken groups tags limit;
      served = λ g lt. rw (seed-planned g lt) (takes g lt).fills;
    }

  -- What is below a seed of the plan is passed over, whether planning answered or not.
  plan-passed : (g : ℕ) → g < planned_groups (plan_after tags groups limit) → (s : ℕ) → s < planned_seed (plan_after tags groups limit) g
      → NothingFills groups tags g s
  plan-passed g lt s below = go (planning_of tags groups limit) refl
    where
      go : (o : Outcome ℕ) → planning_of tags groups limit ≡ o → NothingFills groups tags g s
      go (answered planned) e =
          let inside = rw (groups-planned e) at lt in
          (takes e g inside).passed s (rw (seed-planned e g inside) at below)
      go (refused reason place) e = absurd (omega (arith, rw (plan-refused tags groups limit e) at lt, no-plan-groups))

  -- What the plan and an answer owe, where the answer has 7 exactly as planning has, and comes only behind planning's.
  seed-condition3 : (answer : Outcome ℕ) → ((accepted : ℕ) → answer ≡ answered accepted → planning_of tags groups limit ≡ answered groups)
      → ((g : ℕ) → answer ≡ refused 7 g → first (seedless groups tags limit) groups ≡ Some g)
      → (Pass earlier → (g : ℕ) → first (seedless groups tags limit) groups ≡ Some g → answer ≡ refused 7 g)
      → SeedCondition3 tags groups limit answer (plan_after tags groups limit)
  seed-condition3 answer behind seven due = record {
    serves = λ accepted e. yielded-serves (behind accepted e);
    passed_over = plan-passed;
    no-seed = λ g e. (lowest-of-first g (seven g e)).without;
    refused-7 = λ h g. (λ e. lowest-of-first g (seven g e), λ low. due (pass-of-earlier h) g (first-of-lowest g low));
    otherwise-serves = λ h never. yielded-serves (planning-answered tags groups limit (pass-of-earlier h) (none-of-never never));
  }

  -- Planning.
  pub planning-condition3 : PlanningCondition3 tags groups limit (planning_of tags groups limit) (plan_after tags groups limit)
  planning-condition3 = record {
    seeds = seed-condition3 (planning_of tags groups limit)
        (λ accepted e. rw (← (planning-says tags groups limit e).2) at e)
        (λ g e. planning-seven tags groups limit e)
        (λ passes g e. planning-seedless tags groups limit passes e);
    otherwise = λ h never. planning-answered tags groups limit (pass-of-earlier h) (none-of-never never);
  }

-- Seeds under which some sequence fills every group of a list, all in their ranges.
pub record Seeded (tags : List ℕ) (groups : ℕ) (seed : ℕ → ℕ) : Type 0 where
  pub groups-legal : (1 ≤ groups) × (groups ≤ groups_max)
  pub seeds-legal : (g : ℕ) → g < groups → seed g ≤ seed_max
  pub count-legal : length tags ≤ tags_max
  pub ascending : Ascending tags
  pub wired : FirstWired tags
  pub groups-small : (g : ℕ) → g < groups → length (members groups g tags) ≤ group_max
  pub fill : AllFill groups tags seed (choices_under groups tags seed)

module _ {tags : List ℕ} {groups : ℕ} {seed : ℕ → ℕ} (words : (t : ℕ) → occurs t tags ≡ true → t < tag_end)
    (h : Seeded tags groups seed) where
  abbrev choices : ℕ → List Bool
  choices = choices_under groups tags seed

  abbrev sheet : Sheet
  sheet = sheet_of groups tags seed choices

  abbrev image : List ℕ
  image = image_under groups tags seed

  in-range : InRange sheet
  unfolding sheet_of number_of
  in-range = record {
    count = h.count-legal;
    groups = h.groups-legal;
    start = λ g lt.
        let before = start-before groups g groups tags (omega arith) in
        omega (arith, h.count-legal, before, start-all groups tags h.groups-legal.0);
    seed = h.seeds-legal;
    slot = λ j lt.
        let f = number_of groups tags seed choices in
        words (tag_numbered f tags j) (tag_numbered-is f tags j (number-onto (all_placed h.fill) j lt)).0;
  }

  pub reads : Reads (view_of image) sheet
  unfolding image_under
  reads = reads-back sheet in-range

  pub absent : occurs unwired tags ≡ false
  absent = wired-absent tags h.ascending h.wired

  -- The image is sound, so checking accepts it, and each lookup in it ends at the tag's slot, or nowhere since no slot holds it.
  sound : Sound (view_of image)
  sound = built-sound reads h.fill h.groups-small absent

  pub seeded-checked : checking_of image ≡ answered 0
  unfolding checking_of
  seeded-checked = in_order-pass (checking_checks (view_of image)) (answered 0) (pass-of-sound (view_of image) sound)

  ends : (t : ℕ) → Looked (view_of image) t (lookup_of image t)
  ends = image-ends image sound (built-many reads h.fill h.groups-small absent)

  found-listed : (t : ℕ) → occurs t tags ≡ true → lookup_of image t ≡ answered (number (number_of groups tags seed choices t))
  found-listed t m = built-listed reads h.fill h.groups-small absent t (ends t) m

  unknown-unlisted : (t : ℕ) → occurs t tags ≡ false → lookup_of image t ≡ answered unknown
  unknown-unlisted t m = built-unlisted reads h.fill h.groups-small absent t (ends t) m

  pub seeded-found : (t : ℕ) → lookup_of image t ≡ answered (cond (occurs t tags) (number (number_of groups tags seed choices t)) unknown)
  seeded-found t = by (occurs t tags) refl
    where
      by : (b : Bool) → occurs t tags ≡ b
          → lookup_of image t ≡ answered (cond (occurs t tags) (number (number_of groups tags seed choices t)) unknown)
      by true m = rw m (found-listed t m)
      by false m = rw m (unknown-unlisted t m)

-- The seeds of a plan that writing's checks accept, and those that planning takes.
seeded-ready : {tags plan : List ℕ} {room : ℕ} → Ready tags plan room → Seeded tags (planned_groups plan) (planned_seed plan)
seeded-ready r = record {
  groups-legal = r.fit.groups-legal;
  seeds-legal = r.fit.seeds-legal;
  count-legal = r.fit.count-legal;
  ascending = r.fit.ascending;
  wired = r.fit.wired;
  groups-small = r.fit.groups-small;
  fill = ready-fill r;
}

pub seeded-taken : (tags : List ℕ) (groups limit : ℕ) {planned : ℕ} → planning_of tags groups limit ≡ answered planned
    → Seeded tags groups (seed_taken groups tags limit)
unfolding choices_under
seeded-taken tags groups limit e =
    let h = earlier-of-pass tags groups limit (planning-says tags groups limit e).0 in
    record {
      groups-legal = h.groups-legal;
      seeds-legal = λ g lt. omega (arith, (takes tags groups limit e g lt).below, h.limit-legal);
      count-legal = h.count-legal;
      ascending = h.ascending;
      wired = h.wired;
      groups-small = h.groups-small;
      fill = record {
        some-group = h.groups-legal.0;
        differ = ascending-distinct tags h.ascending;
        fills = λ g lt. (takes tags groups limit e g lt).fills;
      };
    }

-- Writing, under any plan: what an accepted writing leaves.
module _ (tags plan : List ℕ) (words : (t : ℕ) → occurs t tags ≡ true → t < tag_end) where
  module _ {room : ℕ} (r : Ready tags plan room) where
    abbrev groups : ℕ
    groups = planned_groups plan

    fill : AllFill groups tags (planned_seed plan) (choices_under groups tags (planned_seed plan))
    fill = ready-fill r

    accepted-as : (size : ℕ) (after : List ℕ) → size ≡ 11 * (1 + groups + length tags) → take size after ≡ planned_image tags plan
        → Accepted tags groups plan after size
    unfolding choices_under number_of planned_image image_under sheet_of
    accepted-as size after whole e = record {
      choices = choices_under groups tags (planned_seed plan);
      whole = whole;
      line = λ g lt. rw e (group_at_lem (sheet_of groups tags (planned_seed plan) (choices_under groups tags (planned_seed plan))) g lt);
      fills = fill.fills;
      least = λ g lt. taken-least (members groups g tags) (planned_seed plan g);
      number-below = number-below (all_placed fill);
      number-once = λ j lt.
          let n = number-onto (all_placed fill) j lt in
          record {
            tag = n.from;
            listed = n.listed;
            number_is = n.value;
            only = λ t m same. number-apart (all_placed fill) t n.from m n.listed (same ∙ sym n.value);
          };
      listed = λ t word m. rw e (found-listed words (seeded-ready r) t m);
      unlisted = λ t word m. rw e (unknown-unlisted words (seeded-ready r) t m);
    }

  pub writing-condition3 : (before : List ℕ)
      → WritingCondition3 tags plan (writing_of tags plan (length before)) (buffer_written tags plan before)
  unfolding image_length planned_image
  writing-condition3 before size e =
      let (passes, is) = writing-says tags plan (length before) e in
      let image = planned_image tags plan in
      accepted-as (ready-of-pass tags plan (length before) passes) size (buffer_written tags plan before) (sym is)
      (rw (writing-written tags plan before e)
      (take_at image (drop (length image) before) size (image-length (planned_groups plan) tags (planned_seed plan) ∙ is)))

  -- What writing writes is accepted by checking.
  pub written-checked : (room : ℕ) {size : ℕ} → writing_of tags plan room ≡ answered size
      → checking_of (planned_image tags plan) ≡ answered 0
  unfolding planned_image
  written-checked room e = seeded-checked words (seeded-ready (ready-of-pass tags plan room (writing-says tags plan room e).0))

-- The tags of a list of 32-bit numbers are tags.
pub tags-of-words : (tags : List ℕ) → ((i : ℕ) → get_or tags i 0 < tag_end) → (t : ℕ) → occurs t tags ≡ true → t < tag_end
tags-of-words tags words t m = let at = occurs-get_or tags t m in rw at.value at (words at.index)

-- The theorem: "Whatever list, group count, seed limit and buffer a site hands to building, all of this holds."
pub condition3 : (tags : List ℕ) (groups limit : ℕ) (before : List ℕ) → ((t : ℕ) → occurs t tags ≡ true → t < tag_end)
    → Condition3 tags groups limit (length before) (plan_after tags groups limit) (building_of tags groups limit (length before))
    (buffer_after tags groups limit before)
unfolding image_length
condition3 tags groups limit before words = record {
  seeds = seed-condition3 tags groups limit (building_of tags groups limit room)
      (λ size e. (answered-says tags groups limit room e).0)
      (λ g e. building-seven tags groups limit room e)
      (λ passes g e. building-seedless tags groups limit room passes e);
  accepted = accept;
  otherwise = λ h never.
      building-answered tags groups limit room (pass-of-earlier tags groups limit h) (none-of-never tags groups limit never);
  too_short = λ h never.
      building-short tags groups limit room (pass-of-earlier tags groups limit h) (none-of-never tags groups limit never);
}
  where
    room : ℕ
    room = length before

    accept : (size : ℕ) → building_of tags groups limit room ≡ answered size
        → Accepted tags groups (plan_after tags groups limit) (buffer_after tags groups limit before) size
    accept size e =
        let planned = (answered-says tags groups limit room e).0 in
        let plan = plan_after tags groups limit in
        let written = sym (building-as-written tags groups limit room planned) ∙ e in
        let accepted = writing-condition3 tags plan words before size written in
        rw (buffer-as-written tags groups limit before planned) (rw (groups-planned tags groups limit planned) at accepted)

-- What building writes is accepted by checking.
pub built-checked : (tags : List ℕ) (groups limit room : ℕ) {size : ℕ} → ((t : ℕ) → occurs t tags ≡ true → t < tag_end)
    → building_of tags groups limit room ≡ answered size → checking_of (image_of groups tags limit) ≡ answered 0
built-checked tags groups limit room words e =
    seeded-checked words (seeded-taken tags groups limit (answered-says tags groups limit room e).0)

-- The buffer's first bytes after an accepted building are the image.
pub image-written : (tags : List ℕ) (groups limit : ℕ) (before : List ℕ) (size : ℕ)
    → building_of tags groups limit (length before) ≡ answered size
    → take size (buffer_after tags groups limit before) ≡ image_of groups tags limit
image-written tags groups limit before size e =
    let image = image_of groups tags limit in
    let is = (answered-says tags groups limit (length before) e).2 in
    rw (buffer-written tags groups limit before e)
    (take_at image (drop (length image) before) size (image-length groups tags (seed_taken groups tags limit) ∙ is))

-- Lookup in the image that building writes, under the seeds and sequences that it takes.
pub looked-up : (tags : List ℕ) (groups limit room : ℕ) {size : ℕ} → ((t : ℕ) → occurs t tags ≡ true → t < tag_end)
    → building_of tags groups limit room ≡ answered size → (t : ℕ)
    → let own = number_of groups tags (seed_taken groups tags limit) (choices_taken groups tags limit) t in
    lookup_of (image_of groups tags limit) t ≡ answered (cond (occurs t tags) (number own) unknown)
looked-up tags groups limit room words e = seeded-found words (seeded-taken tags groups limit (answered-says tags groups limit room e).0)
