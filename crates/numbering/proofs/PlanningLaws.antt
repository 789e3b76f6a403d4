-- The ways in which planning ends, in the order of its checks, and what it yields. Assumes nothing.
use Rattle.std.specs.Prelude.{◌≡◌, false, List, [], ◌∷◌, ℕ, ◌≤◌, length, None, Some}
use Rattle.std.proofs.Math.Path.{refl}
use Rattle.std.proofs.Common.{◌∙◌}
use borrow.Author.Tests.{ltb-false, not-false}
use Rattle.refusal.specs.Limits.{tags_max, groups_max}
use Rattle.refusal.proofs.LimitsLaws.{inside}
use Rattle.refusal.specs.Outcome.{answered, refused}
use Rattle.refusal.proofs.OutcomeLaws.{left-answered, left-refused}
use Rattle.lists.specs.First.{first, is_some}
use Rattle.lists.proofs.FirstLaws.{some-of-is_some}
use Rattle.refusal.specs.Checks.{Check, in_order, Pass}
use Rattle.refusal.specs.ChecksBefore.{checks_before}
use Rattle.refusal.proofs.ChecksLaws.{false-of-met, met_by, passed, met-first, met-alone, pass-split}
use Rattle.refusal.proofs.ChecksLaws.{in_order-pass, in_order-answered, in_order-append, in_order-refused}
use Rattle.group.specs.Group.{least_seed}
use Rattle.group.proofs.GroupLaws.{LeastSeed, least_seed-some}
use Rattle.numbering.specs.Members.{members}
use Rattle.numbering.specs.Plan.{plan_of, no_plan}
use Rattle.numbering.specs.Planning.{seedless, seed_check, earlier_checks, planning_checks, planning_of, seed_taken, plan_after}

module _ (tags : List ℕ) (groups limit : ℕ) where
  abbrev earlier : List Check
  earlier = earlier_checks tags groups limit

  -- A check before 7 that is met where those before it pass is planning's refusal.
  pub planning-refused : (number : ℕ) {place : ℕ} → Pass (checks_before number earlier) → met_by earlier number ≡ Some place
      → planning_of tags groups limit ≡ refused number place
  unfolding planning_of planning_checks
  planning-refused number passes e = in_order-append earlier _ _ ∙ met-first earlier _ number passes e

  -- Where they pass, 7 decides.
  pub seven-decides : Pass earlier → planning_of tags groups limit ≡ in_order (seed_check groups tags limit ∷ []) (answered groups)
  unfolding planning_of planning_checks
  seven-decides passes = in_order-append earlier _ _ ∙ in_order-pass earlier _ passes

  module _ (passes : Pass earlier) where
    pub planning-seedless : {g : ℕ} → first (seedless groups tags limit) groups ≡ Some g → planning_of tags groups limit ≡ refused 7 g
    unfolding in_order
    planning-seedless e = seven-decides passes ∙ rw e

    pub planning-answered : first (seedless groups tags limit) groups ≡ None → planning_of tags groups limit ≡ answered groups
    unfolding in_order
    planning-answered e = seven-decides passes ∙ rw e

  -- An answer says that the checks before 7 pass and that every group has a seed, and it is B.
  pub planning-says : {planned : ℕ} → planning_of tags groups limit ≡ answered planned
      → Pass earlier × (first (seedless groups tags limit) groups ≡ None) × (groups ≡ planned)
  unfolding planning_of planning_checks
  planning-says e =
      let (passes, answer) = in_order-answered (planning_checks tags groups limit) (answered groups) e in
      let (front, back) = pass-split earlier _ passes in
      (front, back.0, cc)

  -- A refusal 7 comes from the last check, since no earlier one has its number.
  pub planning-seven : {g : ℕ} → planning_of tags groups limit ≡ refused 7 g → first (seedless groups tags limit) groups ≡ Some g
  unfolding planning_of planning_checks earlier_checks
  planning-seven e =
      let met = in_order-refused (planning_checks tags groups limit) groups e in
      (met-alone (planning_checks tags groups limit) 7 refl met).1

  -- The plan that is yielded, and the plan of a refusal.
  pub plan-yielded : {planned : ℕ} → planning_of tags groups limit ≡ answered planned
      → plan_after tags groups limit ≡ plan_of groups (seed_taken groups tags limit)
  unfolding plan_after
  plan-yielded e = left-answered _ _ e ∙ rw (← (planning-says e).2)

  pub plan-refused : {number place : ℕ} → planning_of tags groups limit ≡ refused number place → plan_after tags groups limit ≡ no_plan
  unfolding plan_after
  plan-refused e = left-refused _ _ e

  -- What the checks before 7 say, each by its number.
  module _ (passes : Pass earlier) where
    pub earlier-groups : (1 ≤ groups) × (groups ≤ groups_max)
    unfolding earlier_checks
    earlier-groups = inside 1 groups_max groups (false-of-met _ (passed earlier passes 8))

    pub earlier-count : length tags ≤ tags_max
    unfolding earlier_checks
    earlier-count = ltb-false tags_max (length tags) (false-of-met _ (passed earlier passes 5))

  -- A group with a seed: the seed taken is its least.
  pub seed-least : (g : ℕ) → seedless groups tags limit g ≡ false → LeastSeed (members groups g tags) limit (seed_taken groups tags limit g)
  unfolding seed_taken
  seed-least g e =
      let own = members groups g tags in
      let (s, found) = some-of-is_some (least_seed own limit) (not-false (is_some (least_seed own limit)) e) in
      rw found (least_seed-some own limit found)
