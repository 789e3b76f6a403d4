-- What the arrays hold once the tags are ordered and the seeds found. Assumes nothing.
use Rattle.std.specs.Prelude.{◌≡◌, List, ◌∷◌, ℕ, zero, suc, ◌-◌, ◌≤◌, length, drop, replicate, None}
use Rattle.std.proofs.Math.Path.{refl}
use Rattle.std.proofs.Common.{◌∙◌, arith}
use borrow.Author.Tests.{ltb-false}
use Rattle.refusal.specs.Limits.{tags_max, groups_max, unwired}
use Rattle.refusal.proofs.LimitsLaws.{inside}
use Rattle.refusal.specs.Checks.{Pass}
use Rattle.refusal.specs.ChecksBefore.{checks_before}
use Rattle.refusal.proofs.ChecksLaws.{false-of-met, passed, passed_on}
use Rattle.lists.specs.First.{first}
use Rattle.lists.proofs.FirstLaws.{first_cong}
use Rattle.lists.proofs.UpToLaws.{up_to-agree}
use Rattle.group.proofs.UnwiredLaws.{wired-absent, absent-wired}
use Rattle.numbering.specs.Members.{members}
use Rattle.numbering.proofs.MembersLaws.{members-ascending, members-absent}
use Rattle.numbering.specs.Plan.{plan_of}
use Rattle.numbering.specs.Planning.{too_large, seedless, earlier_checks, seed_taken}
use Rattle.condition3.specs.Condition3.{EarlierChecks}
use Rattle.condition3_theorem.specs.Condition3Theorem.{earlier-of-pass}
use Rattle.plan.specs.Seeds.{unseeded, part_seed, seeds_found, Plannable}
use Rattle.planning.specs.Arrays.{Admitted, Orderly}

-- What the checks before 10 say of the arguments, each by its number.
module _ {tags : List ℕ} {groups limit : ℕ} (a : Admitted tags groups limit) where
  pub admitted-groups : (1 ≤ groups) × (groups ≤ groups_max)
  unfolding earlier_checks
  admitted-groups =
      inside 1 groups_max groups (false-of-met _ (passed (checks_before 10 (earlier_checks tags groups limit)) a.passes 8))

  pub admitted-count : length tags ≤ tags_max
  unfolding earlier_checks
  admitted-count =
      ltb-false tags_max (length tags) (false-of-met _ (passed (checks_before 10 (earlier_checks tags groups limit)) a.passes 5))

  -- With 10 all checks before 7 pass.
  pub passed-10 : first (too_large groups tags) groups ≡ None → Pass (earlier_checks tags groups limit)
  unfolding earlier_checks
  passed-10 small = passed_on (earlier_checks tags groups limit) 10 7 refl a.passes small

-- The zeros behind B's seeds.
drop-zeros : (n g : ℕ) → drop {A = ℕ} g (replicate n 0) ≡ replicate (n - g) 0
drop-zeros zero zero = refl
drop-zeros zero (suc g) = let None : 0 - suc g ≡ 0 = omega arith in rw None
drop-zeros (suc n) zero = let whole : suc n - 0 ≡ suc n = omega arith in rw whole
drop-zeros (suc n) (suc g) = let less : suc n - suc g ≡ n - g = omega arith in drop-zeros n g ∙ rw less

module _ {tags : List ℕ} {groups limit : ℕ} {ordered ends : List ℕ} (o : Orderly tags groups limit ordered ends) where
  -- The conditions on the inputs hold.
  pub inputs : EarlierChecks tags groups limit
  inputs = earlier-of-pass tags groups limit o.passes

  -- What the search for the seeds needs.
  pub plannable : Plannable groups ordered ends limit
  plannable = record {
    parts = o.sorted.parts;
    limit-legal = inputs.limit-legal;
    few = λ g lt. rw (o.sorted.part g lt) (inputs.groups-small g lt);
    ascending = λ g lt. rw (o.sorted.part g lt) (members-ascending groups g tags inputs.ascending);
    wired = λ g lt.
        let absent = wired-absent tags inputs.ascending inputs.wired in
        rw (o.sorted.part g lt) (absent-wired (members groups g tags) (members-absent groups g tags unwired absent));
  }

  -- The lowest part without a seed is the lowest group without one.
  pub seedless-first : first (unseeded ordered ends limit) groups ≡ first (seedless groups tags limit) groups
  unfolding unseeded
  seedless-first = first_cong (unseeded ordered ends limit) (seedless groups tags limit) groups (λ g lt. rw (o.sorted.part g lt))

  -- B and the cells once the seeds of all groups are found are the plan.
  pub plan-stated : groups ∷ seeds_found ordered ends limit groups (replicate groups_max 0) ≡ plan_of groups (seed_taken groups tags limit)
  unfolding seeds_found plan_of part_seed seed_taken
  plan-stated =
      rw (
        up_to-agree groups (part_seed ordered ends limit) (seed_taken groups tags limit) (λ g lt. rw (o.sorted.part g lt)),
        drop-zeros groups_max groups,
      )
