-- `planning::plan_ordered` meets its contract: where every group has a seed, B and the seeds are the plan. Assumes nothing.
use mathlib.Core.Path.{◌≡◌, refl, sym, ◌∙◌, ap}
use mathlib.Core.List.{List, ◌∷◌}
use Prim.Native.Nat.{ℕ}
use native.Mathlib.Omega.{arith}
use lib.ListN.{length, replicate}
use Rattle.refusal.specs.Reason.{refusal_of}
use Rattle.refusal.specs.Limits.{groups_max}
use Rattle.numbering.specs.Plan.{plan_of}
use Rattle.numbering.specs.Planning.{seed_taken}
use Rattle.numbering.proofs.PlanLaws.{plan-length}
use Rattle.numbering.proofs.PlanningLaws.{planning-seedless, planning-answered, plan-yielded, plan-refused}
use Rattle.plan.specs.Seeds.{seeds_found}
use Rattle.planning.specs.Arrays.{Orderly}
use Rattle.planning.specs.ArraysLaws.{inputs, plannable, seedless-first, plan-stated}
use Rattle.planning.proofs.plan_ordered.Goals as goal

pub plan_groups-requires : goal.plan_groups-requires
plan_groups-requires c =
    (plannable c.requires.0, (inputs c.requires.0).groups-legal.1, refl)

pub returns-in-Some : goal.returns-in-Some
returns-in-Some c =
    let a = c.args in
    let lowest = sym (seedless-first c.requires.0) ∙ sym c.plan_groups.ensures.answer ∙ c.in-Some.is in
    let outcome = planning-seedless a.tags.now a.groups a.limit c.requires.0.passes lowest in
    record {
      answer = ap refusal_of c.at.ensures.answer ∙ sym outcome;
      plan = c.requires.1 ∙ sym (plan-refused a.tags.now a.groups a.limit outcome);
    }

-- Where every group has a seed.
module _ {tags : List ℕ} {groups limit : ℕ} {ordered ends seeds : List ℕ} (o : Orderly tags groups limit ordered ends)
    (found : seeds ≡ seeds_found ordered ends limit groups (replicate groups_max 0)) where
  stated : groups ∷ seeds ≡ plan_of groups (seed_taken groups tags limit)
  stated = ap (λ (l : List ℕ). groups ∷ l) found ∙ plan-stated o

  seeds-long : length seeds ≡ groups_max
  seeds-long = omega (arith, ap length stated, plan-length groups (seed_taken groups tags limit) (inputs o).groups-legal.1)

pub slice_bounds-state_plan-end : goal.slice_bounds-state_plan-end
slice_bounds-state_plan-end c = sym (seeds-long c.requires.0 (rw c.in_default.is at c.plan_groups.ensures.seeds))

pub state_plan-requires : goal.state_plan-requires
state_plan-requires c = (seeds-long c.requires.0 (rw c.in_default.is at c.plan_groups.ensures.seeds), ap length c.requires.1)

pub returns : goal.returns
returns c =
    let a = c.args in
    let found = rw c.in_default.is at c.plan_groups.ensures.seeds in
    let every = sym (seedless-first c.requires.0) ∙ sym c.plan_groups.ensures.answer
    ∙ c.in_default.is in
    let outcome = planning-answered a.tags.now a.groups a.limit c.requires.0.passes every in
    record {
      answer = sym outcome;
      plan = c.state_plan.ensures.cells ∙ stated c.requires.0 found ∙ sym (plan-yielded a.tags.now a.groups a.limit outcome);
    }
