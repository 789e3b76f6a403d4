-- `planning::plan_admitted` meets its contract: ordering answers the group that 10 names, or leaves the tags sorted. Assumes nothing.
use mathlib.Core.Path.{refl, sym, ◌∙◌, ap}
use Prim.Native.Nat.{ℕ, ◌≤◌}
use mathlib.Core.List.{List}
use Rattle.planning.specs.Arrays.{Admitted}
use Rattle.refusal.specs.Reason.{refusal_of}
use Rattle.refusal.specs.Limits.{groups_max}
use Rattle.numbering.specs.Planning.{earlier_checks}
use Rattle.numbering.proofs.PlanningLaws.{planning-refused, plan-refused}
use Rattle.order.specs.SortedLaws.{cells-ordered}
use Rattle.planning.specs.ArraysLaws.{admitted-groups, admitted-count, passed-10}
use Rattle.planning.proofs.plan_admitted.Goals as goal

-- Where the function begins, and where the tags are ordered.
legal : {tags : List ℕ} {groups limit : ℕ} → Admitted tags groups limit → (1 ≤ groups) × (groups ≤ groups_max)
legal admitted = admitted-groups admitted

pub order_by_group-requires : goal.order_by_group-requires
order_by_group-requires c = record {
  le_groups = ((legal c.requires.0).0, (legal c.requires.0).1, admitted-count c.requires.0);
  ends_len = (refl, refl);
}

pub returns-in-Some : goal.returns-in-Some
unfolding earlier_checks
returns-in-Some c =
    let a = c.args in
    let lowest = sym c.order_by_group.ensures.answer ∙ c.in-Some.is in
    let outcome = planning-refused a.tags.now a.groups a.limit 10 c.requires.0.passes lowest in
    record {
      answer = ap refusal_of c.at.ensures.answer ∙ sym outcome;
      plan = c.requires.1 ∙ sym (plan-refused a.tags.now a.groups a.limit outcome);
    }

pub slice_bounds-plan_ordered-end : goal.slice_bounds-plan_ordered-end
slice_bounds-plan_ordered-end c =
    let cells = cells-ordered _ _ (legal c.requires.0) (admitted-count c.requires.0) c.in_default.is
    c.order_by_group.ensures.ends c.order_by_group.ensures.cells in
    sym cells.ordered-cells

pub slice_bounds-plan_ordered-end-2 : goal.slice_bounds-plan_ordered-end-2
slice_bounds-plan_ordered-end-2 c =
    let cells = cells-ordered _ _ (legal c.requires.0) (admitted-count c.requires.0) c.in_default.is
    c.order_by_group.ensures.ends c.order_by_group.ensures.cells in
    sym cells.ends-cells

pub plan_ordered-requires : goal.plan_ordered-requires
plan_ordered-requires c =
    let cells = cells-ordered _ _ (legal c.requires.0) (admitted-count c.requires.0) c.in_default.is
    c.order_by_group.ensures.ends c.order_by_group.ensures.cells in
    let small = sym c.order_by_group.ensures.answer ∙ c.in_default.is in
    (record { passes = passed-10 c.requires.0 small; sorted = cells.sorted }, c.requires.1)
