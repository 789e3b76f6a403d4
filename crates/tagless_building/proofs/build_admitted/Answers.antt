-- `tagless_building::build_admitted` meets its contract: ordering answers the group that 10 names, or leaves the tags sorted.
-- Assumes nothing.
use mathlib.Core.Path.{refl, sym, ◌∙◌, ap}
use native.Mathlib.Omega.{arith}
use lib.ListN.{length}
use Rattle.refusal.specs.Reason.{refusal_of}
use Rattle.order.specs.Sorted.{OrderedCells}
use Rattle.order.specs.SortedLaws.{cells-ordered}
use Rattle.tagless.specs.Building.{tagless_building_checks}
use Rattle.tagless.proofs.BuildingLaws.{building-refused, after-refused}
use Rattle.tagless_building.specs.ArraysLaws.{admitted-groups, admitted-count, passed-10}
use Rattle.tagless_building.proofs.build_admitted.Goals as goal
use Rattle.tagless_building.proofs.build_admitted.Goals.{In_default}

-- The cells, once the tags are ordered.
cells : (c : In_default)
    → (let last = c.order_by_group.new in OrderedCells c.args.groups c.args.tags.now last.ends last.ordered)
cells c =
    cells-ordered _ _ (admitted-groups c.requires) (admitted-count c.requires) c.in_default.is
    c.order_by_group.ensures.ends c.order_by_group.ensures.cells

pub order_by_group-requires : goal.order_by_group-requires
order_by_group-requires c =
    let legal = admitted-groups c.requires in
    record { le_groups = (legal.0, legal.1, admitted-count c.requires); ends_len = (refl, refl) }

pub returns-in-Some : goal.returns-in-Some
unfolding tagless_building_checks
returns-in-Some c =
    let a = c.args in
    let lowest = sym c.order_by_group.ensures.answer ∙ c.in-Some.is in
    let outcome = building-refused a.tags.now a.groups a.limit (length a.buffer.now) 10 c.requires.passes lowest in
    record {
      answer = ap refusal_of c.at.ensures.answer ∙ sym outcome;
      bytes = sym (after-refused a.tags.now a.groups a.limit a.buffer.now outcome);
    }

pub slice_bounds-build_ordered-end : goal.slice_bounds-build_ordered-end
slice_bounds-build_ordered-end c = sym (cells (goal.at.slice_bounds-build_ordered-end c).In_default).ordered-cells

pub slice_bounds-build_ordered-end-2 : goal.slice_bounds-build_ordered-end-2
slice_bounds-build_ordered-end-2 c = sym (cells (goal.at.slice_bounds-build_ordered-end-2 c).In_default).ends-cells

pub build_ordered-requires : goal.build_ordered-requires
build_ordered-requires c =
    let small = sym c.order_by_group.ensures.answer ∙ c.in_default.is in
    record {
      passes = passed-10 c.requires small;
      sorted = (cells (goal.at.build_ordered-requires c).In_default).sorted;
      few-cells = omega (arith, (cells (goal.at.build_ordered-requires c).In_default).ordered-cells);
    }
