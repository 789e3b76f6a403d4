-- `writing::write_admitted` meets its contract: ordering answers the group that 10 names, or leaves the tags sorted. Assumes nothing.
use mathlib.Core.Path.{refl, sym, ◌∙◌, ap}
use native.Mathlib.Omega.{arith}
use Prim.Native.Nat.{ℕ, ◌≤◌}
use mathlib.Core.List.{List}
use Rattle.writing.specs.Arrays.{Admitted}
use lib.ListN.{length}
use Rattle.refusal.specs.Reason.{refusal_of}
use Rattle.refusal.specs.Limits.{groups_max}
use Rattle.numbering.specs.Writing.{writing_checks}
use Rattle.numbering.proofs.WritingLaws.{writing-refused, writing-kept}
use Rattle.order.specs.SortedLaws.{cells-ordered}
use Rattle.writing.specs.ArraysLaws.{admitted-groups, admitted-count, passed-10}
use Rattle.writing.proofs.write_admitted.Goals as goal

-- Where the function begins, and where the tags are ordered.
legal : {tags : List ℕ} {groups : ℕ} {plan : List ℕ} {room : ℕ} → Admitted tags groups plan room → (1 ≤ groups) × (groups ≤ groups_max)
legal admitted = admitted-groups admitted

pub order_by_group-requires : goal.order_by_group-requires
order_by_group-requires c = record {
  le_groups = ((legal c.requires).0, (legal c.requires).1, admitted-count c.requires);
  ends_len = (refl, refl);
}

pub returns-in-Some : goal.returns-in-Some
unfolding writing_checks
returns-in-Some c =
    let a = c.args in
    let lowest = sym c.order_by_group.ensures.answer ∙ c.in-Some.is in
    let due = rw c.requires.groups-are at lowest in
    let outcome = writing-refused a.tags.now a.plan.now (length a.buffer.now) 10 c.requires.passes due in
    record {
      answer = ap refusal_of c.at.ensures.answer ∙ sym outcome;
      bytes = sym (writing-kept a.tags.now a.plan.now a.buffer.now outcome);
    }

pub slice_bounds-write_ordered-end : goal.slice_bounds-write_ordered-end
slice_bounds-write_ordered-end c =
    let cells = cells-ordered _ _ (legal c.requires) (admitted-count c.requires) c.in_default.is
    c.order_by_group.ensures.ends c.order_by_group.ensures.cells in
    sym cells.ordered-cells

pub slice_bounds-write_ordered-end-2 : goal.slice_bounds-write_ordered-end-2
slice_bounds-write_ordered-end-2 c =
    let cells = cells-ordered _ _ (legal c.requires) (admitted-count c.requires) c.in_default.is
    c.order_by_group.ensures.ends c.order_by_group.ensures.cells in
    sym cells.ends-cells

pub write_ordered-requires : goal.write_ordered-requires
write_ordered-requires c =
    let cells = cells-ordered _ _ (legal c.requires) (admitted-count c.requires) c.in_default.is
    c.order_by_group.ensures.ends c.order_by_group.ensures.cells in
    let small = sym c.order_by_group.ensures.answer ∙ c.in_default.is in
    record {
      groups-are = c.requires.groups-are;
      cells = c.requires.cells;
      passes = passed-10 c.requires small;
      sorted = cells.sorted;
      few-cells = omega (arith, cells.ordered-cells);
    }
