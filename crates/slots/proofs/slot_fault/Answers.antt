-- `slots::slot_fault` meets its contract: no slot before the one that the walk has come to is misplaced, and a group ends where the
-- next one starts. Assumes nothing.
use mathlib.Core.Path.{◌≡◌, refl, sym, ◌∙◌, ap}
use mathlib.Core.List.{List}
use Prim.Native.Nat.{ℕ, ◌+◌, ◌<◌}
use native.Mathlib.Omega.{arith}
use lib.ListN.{get_or}
use Rattle.std.specs.Prelude.{Option, Some}
use Rattle.slots.specs.declared.SlotFault.{SlotFault}
use Rattle.slots.specs.Cells.{cells_view}
use Rattle.slots.specs.CellsLaws.{group-ends}
use Rattle.slots.specs.Fault.{or_repeated}
use Rattle.slots.specs.FaultLaws.{Walked, walk_start, walk-found, walk-repeated, walk-on}
use Rattle.slots.specs.SlotLaws.{in_group}
use Rattle.slots.specs.Cells.{Regular}
use Rattle.slots.proofs.slot_fault.Invariants.{At}
use Rattle.slots.proofs.slot_fault.Goals as goal
use Rattle.slots.proofs.slot_fault.Goals.{else-loop-j-test, then-loop-j-test+in-Some-Repeated}

module _ (starts seeds tags : List ℕ) (groups : ℕ) (regular : Regular starts seeds groups) where
  -- One slot more of the group.
  next : {before : Option SlotFault} {g j : ℕ} → At starts seeds tags groups before g j → (fault : Option SlotFault) → g < groups
      → j < get_or starts (g + 1) 0 → Walked (cells_view starts seeds tags groups) fault (j + 1) → At starts seeds tags groups fault g
      (j + 1)
  next {g = g} at fault group below walked =
      let ends = group-ends starts seeds groups regular g group in
      record {
        within = at.within;
        above = omega (arith, at.above);
        upto = λ lt. omega (arith, below);
        most = omega (arith, ends.most, below);
        walked = walked;
      }

pub loop-g-init : goal.loop-g-init
loop-g-init c =
    let a = c.args in
    let some = c.requires.legal.groups-some in
    let zero-first = (c.requires.fair 0 (omega arith)).zero-first refl in
    record {
      within = omega arith;
      above = omega (arith, zero-first);
      upto = λ lt. omega arith;
      most = omega arith;
      walked = walk_start (cells_view a.starts.now a.seeds.now a.tags.now a.groups);
    }

pub overflow_cast-end : goal.overflow_cast-end
overflow_cast-end c =
    let ends = group-ends c.args.starts.now c.args.seeds.now c.args.groups c.requires c.loop-g.g c.loop-g-test.true in
    record { fits = omega (arith, ends) }

pub loop-j-init : goal.loop-j-init
loop-j-init c = (omega arith, c.loop-g.invariant)

pub fault_at-requires : goal.fault_at-requires
fault_at-requires c =
    let a = c.args in
    let at = c.loop-j.invariant.1 in
    record {
      regular = c.requires;
      in_group = in_group a.starts.now a.seeds.now a.groups c.loop-g.g c.loop-j.j c.requires c.loop-g-test.true at.above c.loop-j-test.true;
      j_value = at.walked.placed;
    }

pub returns-in-Some-Misplaced : goal.returns-in-Some-Misplaced
returns-in-Some-Misplaced c =
    let a = c.args in
    let view = cells_view a.starts.now a.seeds.now a.tags.now a.groups in
    let ends = group-ends c.args.starts.now c.args.seeds.now c.args.groups c.requires c.loop-g.g c.loop-g-test.true in
    let all = get_or a.starts.now a.groups 0 in
    record {
      answer = walk-found view c.loop-j.j c.loop-g.fault c.loop-j.invariant.1.walked all
          (omega (arith, ends, c.loop-j-test.true))
          (sym c.fault_at.ensures.answer ∙ c.in-Some-Misplaced.is ∙ ap Some c.in-Some-Misplaced.field-0-is);
    }

pub overflow_add-j : goal.overflow_add-j
overflow_add-j c =
    let ends = group-ends c.args.starts.now c.args.seeds.now c.args.groups c.requires c.loop-g.g c.loop-g-test.true in
    record { fits = omega (arith, ends, c.loop-j-test.true) }

pub loop-j-preserved : goal.loop-j-preserved
loop-j-preserved c =
    let a = c.args in
    let view = cells_view a.starts.now a.seeds.now a.tags.now a.groups in
    let fault = c.loop-g.fault in
    let sound = sym c.fault_at.ensures.answer ∙ c.in-None.is in
    let walked = walk-on view c.loop-j.j fault c.loop-j.invariant.1.walked sound in (
      omega (arith, c.loop-j.invariant.0),
      next a.starts.now a.seeds.now a.tags.now a.groups c.requires c.loop-j.invariant.1 fault c.loop-g-test.true c.loop-j-test.true walked,
    )

pub overflow_add-j-then-j-end : goal.overflow_add-j-then-j-end
overflow_add-j-then-j-end c =
    let ends = group-ends c.args.starts.now c.args.seeds.now c.args.groups c.requires c.loop-g.g c.loop-g-test.true in
    record { fits = omega (arith, ends, c.if-j-end.true) }

pub loop-g-smaller-then-j-end : goal.loop-g-smaller-then-j-end
loop-g-smaller-then-j-end c =
    let ends = group-ends c.args.starts.now c.args.seeds.now c.args.groups c.requires c.loop-g.g c.loop-g-test.true in
    omega (arith, ends, c.if-j-end.true, c.loop-j.invariant.0)

pub loop-g-preserved-then-j-end : goal.loop-g-preserved-then-j-end
loop-g-preserved-then-j-end c =
    let a = c.args in
    let view = cells_view a.starts.now a.seeds.now a.tags.now a.groups in
    let below = c.if-j-end.true in
    let fault = c.loop-g.fault in
    let repeated : Walked view (or_repeated fault c.loop-j.j) (c.loop-j.j + 1) =
    elim c.loop-j-test.branch [
      | else-loop-j-test w ↦ absurd (omega (arith, w.loop-j-test.false, below))
      | then-loop-j-test+in-Some-Repeated w ↦
          walk-repeated view c.loop-j.j fault c.loop-j.invariant.1.walked
          (sym w.fault_at.ensures.answer ∙ w.in-Some-Repeated.is ∙ ap Some w.in-Some-Repeated.field-0-is)
    ] in
    rw c.or_repeated-fault.ensures.answer
    (next a.starts.now a.seeds.now a.tags.now a.groups c.requires c.loop-j.invariant.1
    (or_repeated fault c.loop-j.j) c.loop-g-test.true below repeated)

pub loop-g-smaller : goal.loop-g-smaller
loop-g-smaller c =
    omega (arith, c.loop-g-test.true, c.loop-j.invariant.0)

pub loop-g-preserved : goal.loop-g-preserved
loop-g-preserved c =
    let a = c.args in
    let g = c.loop-g.g in
    let at = c.loop-j.invariant.1 in
    let upto = at.upto c.loop-g-test.true in
    record {
      within = omega (arith, c.loop-g-test.true);
      above = omega (arith, c.if-j-end.false);
      upto = λ more. omega (arith, upto, (group-ends a.starts.now a.seeds.now a.groups c.requires (g + 1) more).ascends);
      most = at.most;
      walked = at.walked;
    }

pub returns : goal.returns
returns c =
    let at = c.loop-g.invariant in
    let a = c.args in
    let last : c.loop-g.g ≡ a.groups = omega (arith, at.within, c.loop-g-test.false) in
    let all : c.loop-g.j ≡ get_or a.starts.now a.groups 0 = omega (arith, at.most, rw last at at.above) in
    record { answer = (rw all at at.walked).fault-is }
