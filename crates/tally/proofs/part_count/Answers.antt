-- `tally::part_count` meets its contract: a turn looks at one label more. Assumes nothing.
use Prim.Native.Nat.{◌<◌}
use mathlib.Core.Path.{◌≡◌}
use native.Mathlib.Omega.{arith}
use lib.ListN.{get_or, take}
use lib.Seq.{length-take-le, get_or-take}
use borrow.Author.Tests.{lt-ltb, le-ltb}
use Rattle.tally.specs.TallyLaws.{tallied-start, tallied-most, tallied-passes, tallied-fails, tallied-done}
use Rattle.tally.proofs.part_count.Goals as goal
use Rattle.tally.proofs.part_count.Goals.{In-loop-count, then-count-gt0, else-count-gt0}

-- A turn is for a label,
inside : (c : In-loop-count) → c.loop-count.count-index < c.args.n
inside c =
    let a = c.args in
    omega (arith, length-take-le a.n a.counts.now (omega (arith, c.requires, c.told-counts)), c.loop-count-test.true)

-- and looks at its count.
count-is : (c : In-loop-count)
    → get_or (take c.args.n c.args.counts.now) c.loop-count.count-index 0 ≡ get_or c.args.counts.now c.loop-count.count-index 0
count-is c = get_or-take c.args.n c.args.counts.now c.loop-count.count-index 0 (inside c)

pub loop-count-init : goal.loop-count-init
loop-count-init c = tallied-start _ _ _

pub overflow_add-number : goal.overflow_add-number
overflow_add-number c =
    omega (arith, tallied-most _ _ _ c.loop-count.invariant, c.requires)

pub loop-count-preserved : goal.loop-count-preserved
loop-count-preserved c =
    let at = (goal.at.loop-count-preserved c).In-loop-count in
    let tallied = c.loop-count.invariant in
    elim c.if-count-gt0.branch [
      | then-count-gt0 w ↦ rw w.number-is (tallied-passes _ _ _ tallied (inside at) (rw (count-is at) at (lt-ltb _ _ w.if-count-gt0.true)))
      | else-count-gt0 w ↦ rw w.number-is (tallied-fails _ _ _ tallied (inside at) (rw (count-is at) at (le-ltb _ _ w.if-count-gt0.false)))
    ]

pub returns : goal.returns
returns c =
    let a = c.args in
    let whole = length-take-le a.n a.counts.now (omega (arith, c.requires, c.told-counts)) in
    record { answer = tallied-done _ _ _ c.loop-count.invariant (omega (arith, whole, c.loop-count-test.false)) }
