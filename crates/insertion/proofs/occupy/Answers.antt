-- `insertion::occupy` meets its contract: the cells are cleared at once, and hold the occupants of the first i keys. Assumes nothing.
use Prim.Native.Nat.{◌<◌}
use mathlib.Core.Path.{◌≡◌, refl}
use native.Mathlib.Omega.{arith}
use Rattle.refusal.specs.Limits.{group_max}
use Rattle.insertion.specs.Occupants.{place_taken}
use Rattle.insertion.specs.OccupantsLaws.{cleared_all, occupied-none, separate-free, occupied-more, occupied-only}
use Rattle.insertion.proofs.occupy.Goals as goal
use Rattle.insertion.proofs.occupy.Goals.{In-loop-i}

-- In the second loop's turn the place of key i has a cell.
below : (c : In-loop-i) → place_taken c.args.places.now c.args.word c.loop-i.i < group_max
below c = c.requires.count_le_group_max.1.below c.loop-i.i c.loop-i-test.true _

pub loop-i-init : goal.loop-i-init
loop-i-init c = (omega arith, occupied-none _ _ cleared_all)

pub bounds-occupants-place : goal.bounds-occupants-place
bounds-occupants-place c = omega (arith, c.place_taken-place.ensures.answer, below (goal.at.bounds-occupants-place c).In-loop-i)

pub loop-i-preserved : goal.loop-i-preserved
loop-i-preserved c =
    let inv = c.loop-i.invariant in
    let free = separate-free _ inv.1 c.args.count c.loop-i-test.true c.requires.separate in
    (omega arith, rw c.place_taken-place.ensures.answer (occupied-more _ inv.1 _ refl (below (goal.at.loop-i-preserved c).In-loop-i) free))

pub returns : goal.returns
returns c =
    let at = c.loop-i in
    let all : at.i ≡ c.args.count = omega arith in
    record { cells = occupied-only _ (rw all at at.invariant.1) }
