-- `arrange::arrange_group` meets its contract: after i turns the first i tags stand in the cells of their places, and after the last
-- the cells are the group's slots. Assumes nothing.
use mathlib.Core.Path.{refl}
use Rattle.arrange.proofs.Cells.{Computed, arranged-start, turn_inside, arranged-turn, arranged-done}
use Rattle.arrange.proofs.arrange_group.Goals as goal
use Rattle.arrange.proofs.arrange_group.Goals.{After-hashed-place}

-- The multiplier and the place that a turn computes.
computed : (c : After-hashed-place)
    → Computed c.args.part.now c.args.seed c.args.word c.loop-i.i c.multiplier_at.result c.hashed-place.result
computed c = record { by-is = cc c.multiplier_at.ensures.answer; place_is = c.hashed-place.ensures.answer }

pub loop-i-init : goal.loop-i-init
loop-i-init c = arranged-start c.requires _ refl

pub bounds-cells-place : goal.bounds-cells-place
bounds-cells-place c =
    turn_inside c.requires c.loop-i.invariant c.loop-i-test.true (computed (goal.at.bounds-cells-place c).After-hashed-place)

pub loop-i-preserved : goal.loop-i-preserved
loop-i-preserved c =
    arranged-turn c.requires c.loop-i.invariant c.loop-i-test.true (computed (goal.at.loop-i-preserved c).After-hashed-place)

pub shape_of-cells : goal.shape_of-cells
shape_of-cells c = c.loop-i.invariant.long

pub returns : goal.returns
returns c = record { cells = arranged-done c.requires c.loop-i.invariant c.loop-i-test.false }
