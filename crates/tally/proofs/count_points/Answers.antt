-- `tally::count_points` meets its contract: a turn counts one place more for its label. Assumes nothing.
use Prim.Native.Nat.{◌<◌}
use mathlib.Core.Path.{refl, sym}
use native.Mathlib.Omega.{arith}
use lib.ListN.{get_or}
use borrow.Author.Tests.{eq-eqb, ne_eqb}
use Rattle.refusal.specs.Limits.{group_max}
use Rattle.tally.specs.TallyLaws.{counted_start, counted-most, counted-one, counted-done}
use Rattle.tally.proofs.count_points.Goals as goal
use Rattle.tally.proofs.count_points.Goals.{In-loop-place}

-- In a turn the label of the place has a cell.
below : (c : In-loop-place) → get_or c.args.labels.now c.loop-place.place 0 < group_max
below c = c.requires.1 c.loop-place.place (omega (arith, c.requires.0))

pub loop-place-init : goal.loop-place-init
loop-place-init c = counted_start _ _ _ _ c.requires.2

pub overflow_cast-label : goal.overflow_cast-label
overflow_cast-label c = omega (arith, below (goal.at.overflow_cast-label c).In-loop-place)

pub bounds-counts-label : goal.bounds-counts-label
bounds-counts-label c = below (goal.at.bounds-counts-label c).In-loop-place

pub overflow_add-counts : goal.overflow_add-counts
overflow_add-counts c =
    let counted = c.loop-place.invariant in
    omega (arith, counted-most _ _ _ counted _ (below (goal.at.overflow_add-counts c).In-loop-place), counted.upto, c.requires.0)

pub bounds-counts-label-in-loop-place : goal.bounds-counts-label-in-loop-place
bounds-counts-label-in-loop-place c = below (goal.at.bounds-counts-label-in-loop-place c).In-loop-place

pub loop-place-preserved : goal.loop-place-preserved
loop-place-preserved c =
    let label = get_or c.args.labels.now c.loop-place.place 0 in
    counted-one _ _ _ c.loop-place.invariant label c.loop-place-test.true (below (goal.at.loop-place-preserved c).In-loop-place)
    (eq-eqb label label refl)
    (λ r other. ne_eqb label r (λ e. other (sym e)))

pub returns : goal.returns
returns c = record { cells = counted-done _ _ _ c.loop-place.invariant c.loop-place-test.false }
