-- `tally::count_edges` meets its contract: a turn counts one tag more for the label of both its places. Assumes nothing.
use Prim.Native.Nat.{◌<◌}
use mathlib.Core.Bool.{Bool, true, false}
use native.Mathlib.Omega.{arith}
use lib.ListN.{get_or}
use Rattle.refusal.specs.Limits.{group_max}
use Rattle.filling.specs.Filling.{place_by}
use Rattle.places.specs.Array.{entry_of, keys_of}
use Rattle.tally.specs.TallyLaws.{counted_start, counted-most, counted-one, counted_none, counted-done}
use Rattle.tally.specs.TallyLaws.{both-same, both-other, both-never}
use Rattle.tally.proofs.count_edges.Goals as goal
use Rattle.tally.proofs.count_edges.Goals.{In-loop-i, then-labels-second, else-labels-second}

-- In a turn the key is one of those stated, each of its places has a label,
below : (c : In-loop-i) (choice : Bool)
    → entry_of c.args.places.now c.loop-i.i choice < group_max
below c choice = c.requires.1.below c.loop-i.i c.loop-i-test.true choice

-- and its label has a cell.
label-below : (c : In-loop-i)
    → (let a = c.args in get_or a.labels.now (entry_of a.places.now c.loop-i.i false) 0 < group_max)
label-below c = c.requires.2 _ (below c false)

pub loop-i-init : goal.loop-i-init
loop-i-init c = counted_start _ _ _ _ c.requires.3

pub overflow_cast-first : goal.overflow_cast-first
unfolding entry_of
overflow_cast-first c = omega (arith, below (goal.at.overflow_cast-first c).In-loop-i false)

pub overflow_cast-second : goal.overflow_cast-second
unfolding entry_of
overflow_cast-second c = omega (arith, below (goal.at.overflow_cast-second c).In-loop-i true)

pub bounds-labels-first : goal.bounds-labels-first
unfolding entry_of
bounds-labels-first c = below (goal.at.bounds-labels-first c).In-loop-i false

pub bounds-labels-second : goal.bounds-labels-second
unfolding entry_of
bounds-labels-second c = below (goal.at.bounds-labels-second c).In-loop-i true

pub overflow_cast-counts : goal.overflow_cast-counts
unfolding entry_of
overflow_cast-counts c = omega (arith, label-below (goal.at.overflow_cast-counts c).In-loop-i)

pub bounds-counts-label : goal.bounds-counts-label
unfolding entry_of
bounds-counts-label c = label-below (goal.at.bounds-counts-label c).In-loop-i

pub overflow_add-counts : goal.overflow_add-counts
unfolding entry_of
overflow_add-counts c =
    let counted = c.loop-i.invariant in
    omega (arith, counted-most _ _ _ counted _ (label-below (goal.at.overflow_add-counts c).In-loop-i), counted.upto, c.requires.0)

pub bounds-counts-label-then-labels-second : goal.bounds-counts-label-then-labels-second
unfolding entry_of
bounds-counts-label-then-labels-second c = label-below (goal.at.bounds-counts-label-then-labels-second c).In-loop-i

pub loop-i-preserved : goal.loop-i-preserved
unfolding entry_of place_by
loop-i-preserved c =
    let counted = c.loop-i.invariant in
    let inside = c.loop-i-test.true in
    elim c.if-labels-second.branch [
      | then-labels-second w ↦ rw w.counts-is
          (counted-one _ _ _ counted _ inside (label-below (goal.at.loop-i-preserved c).In-loop-i) (both-same _ _ w.if-labels-second.true)
          (λ r other. both-other _ _ r other))
      | else-labels-second w ↦ rw w.counts-is (counted_none _ _ _ counted inside (λ r. both-never _ _ r w.if-labels-second.false))
    ]

pub returns : goal.returns
unfolding keys_of
returns c = record { cells = counted-done _ _ _ c.loop-i.invariant c.loop-i-test.false }
