-- `labels::part_labels` meets its contract: each place begins with its own label, and a turn merges the labels of one key's places.
-- Assumes nothing.
use Prim.Native.Nat.{◌-◌, ◌<◌}
use mathlib.Core.Path.{◌≡◌, refl, sym, ◌∙◌}
use mathlib.Core.Bool.{Bool, true, false}
use native.Mathlib.Omega.{arith}
use lib.ListN.{drop}
use Rattle.refusal.specs.Limits.{group_max}
use Rattle.lists.specs.UpTo.{up_to}
use Rattle.graph.specs.Label.{labels_of}
use Rattle.places.specs.Array.{entry_of, keys_of}
use Rattle.places.proofs.ArrayLaws.{keys_of-length, keys_of-place}
use Rattle.labels.specs.LabelsLaws.{labels-none, labels-turn, numbered-turn, numbered-done}
use Rattle.labels.proofs.part_labels.Goals as goal
use Rattle.labels.proofs.part_labels.Goals.{In-loop-i}

-- In a turn the key is one of those stated, and each of its places is one of the array's.
below : (c : In-loop-i) (choice : Bool) → entry_of c.args.places.now (c.loop-i.i - 1) choice < group_max
below c choice = c.requires.1.below (c.loop-i.i - 1) (omega arith) choice

pub loop-v-init : goal.loop-v-init
unfolding up_to
loop-v-init c = (omega arith, refl)

pub loop-v-preserved : goal.loop-v-preserved
loop-v-preserved c =
    let at = c.loop-v in
    (omega arith, rw at.invariant.1 (numbered-turn _ at.v (omega (arith, c.requires.2))))

pub loop-i-init : goal.loop-i-init
loop-i-init c =
    let at = c.loop-v in
    let count = c.args.count in
    let places = c.args.places.now in
    let all : at.v ≡ group_max = omega arith in
    let none : labels_of group_max (drop count (keys_of count places)) ≡ up_to group_max (λ u. u) =
    rw (keys_of-length count places) at (labels-none group_max (keys_of count places)) in
    (omega arith, at.invariant.1 ∙ numbered-done _ at.v (omega (arith, c.requires.2)) ∙ rw all (sym none))

pub bounds-labels-first : goal.bounds-labels-first
unfolding entry_of
bounds-labels-first c =
    omega (arith, below (goal.at.bounds-labels-first c).In-loop-i false, below (goal.at.bounds-labels-first c).In-loop-i true)

pub bounds-labels-second : goal.bounds-labels-second
unfolding entry_of
bounds-labels-second c =
    omega (arith, below (goal.at.bounds-labels-second c).In-loop-i false, below (goal.at.bounds-labels-second c).In-loop-i true)

pub loop-i-preserved : goal.loop-i-preserved
unfolding entry_of
loop-i-preserved c =
    let at = c.loop-i in
    let count = c.args.count in
    let places = c.args.places.now in
    let keys = keys_of count places in
    let place = keys_of-place count places (at.i - 1) (omega arith) in
    let merges = labels-turn group_max keys at.i (omega arith) (omega (arith, keys_of-length count places))
    (rw (place false) (below (goal.at.loop-i-preserved c).In-loop-i false))
    (rw (place true) (below (goal.at.loop-i-preserved c).In-loop-i true)) in
    (omega arith, c.merge.ensures.cells ∙ rw at.invariant.1 (rw (place false, place true) at merges))
