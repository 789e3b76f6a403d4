-- `arrange::arrange` meets its contract: after g turns the cells begin with the slots of the first g groups, each of which some sequence
-- fills, and the others are as they were. Assumes nothing.
use Prim.Native.Nat.{◌≤◌}
use mathlib.Core.Path.{sym, ◌∙◌}
use native.Mathlib.Omega.{arith}
use lib.ListN.{length, get_or}
use Rattle.arrange.proofs.Slots.{filled-start, filled-length, part-within, part-legal, part-unfilled, part-arrangeable}
use Rattle.arrange.proofs.Slots.{filled-turn, filled-done}
use Rattle.arrange.proofs.arrange.Goals as goal
use Rattle.arrange.proofs.arrange.Goals.{In-loop-g}

-- A turn of the loop: the group's part begins no later than it ends, and ends within the tags and within the cells.
within : (c : In-loop-g)
    → (let end = get_or c.args.ends.now c.loop-g.g 0 in
    (c.loop-g.start ≤ end) × (end ≤ length c.args.ordered.now) × (end ≤ length c.loop-g.slots))
within c = part-within c.requires c.loop-g.invariant c.loop-g-test.true

pub loop-g-init : goal.loop-g-init
loop-g-init c = filled-start c.requires

pub offset_bounds-ordered-start : goal.offset_bounds-ordered-start
offset_bounds-ordered-start c = omega (arith, within (goal.at.offset_bounds-ordered-start c).In-loop-g)

pub slice_bounds-word_under-count : goal.slice_bounds-word_under-count
slice_bounds-word_under-count c = (within (goal.at.slice_bounds-word_under-count c).In-loop-g).0

pub word_under-requires : goal.word_under-requires
word_under-requires c =
    part-legal c.requires c.loop-g.invariant c.loop-g-test.true

pub shape_of-slots-in_default : goal.shape_of-slots-in_default
shape_of-slots-in_default c =
    filled-length c.requires c.loop-g.invariant

pub returns-in_default : goal.returns-in_default
returns-in_default c =
    let nothing = sym c.word_under.ensures.answer ∙ c.in_default.is in
    let inv = c.loop-g.invariant in
    record { answer = sym (part-unfilled c.requires inv c.loop-g-test.true nothing); cells = inv.cells_are }

pub offset_bounds-ordered-start-in-loop-g : goal.offset_bounds-ordered-start-in-loop-g
offset_bounds-ordered-start-in-loop-g c = omega (arith, within (goal.at.offset_bounds-ordered-start-in-loop-g c).In-loop-g)

pub slice_bounds-arrange_group-count : goal.slice_bounds-arrange_group-count
slice_bounds-arrange_group-count c = (within (goal.at.slice_bounds-arrange_group-count c).In-loop-g).0

pub offset_bounds-slots-start : goal.offset_bounds-slots-start
offset_bounds-slots-start c = omega (arith, within (goal.at.offset_bounds-slots-start c).In-loop-g)

pub slice_bounds-arrange_group-count-in-loop-g : goal.slice_bounds-arrange_group-count-in-loop-g
slice_bounds-arrange_group-count-in-loop-g c = (within (goal.at.slice_bounds-arrange_group-count-in-loop-g c).In-loop-g).0

pub arrange_group-requires : goal.arrange_group-requires
arrange_group-requires c =
    let found = sym c.word_under.ensures.answer ∙ c.in-Some.is in
    part-arrangeable c.requires c.loop-g.invariant c.loop-g-test.true found

pub loop-g-preserved : goal.loop-g-preserved
loop-g-preserved c =
    let found = sym c.word_under.ensures.answer ∙ c.in-Some.is in
    filled-turn c.requires c.loop-g.invariant c.loop-g-test.true found c.arrange_group.ensures.cells

pub shape_of-slots : goal.shape_of-slots
shape_of-slots c = filled-length c.requires c.loop-g.invariant

pub returns : goal.returns
returns c =
    let done = filled-done c.requires c.loop-g.invariant c.loop-g-test.false in
    record { answer = sym done.0; cells = done.1 }
