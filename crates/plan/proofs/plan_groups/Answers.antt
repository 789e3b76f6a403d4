-- `plan::plan_groups` meets its contract: each group that the loop has passed has its least seed. Assumes nothing.
use mathlib.Core.Path.{sym, ◌∙◌, ap}
use Prim.Native.Nat.{◌≤◌}
use native.Mathlib.Omega.{arith}
use lib.ListN.{length, get_or}
use Rattle.numbering.proofs.PartsLaws.{part-bounds}
use Rattle.refusal.specs.Answer.{outcome}
use Rattle.plan.proofs.Search.{found-start, found_turn, found-without, found-done}
use Rattle.plan.proofs.plan_groups.Goals as goal
use Rattle.plan.proofs.plan_groups.Goals.{In-loop-g}

-- The group's part begins no later than it ends, and ends within the tags.
bounds : (c : In-loop-g)
    → (let end = get_or c.args.ends.now c.loop-g.g 0 in (c.loop-g.start ≤ end) × (end ≤ length c.args.ordered.now))
bounds c = part-bounds c.requires.0.parts c.loop-g.g c.loop-g.invariant.start_is c.loop-g-test.true

pub loop-g-init : goal.loop-g-init
loop-g-init c =
    let a = c.args in
    found-start a.groups a.ordered.now a.ends.now a.limit a.seeds.now

pub bounds-ends-g : goal.bounds-ends-g
bounds-ends-g c = omega (arith, c.requires.0.parts.known)

pub offset_bounds-ordered-start : goal.offset_bounds-ordered-start
offset_bounds-ordered-start c = omega (arith, bounds (goal.at.offset_bounds-ordered-start c).In-loop-g)

pub slice_bounds-group_seed-count : goal.slice_bounds-group_seed-count
slice_bounds-group_seed-count c = (bounds (goal.at.slice_bounds-group_seed-count c).In-loop-g).0

pub returns-in_default : goal.returns-in_default
returns-in_default c =
    let inv = c.loop-g.invariant in
    let outcome = sym c.group_seed.ensures.answer ∙ ap outcome c.in_default.is in
    record { answer = sym (found-without c.requires.0 inv c.loop-g-test.true outcome); seeds = inv.seeds-are }

pub loop-g-preserved : goal.loop-g-preserved
loop-g-preserved c =
    let outcome = sym c.group_seed.ensures.answer ∙ ap outcome c.in-Ok.is in
    found_turn c.requires.0 c.loop-g.invariant c.loop-g-test.true outcome
    (omega (arith, c.requires.1, c.requires.2))

pub returns : goal.returns
returns c =
    let done = found-done c.loop-g.invariant c.loop-g-test.false in
    record { answer = sym done.0; seeds = done.1 }
