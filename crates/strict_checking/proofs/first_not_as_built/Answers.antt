-- `strict_checking::first_not_as_built` meets its contract: no group before g differs, and the first that does ends the loop.
-- Assumes nothing.
use mathlib.Core.Path.{refl, sym, ◌∙◌}
use Prim.Native.Nat.{◌+◌, ◌≤◌, ◌<◌}
use native.Mathlib.Omega.{arith}
use lib.ListN.{length, get_or}
use Rattle.lists.specs.First.{first}
use Rattle.lists.proofs.SearchLaws.{searched-start, searched-turn, searched-found, searched-done}
use Rattle.strict_checking.specs.Groups.{differs_at}
use Rattle.strict_checking.proofs.first_not_as_built.Goals as goal
use Rattle.strict_checking.proofs.first_not_as_built.Goals.{In-loop-g}

-- In a turn of the loop there is a group g, and
below : (c : In-loop-g) → c.loop-g.g < c.args.groups
below c = omega (arith, c.loop-g-test.true)

-- its slots begin no later than they end, and end within the tags.
within : (c : In-loop-g)
    → (let starts = c.args.starts.now in let g = c.loop-g.g in
    (get_or starts g 0 ≤ get_or starts (g + 1) 0) × (get_or starts (g + 1) 0 ≤ length c.args.tags.now))
within c =
    let g = c.loop-g.g in
    (c.requires.ascends g (below c), c.requires.inside g (below c))

pub loop-g-init : goal.loop-g-init
unfolding first
loop-g-init c =
    let a = c.args in
    searched-start (differs_at a.starts.now a.seeds.now a.tags.now) 0 a.groups (omega arith) refl

pub overflow_cast-start : goal.overflow_cast-start
overflow_cast-start c = record { fits = omega (arith, within (goal.at.overflow_cast-start c).In-loop-g, c.requires.tags-legal) }

pub overflow_cast-end : goal.overflow_cast-end
overflow_cast-end c = record { fits = omega (arith, within (goal.at.overflow_cast-end c).In-loop-g, c.requires.tags-legal) }

pub offset_bounds-tags-start : goal.offset_bounds-tags-start
offset_bounds-tags-start c = omega (arith, within (goal.at.offset_bounds-tags-start c).In-loop-g)

pub slice_bounds-differs-count : goal.slice_bounds-differs-count
slice_bounds-differs-count c = (within (goal.at.slice_bounds-differs-count c).In-loop-g).0

pub differs-requires : goal.differs-requires
differs-requires c =
    c.requires.servable c.loop-g.g (below (goal.at.differs-requires c).In-loop-g)

pub returns-then-differs : goal.returns-then-differs
returns-then-differs c =
    let a = c.args in
    record {
      answer = sym (searched-found (differs_at a.starts.now a.seeds.now a.tags.now) 0 a.groups c.loop-g.g
          c.loop-g.invariant (below (goal.at.returns-then-differs c).In-loop-g) (sym c.differs.ensures.answer ∙ c.if-differs.true));
    }

pub loop-g-preserved : goal.loop-g-preserved
loop-g-preserved c =
    let a = c.args in
    searched-turn (differs_at a.starts.now a.seeds.now a.tags.now) 0 a.groups c.loop-g.g
    c.loop-g.invariant (below (goal.at.loop-g-preserved c).In-loop-g) (sym c.differs.ensures.answer ∙ c.if-differs.false)

pub returns : goal.returns
returns c =
    let a = c.args in
    record {
      answer = sym (searched-done (differs_at a.starts.now a.seeds.now a.tags.now) 0 a.groups c.loop-g.g c.loop-g.invariant
          c.loop-g-test.false);
    }
