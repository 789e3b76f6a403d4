-- `seeds::least_seed` meets its contract: the eviction loop is only in states that bounded cuckoo insertion reaches, so it accepts
-- the first seed that something fills and no seed before it is one. The measure's 128 is more than the evictions that an insertion may
-- make, 2 * group_max + 1. Assumes nothing.
use Prim.Native.Nat.{ℕ, ◌+◌, ◌<◌}
use mathlib.Core.Path.{◌≡◌, sym, ◌∙◌}
use mathlib.Core.Bool.{true, false}
use mathlib.Core.List.{List}
use native.Mathlib.Omega.{arith}
use lib.ListN.{length, get_or}
use Rattle.refusal.specs.Limits.{group_max}
use Rattle.places.specs.Array.{entry_of}
use Rattle.seeds.specs.Tried.{tried}
use Rattle.seeds.proofs.Turns.{passed_start, passed-more, passed-out, passed-found, laid_next, dropped}
use Rattle.seeds.proofs.Turns.{turn-start, turn-same, turn-all, turn-place, turn-other, turn_last}
use Rattle.seeds.proofs.Turns.{next-first, turn-next, turn-evict, turn-spent}
use Rattle.seeds.proofs.least_seed.Goals as goal
use Rattle.seeds.proofs.least_seed.Goals.{Else-seated-n, Then-seated-n-2}
use Rattle.seeds.proofs.least_seed.Goals.{then-seated-n-2+then-others-place-ne0, then-seated-n-2+else-others-place-ne0, else-seated-n-2}

-- A turn of the inner loop with a tag still to be seated.
abbrev Turning : Type 0
Turning = Else-seated-n

abbrev tags : Turning → List ℕ
tags c = c.args.tags.now

more : (c : Turning) → c.evict.seated ≡ length (tags c) → ⊥
more c e = c.if-seated-n.false (e ∙ sym c.size_of-n.ensures.answer)

place-below : (c : Turning) → c.evict.place < group_max
place-below c = turn-place c.evict.invariant (more c)

-- A tag more is seated, and another to be: its first place has a cell.
next-below : (c : Then-seated-n-2) → get_or c.lay_out-occupied.new.places (c.evict.seated + 1) 0 < group_max
unfolding entry_of
next-below c =
    next-first c.evict.invariant (λ e. c.if-seated-n.false (e ∙ sym c.size_of-n.ensures.answer)) c.if-taken-eq0.true (omega arith)

pub seeds-init : goal.seeds-init
seeds-init c =
    let a = c.args in
    passed_start a.tags.now a.limit a.places.now (omega arith)

pub returns-then-next-limit : goal.returns-then-next-limit
unfolding tried
returns-then-next-limit c =
    let next-is : c.seeds.next ≡ c.args.limit = omega (arith, c.seeds.invariant.upto) in
    record { answer = passed-out (omega arith) c.seeds.invariant c.if-next-limit.true; cells = rw (← next-is) c.seeds.invariant.cells }

pub seeds-preserved-then-occupied-n : goal.seeds-preserved-then-occupied-n
seeds-preserved-then-occupied-n c =
    let tags = c.args.tags.now in
    passed-more (omega arith) c.seeds.invariant c.lay_out-occupied.ensures.cells (omega arith)
    (dropped tags c.seeds.next c.lay_out-occupied.ensures.answer (λ e. c.if-occupied-n.true (e ∙ sym c.size_of-n.ensures.answer)))

pub evict-init : goal.evict-init
evict-init c =
    turn-start c.args.tags.now c.seeds.next c.seeds.places c.seeds.invariant.size
    c.lay_out-occupied.ensures.cells (omega arith)

pub bounds-others-place : goal.bounds-others-place
bounds-others-place c =
    omega (arith, turn-place c.evict.invariant (λ e. c.if-seated-n.false (e ∙ sym c.size_of-n.ensures.answer)))

pub overflow_add-others : goal.overflow_add-others
overflow_add-others c = omega (arith, turn-other c.evict.invariant (more (goal.at.overflow_add-others c).Else-seated-n))

pub overflow_cast-others : goal.overflow_cast-others
overflow_cast-others c = record { fits = omega (arith, place-below (goal.at.overflow_cast-others c).Else-seated-n) }

pub offset_bounds-others-place-in-evict : goal.offset_bounds-others-place-in-evict
offset_bounds-others-place-in-evict c = omega (arith, place-below (goal.at.offset_bounds-others-place-in-evict c).Else-seated-n)

pub bounds-others-place-in-evict : goal.bounds-others-place-in-evict
bounds-others-place-in-evict c = omega (arith, place-below (goal.at.bounds-others-place-in-evict c).Else-seated-n)

pub overflow_cast-place-then-seated-n-2 : goal.overflow_cast-place-then-seated-n-2
overflow_cast-place-then-seated-n-2 c =
    record { fits = omega (arith, next-below (goal.at.overflow_cast-place-then-seated-n-2 c).Then-seated-n-2) }

pub offset_bounds-others-place-then-seated-n-2 : goal.offset_bounds-others-place-then-seated-n-2
offset_bounds-others-place-then-seated-n-2 c =
    omega (arith, next-below (goal.at.offset_bounds-others-place-then-seated-n-2 c).Then-seated-n-2)

pub bounds-others-place-then-seated-n-2 : goal.bounds-others-place-then-seated-n-2
bounds-others-place-then-seated-n-2 c = omega (arith, next-below (goal.at.bounds-others-place-then-seated-n-2 c).Then-seated-n-2)

pub evict-preserved-then-taken-eq0 : goal.evict-preserved-then-taken-eq0
unfolding entry_of
evict-preserved-then-taken-eq0 c =
    let inv = c.evict.invariant in
    let unseated = more (goal.at.evict-preserved-then-taken-eq0 c).Else-seated-n in
    elim c.if-seated-n-2.branch [
      | then-seated-n-2+then-others-place-ne0 w ↦
          turn-same w.place-is w.other-is (turn-next inv unseated c.if-taken-eq0.true (omega arith) true)
      | then-seated-n-2+else-others-place-ne0 w ↦
          turn-same w.place-is w.other-is (turn-next inv unseated c.if-taken-eq0.true (omega arith) false)
      | else-seated-n-2 w ↦ turn-same w.place-is w.other-is (turn_last inv unseated c.if-taken-eq0.true (omega arith))
    ]

pub seeds-preserved : goal.seeds-preserved
seeds-preserved c =
    passed-more (omega arith) c.seeds.invariant c.lay_out-occupied.ensures.cells (omega arith)
    (turn-spent c.evict.invariant (more (goal.at.seeds-preserved c).Else-seated-n) c.if-taken-eq0.false c.if-left-eq0.true)

pub evict-preserved : goal.evict-preserved
evict-preserved c =
    turn-evict c.evict.invariant (more (goal.at.evict-preserved c).Else-seated-n) c.if-taken-eq0.false c.if-left-eq0.false

pub returns : goal.returns
unfolding tried
returns c =
    let (cs, fills) = turn-all c.evict.invariant (c.if-seated-n.true ∙ c.size_of-n.ensures.answer)
    in record {
      answer = passed-found (omega arith) c.seeds.invariant (omega arith) cs fills;
      cells = laid_next (omega arith)
          c.seeds.invariant c.lay_out-occupied.ensures.cells;
    }
