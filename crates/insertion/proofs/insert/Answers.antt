-- `insertion::insert` meets its contract: `Inserting` is the state of the loop, and each eviction uses up one that is left.
-- Assumes nothing.
use Prim.Native.Nat.{ℕ, ◌-◌, ◌<◌}
use mathlib.Core.Path.{◌≡◌, sym, ◌∙◌}
use native.Mathlib.Omega.{arith}
use lib.ListN.{get_or}
use Rattle.filling.specs.Word.{choice_number}
use Rattle.bits.specs.WordBits.{choice_in}
use Rattle.places.proofs.ArrayLaws.{candidates-fewer}
use Rattle.insertion.specs.OccupantsLaws.{occupant-within}
use Rattle.insertion.specs.InsertedLaws.{inserting-start, inserting-within, inserting-done}
use Rattle.insertion.specs.InsertedLaws.{inserting-returned, inserting-stuck, place-part, inserting-turn}
use Rattle.insertion.proofs.insert.Goals as goal
use Rattle.insertion.proofs.insert.Goals.{Else-choice_at, Else-occupant-eq0}

-- The place has an occupant, o, which is one of the keys before k.
abbrev o : Else-occupant-eq0 → ℕ
o c = get_or c.args.occupants.now c.loop-word.place 0 - 1

below : (c : Else-occupant-eq0) → o c < c.args.k
below c = occupant-within _ c.requires.lightest.1 c.loop-word.place c.if-occupant-eq0.false

-- It has not moved.
still : (c : Else-choice_at)
    → choice_number (choice_in c.loop-word.choices (get_or c.args.occupants.now c.loop-word.place 0 - 1))
    ≡ choice_number (choice_in c.args.word (get_or c.args.occupants.now c.loop-word.place 0 - 1))
still c = sym c.choice_at.ensures.answer ∙ c.if-choice_at.false ∙ c.choice_at-in-loop-word.ensures.answer

pub loop-word-init : goal.loop-word-init
loop-word-init c =
    let a = c.args in
    let below = c.requires.k_lt_group_max.1.below a.k (omega arith) (choice_in a.word a.k) in
    let begun = inserting-start a.places.now a.k a.word c.requires.k_lt_group_max.2 c.requires.lightest.0 in
    rw c.place_taken-place.ensures.answer (below, begun)

pub returns-then-occupant-eq0 : goal.returns-then-occupant-eq0
returns-then-occupant-eq0 c =
    record { answer = inserting-done _ c.loop-word.invariant.1 c.requires.lightest.1 c.requires.lightest.0 c.if-occupant-eq0.true }

pub choice_at-requires : goal.choice_at-requires
choice_at-requires c = omega (arith, below (goal.at.choice_at-requires c).Else-occupant-eq0)

pub choice_at-requires-in-loop-word : goal.choice_at-requires-in-loop-word
choice_at-requires-in-loop-word c = omega (arith, below (goal.at.choice_at-requires-in-loop-word c).Else-occupant-eq0)

pub returns-then-choice_at : goal.returns-then-choice_at
returns-then-choice_at c =
    record {
      answer = inserting-returned _ c.loop-word.invariant.1 c.requires.lightest.1 _ (omega (arith, c.if-occupant-eq0.false))
          (λ e. c.if-choice_at.true (c.choice_at.ensures.answer ∙ e ∙ sym c.choice_at-in-loop-word.ensures.answer));
    }

pub returns-then-evictions-eq0 : goal.returns-then-evictions-eq0
returns-then-evictions-eq0 c =
    record {
      answer = inserting-stuck _ c.loop-word.invariant.1 c.requires.lightest.1 _ (omega (arith, c.if-occupant-eq0.false))
          (still (goal.at.returns-then-evictions-eq0 c).Else-choice_at) (omega (arith, c.if-evictions-eq0.true));
    }

pub toggled-choices-requires : goal.toggled-choices-requires
toggled-choices-requires c = omega (arith, below (goal.at.toggled-choices-requires c).Else-occupant-eq0)

pub other_place-place-requires : goal.other_place-place-requires
other_place-place-requires c =
    let part = place-part _ c.loop-word.invariant.1 c.requires.lightest.1 _ (omega (arith, c.if-occupant-eq0.false))
    (still (goal.at.other_place-place-requires c).Else-choice_at) in
    let lower = below (goal.at.other_place-place-requires c).Else-occupant-eq0 in
    record { i_lt_group_max = (omega arith, candidates-fewer _ (omega arith) c.requires.k_lt_group_max.1); place_bound = part }

pub loop-word-preserved : goal.loop-word-preserved
loop-word-preserved c =
    let next = inserting-turn _ c.loop-word.invariant.1 c.requires.lightest.1 _ (omega (arith, c.if-occupant-eq0.false))
    (still (goal.at.loop-word-preserved c).Else-choice_at) in
    rw (c.other_place-place.ensures.answer, c.toggled-choices.ensures.answer)
    (inserting-within _ next c.requires.k_lt_group_max.1, next)
