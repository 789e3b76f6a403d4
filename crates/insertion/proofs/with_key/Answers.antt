-- `insertion::with_key` meets its contract: at a free first place no key moves; at a free second one key k weighs no more than
-- the key that has its first place would at its own second; and otherwise both insertions are made. Assumes nothing.
use Prim.Native.Nat.{ℕ, ◌+◌, ◌-◌, ◌<◌}
use mathlib.Core.Path.{refl}
use mathlib.Core.Bool.{true, false}
use native.Mathlib.Omega.{arith}
use lib.ListN.{get_or}
use Rattle.refusal.specs.Limits.{group_max}
use Rattle.bits.specs.WordBits.{choice_in, with_choice}
use Rattle.bits.specs.WordBitsLaws.{choice_number-zero}
use Rattle.places.specs.Array.{entry_of}
use Rattle.insertion.specs.Occupants.{occupants_after}
use Rattle.insertion.specs.TakenWordLaws.{word-lightest}
use Rattle.insertion.specs.InsertedLaws.{place-within, cells-size, occupant-lower, first-free, second-free, free-occupied}
use Rattle.insertion.proofs.with_key.Goals as goal
use Rattle.insertion.proofs.with_key.Goals.{Else-occupant-eq0, Start}

-- Both places of key k have a cell.
first : (c : Start) → get_or c.args.places.now c.args.k 0 < group_max
unfolding entry_of
first c = place-within _ _ _ c.requires.k_lt_group_max false

second : (c : Start) → get_or c.args.places.now (group_max + c.args.k) 0 < group_max
unfolding entry_of
second c = place-within _ _ _ c.requires.k_lt_group_max true

-- The key that has the first place.
abbrev occupant : Else-occupant-eq0 → ℕ
occupant c = get_or c.args.occupants.now (get_or c.args.places.now c.args.k 0) 0 - 1

pub overflow_cast-first-2 : goal.overflow_cast-first-2
overflow_cast-first-2 c = record { fits = omega (arith, first (goal.at.overflow_cast-first-2 c).Start) }

pub offset_bounds-occupants-first : goal.offset_bounds-occupants-first
offset_bounds-occupants-first c = record { fits = omega (arith, first (goal.at.offset_bounds-occupants-first c).Start) }

pub bounds-occupants-first : goal.bounds-occupants-first
bounds-occupants-first c = omega (arith, first (goal.at.bounds-occupants-first c).Start)

pub offset_bounds-occupants-first-then-occupant-eq0 : goal.offset_bounds-occupants-first-then-occupant-eq0
offset_bounds-occupants-first-then-occupant-eq0 c =
    record { fits = omega (arith, first (goal.at.offset_bounds-occupants-first-then-occupant-eq0 c).Start) }

pub bounds-occupants-first-then-occupant-eq0 : goal.bounds-occupants-first-then-occupant-eq0
bounds-occupants-first-then-occupant-eq0 c = omega (arith, first (goal.at.bounds-occupants-first-then-occupant-eq0 c).Start)

pub returns-then-occupant-eq0 : goal.returns-then-occupant-eq0
unfolding occupants_after entry_of with_choice
returns-then-occupant-eq0 c =
    let asked = c.requires.k_lt_group_max in
    let held = c.requires.occupants_value in
    record {
      answer = first-free _ _ _ asked held c.if-occupant-eq0.true;
      cells = free-occupied _ _ _ asked held false
          c.if-occupant-eq0.true;
    }

-- It is a key before k.
occupant-below : (c : Else-occupant-eq0) → occupant c < c.args.k
unfolding entry_of
occupant-below c = occupant-lower _ _ _ c.requires.k_lt_group_max c.requires.occupants_value _ c.if-occupant-eq0.false

pub choice_at-requires : goal.choice_at-requires
choice_at-requires c = omega (arith, occupant-below (goal.at.choice_at-requires c).Else-occupant-eq0)

pub overflow_cast-second-then-choice_at-eq0 : goal.overflow_cast-second-then-choice_at-eq0
overflow_cast-second-then-choice_at-eq0 c =
    record { fits = omega (arith, second (goal.at.overflow_cast-second-then-choice_at-eq0 c).Start) }

pub offset_bounds-occupants-second : goal.offset_bounds-occupants-second
offset_bounds-occupants-second c = record { fits = omega (arith, second (goal.at.offset_bounds-occupants-second c).Start) }

pub bounds-occupants-second : goal.bounds-occupants-second
bounds-occupants-second c = omega (arith, second (goal.at.bounds-occupants-second c).Start)

pub offset_bounds-occupants-second-then-occupants-second-eq0 : goal.offset_bounds-occupants-second-then-occupants-second-eq0
offset_bounds-occupants-second-then-occupants-second-eq0 c =
    record { fits = omega (arith, second (goal.at.offset_bounds-occupants-second-then-occupants-second-eq0 c).Start) }

pub bounds-occupants-second-then-occupants-second-eq0 : goal.bounds-occupants-second-then-occupants-second-eq0
bounds-occupants-second-then-occupants-second-eq0 c =
    omega (arith, second (goal.at.bounds-occupants-second-then-occupants-second-eq0 c).Start)

pub returns-then-occupants-second-eq0 : goal.returns-then-occupants-second-eq0
unfolding occupants_after entry_of with_choice
returns-then-occupants-second-eq0 c =
    let asked = c.requires.k_lt_group_max in
    let held = c.requires.occupants_value in
    let o = occupant (goal.at.returns-then-occupants-second-eq0 c).Else-occupant-eq0 in
    let at_first = choice_number-zero (choice_in c.args.word o)
    (λ e. omega (arith, e, c.choice_at.ensures.answer, c.if-choice_at-eq0.true)) in
    rw c.with_bit.ensures.answer record {
      answer = second-free _ _ _ asked held o (omega (arith, c.if-occupant-eq0.false)) at_first c.if-occupants-second-eq0.true;
      cells = free-occupied _ _ _ asked held true c.if-occupants-second-eq0.true;
    }

pub returns-in_err-next-clause-cells : goal.returns-in_err-next-clause-cells
unfolding occupants_after
returns-in_err-next-clause-cells c = rw c.from_residual.ensures refl

pub occupy-requires : goal.occupy-requires
occupy-requires c =
    let asked = c.requires.k_lt_group_max in
    let light = word-lightest c.args.places.now (c.args.k + 1) _ (omega arith) c.in_ok-next.ensures.answer in
    record {
      count_le_group_max = (omega arith, asked.1, cells-size _ _ _ asked c.requires.occupants_value);
      separate = light.lightest.separate;
    }

pub returns-clause-cells : goal.returns-clause-cells
unfolding occupants_after
returns-clause-cells c = c.occupy.ensures.cells
