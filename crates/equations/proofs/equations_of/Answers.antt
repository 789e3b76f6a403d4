-- `equations::equations_of` meets its contract: a turn brings one key more into the equations of its two places, and leaves the others.
-- Assumes nothing.
use Prim.Native.Nat.{ℕ, ◌+◌, ◌<◌}
use mathlib.Core.Path.{◌≡◌, sym, ◌∙◌, ap}
use mathlib.Core.Bool.{Bool, true, false, cond}
use mathlib.Core.List.{List}
use native.Mathlib.Numerals.{add-one}
use native.Mathlib.Omega.{arith}
use lib.Bits.{bit_xor}
use lib.Dec.{eqb}
use lib.ListN.{length, get_or, take, set, length-set, length-replicate, get_or-replicate}
use lib.Seq.{get_or-take, take_all, ext_get_or}
use Rattle.refusal.specs.Limits.{group_max}
use Rattle.lists.specs.UpTo.{up_to}
use Rattle.lists.proofs.UpToLaws.{up_to-length, up_to-at}
use Rattle.places.specs.Array.{entry_of, key_at, keys_of}
use Rattle.places.proofs.ArrayLaws.{keys_of-length}
use Rattle.equations.specs.Equation.{with_key, equation_of}
use Rattle.equations.proofs.EquationLaws.{equation-none, equation-more, cell-xor}
use Rattle.equations.specs.Stated.{Stated}
use Rattle.equations.proofs.StatedLaws.{stated-rows}
use Rattle.equations.proofs.equations_of.Invariants.{CellsAfter}
use Rattle.equations.proofs.equations_of.Goals as goal
use Rattle.equations.proofs.equations_of.Goals.{In-loop-i}

module _
    {n : ℕ} {places rows cells : List ℕ} {i : ℕ} (stated : Stated n places rows)
    (at : CellsAfter n places rows cells i) (lt : i < n) where
  -- The key with index i and its row.
  key-is : get_or (keys_of n places) i (0, 0) ≡ key_at places i
  unfolding keys_of
  key-is = up_to-at n (key_at places) (0, 0) i lt

  place-below : (choice : Bool) → entry_of places i choice < group_max
  place-below choice = omega (arith, stated.below i lt choice, stated.few)

  abbrev first : ℕ
  first = entry_of places i false

  abbrev second : ℕ
  second = entry_of places i true

  abbrev row : ℕ
  row = get_or rows i 0

  -- The cells with the key in the equation of its first place, and then in that of its second.
  abbrev half : List ℕ
  half = set cells first (bit_xor (get_or cells first 0) (bit_xor row 4294967296))

  half-size : length half ≡ group_max
  half-size = length-set cells first _ ∙ at.size

  abbrev whole : List ℕ
  whole = set half second (bit_xor (get_or half second 0) row)

  cells-more : CellsAfter n places rows whole (i + 1)
  unfolding with_key
  cells-more = record {
    upto = omega arith;
    size = length-set half second _ ∙ half-size;
    equations = λ v below.
        cell-xor half second row v (omega (arith, half-size, place-below true))
        ∙ ap (λ (x : ℕ). bit_xor x (cond (eqb v second) row 0))
        (cell-xor cells first (bit_xor row 4294967296) v (omega (arith, at.size, place-below false)))
        ∙ rw (
          at.equations v below,
          add-one i,
          equation-more 32 (keys_of n places) (take n rows) v i (stated-rows stated).each (omega (arith, keys_of-length n places)),
          key-is,
          get_or-take n rows i 0 lt,
        );
  }

pub loop-i-init : goal.loop-i-init
loop-i-init c =
    let a = c.args in
    record {
      upto = omega arith;
      size = length-replicate {A = ℕ} group_max 4294967296;
      equations = λ v lt.
          get_or-replicate {A = ℕ} group_max v 4294967296 0 lt
          ∙ sym (equation-none 32 (keys_of a.n a.places.now) (take a.n a.rows.now) v);
    }

-- The first place of the turn's key, and its second, have a cell.
first_below : (c : In-loop-i) → entry_of c.args.places.now c.loop-i.i false < group_max
first_below c = place-below c.requires c.loop-i.invariant c.loop-i-test.true false

second_below : (c : In-loop-i) → entry_of c.args.places.now c.loop-i.i true < group_max
second_below c = place-below c.requires c.loop-i.invariant c.loop-i-test.true true

pub overflow_cast-row : goal.overflow_cast-row
overflow_cast-row c =
    record { fits = omega (arith, c.requires.fits c.loop-i.i c.loop-i-test.true) }

pub overflow_cast-first : goal.overflow_cast-first
unfolding entry_of
overflow_cast-first c = record { fits = omega (arith, first_below (goal.at.overflow_cast-first c).In-loop-i) }

pub offset_bounds-cells-first : goal.offset_bounds-cells-first
unfolding entry_of
offset_bounds-cells-first c = omega (arith, first_below (goal.at.offset_bounds-cells-first c).In-loop-i)

pub bounds-cells-first : goal.bounds-cells-first
unfolding entry_of
bounds-cells-first c = omega (arith, first_below (goal.at.bounds-cells-first c).In-loop-i)

pub offset_bounds-cells-first-in-loop-i : goal.offset_bounds-cells-first-in-loop-i
unfolding entry_of
offset_bounds-cells-first-in-loop-i c = omega (arith, first_below (goal.at.offset_bounds-cells-first-in-loop-i c).In-loop-i)

pub bounds-cells-first-in-loop-i : goal.bounds-cells-first-in-loop-i
unfolding entry_of
bounds-cells-first-in-loop-i c = omega (arith, first_below (goal.at.bounds-cells-first-in-loop-i c).In-loop-i)

pub overflow_cast-second : goal.overflow_cast-second
unfolding entry_of
overflow_cast-second c = record { fits = omega (arith, second_below (goal.at.overflow_cast-second c).In-loop-i) }

pub offset_bounds-cells-second : goal.offset_bounds-cells-second
unfolding entry_of
offset_bounds-cells-second c = omega (arith, second_below (goal.at.offset_bounds-cells-second c).In-loop-i)

pub bounds-cells-second : goal.bounds-cells-second
unfolding entry_of
bounds-cells-second c = omega (arith, second_below (goal.at.bounds-cells-second c).In-loop-i)

pub offset_bounds-cells-second-in-loop-i : goal.offset_bounds-cells-second-in-loop-i
unfolding entry_of
offset_bounds-cells-second-in-loop-i c = omega (arith, second_below (goal.at.offset_bounds-cells-second-in-loop-i c).In-loop-i)

pub bounds-cells-second-in-loop-i : goal.bounds-cells-second-in-loop-i
unfolding entry_of
bounds-cells-second-in-loop-i c = omega (arith, second_below (goal.at.bounds-cells-second-in-loop-i c).In-loop-i)

pub loop-i-preserved : goal.loop-i-preserved
unfolding entry_of
loop-i-preserved c =
    cells-more c.requires c.loop-i.invariant c.loop-i-test.true

pub returns : goal.returns
returns c =
    let at = c.loop-i in
    let a = c.args in
    let keys = keys_of a.n a.places.now in
    let rows = take a.n a.rows.now in
    let all : at.i ≡ a.n = omega (arith, at.invariant.upto) in
    let stated = stated-rows c.requires in
    let size = up_to-length group_max (equation_of 32 keys rows) in
    let every_key = take_all at.i keys (omega (arith, keys_of-length a.n a.places.now)) in
    let every_row = take_all at.i rows (omega (arith, keys_of-length a.n a.places.now, stated.each)) in
    record {
      answer = ext_get_or 0 at.cells (up_to group_max (equation_of 32 keys rows)) (at.invariant.size ∙ sym size) (λ v lt.
          let below : v < group_max = omega (arith, at.invariant.size) in
          at.invariant.equations v below
          ∙ rw (every_key, every_row) (sym (up_to-at group_max (equation_of 32 keys rows) 0 v below)));
    }
