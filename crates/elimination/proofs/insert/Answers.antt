-- `elimination::insert` meets its contract: each turn takes off the table's equation with the same lowest bit, so that the lowest bit of
-- what is left goes up and the solutions stay. Assumes nothing.
use Prim.Native.Nat.{suc, ◌<◌}
use mathlib.Core.Path.{refl}
use native.Mathlib.Omega.{arith}
use lib.Bits.{bit_xor}
use lib.Count.{count_trailing_zeros}
use lib.ListN.{get_or}
use Rattle.elimination.specs.LowestLaws.{Lowest, trailing-lowest, trailing-least, lowest-below, lowest-xor}
use Rattle.elimination.specs.TableLaws.{pivot-lowest, reduced-start, reduced-xor, reduced-none, reduced-stored}
use Rattle.elimination.proofs.insert.Goals as goal
use Rattle.elimination.proofs.insert.Goals.{Else-pivot-eq0, In-loop-left}

-- What is left has a lowest bit,
lowest : (c : In-loop-left) → Lowest (count_trailing_zeros 64 c.loop-left.left) c.loop-left.left
lowest c = trailing-lowest 64 c.loop-left.left c.loop-left-test.true (omega (arith, c.loop-left.invariant.reduced.fits))

-- which is a cell of the table.
bit_below : (c : In-loop-left) → count_trailing_zeros 64 c.loop-left.left < 33
bit_below c = lowest-below (lowest c) 33 c.loop-left.invariant.reduced.fits

pub loop-left-init : goal.loop-left-init
loop-left-init c = record { same = refl; sound = c.requires.0; reduced = reduced-start c.requires.1 }

pub overflow_cast-bit : goal.overflow_cast-bit
overflow_cast-bit c = record { fits = omega (arith, bit_below (goal.at.overflow_cast-bit c).In-loop-left) }

pub offset_bounds-table-bit : goal.offset_bounds-table-bit
offset_bounds-table-bit c = omega (arith, bit_below (goal.at.offset_bounds-table-bit c).In-loop-left)

pub bounds-table-bit : goal.bounds-table-bit
bounds-table-bit c = omega (arith, bit_below (goal.at.bounds-table-bit c).In-loop-left)

pub offset_bounds-table-bit-then-pivot-eq0 : goal.offset_bounds-table-bit-then-pivot-eq0
offset_bounds-table-bit-then-pivot-eq0 c = omega (arith, bit_below (goal.at.offset_bounds-table-bit-then-pivot-eq0 c).In-loop-left)

pub bounds-table-bit-then-pivot-eq0 : goal.bounds-table-bit-then-pivot-eq0
bounds-table-bit-then-pivot-eq0 c = omega (arith, bit_below (goal.at.bounds-table-bit-then-pivot-eq0 c).In-loop-left)

pub returns-then-pivot-eq0 : goal.returns-then-pivot-eq0
returns-then-pivot-eq0 c =
    let at = c.loop-left.invariant in
    let own = lowest (goal.at.returns-then-pivot-eq0 c).In-loop-left in
    record { cells = rw (← at.same) (reduced-stored at.sound at.reduced own c.if-pivot-eq0.true) }

-- The lowest bit goes up.
higher : (c : Else-pivot-eq0) → (let at = c.loop-left in
    count_trailing_zeros 64 at.left < count_trailing_zeros 64 (bit_xor at.left (get_or at.table (count_trailing_zeros 64 at.left) 0)))
higher c =
    let at = c.loop-left in
    let bit = count_trailing_zeros 64 at.left in
    let own : Lowest bit at.left =
    trailing-lowest 64 at.left c.loop-left-test.true (omega (arith, at.invariant.reduced.fits)) in
    trailing-least 64 (bit_xor at.left (get_or at.table bit 0)) (suc bit)
    (omega (arith, lowest-below own 33 at.invariant.reduced.fits))
    (lowest-xor own (pivot-lowest at.invariant.sound bit c.if-pivot-eq0.false))

pub loop-left-smaller : goal.loop-left-smaller
loop-left-smaller c = omega
    (arith, higher (goal.at.loop-left-smaller c).Else-pivot-eq0, bit_below (goal.at.loop-left-smaller c).In-loop-left)

pub loop-left-preserved : goal.loop-left-preserved
loop-left-preserved c =
    let at = c.loop-left in
    record {
      same = at.invariant.same;
      sound = at.invariant.sound;
      reduced = reduced-xor at.invariant.sound at.invariant.reduced (count_trailing_zeros 64 at.left);
    }

pub returns : goal.returns
returns c =
    let at = c.loop-left.invariant in
    record { cells = rw (← at.same) (reduced-none at.sound at.reduced c.loop-left-test.false) }
