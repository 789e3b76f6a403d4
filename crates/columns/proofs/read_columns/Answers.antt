-- `columns::read_columns` meets its contract: no sum leaves 64 bits, since masked words are below their masks. Assumes nothing.
use Prim.Native.Nat.{ℕ, ◌+◌, ◌*◌, ◌≤◌}
use native.Mathlib.Omega.{arith}
use lib.Bits.{bit_and, and_le_r}
use Rattle.columns.proofs.Numbers.{Packed, pairs_of, pairs_below, fours-below, no-digits, other-spaces, columns-read}
use Rattle.columns.proofs.read_columns.Goals as goal
use Rattle.columns.proofs.read_columns.Goals.{After-four_bytes-2}

-- Where both halves are read: the word, and its digits.
abbrev Read : Type 0
Read = After-four_bytes-2

abbrev word : Read → ℕ
word c = c.four_bytes.result + c.four_bytes-2.result * 4294967296

digits-below : (c : Read) → bit_and (word c) 1085102592571150095 ≤ 1085102592571150095
digits-below c = and_le_r (word c) 1085102592571150095

eight : (c : Read) → Packed c.args.line.now c.args.second (word c)
eight c =
    record {
      near = c.requires.le_second.0;
      room = c.requires.le_second.1;
      small = λ k. omega (arith, c.type_inv.line k);
      packs = rw (c.four_bytes.ensures.answer, c.four_bytes-2.ensures.answer);
    }

pub overflow_add-digits : goal.overflow_add-digits
overflow_add-digits c = omega (arith, digits-below (goal.at.overflow_add-digits c).After-four_bytes-2)

pub returns-then-digits-ne0 : goal.returns-then-digits-ne0
returns-then-digits-ne0 c =
    let both = eight (goal.at.returns-then-digits-ne0 c).After-four_bytes-2 in
    record { answer = no-digits both c.args.carry c.if-digits-ne0.true }

pub overflow_add-spaces : goal.overflow_add-spaces
overflow_add-spaces c = omega (arith, digits-below (goal.at.overflow_add-spaces c).After-four_bytes-2)

pub overflow_add-digits-2 : goal.overflow_add-digits-2
overflow_add-digits-2 c = omega (arith, digits-below (goal.at.overflow_add-digits-2 c).After-four_bytes-2)

pub overflow_sub-digits : goal.overflow_sub-digits
overflow_sub-digits c =
    let both = word (goal.at.overflow_sub-digits c).After-four_bytes-2 in
    omega (arith, and_le_r (bit_and both 1085102592571150095 + c.args.carry) 1157442765409226768)

pub returns-then-word-digits : goal.returns-then-word-digits
returns-then-word-digits c =
    let both = eight (goal.at.returns-then-word-digits c).After-four_bytes-2 in
    record { answer = other-spaces both c.args.carry c.if-digits-ne0.false c.if-word-digits.true }

pub overflow_mul-pairs : goal.overflow_mul-pairs
overflow_mul-pairs c = omega (arith, digits-below (goal.at.overflow_mul-pairs c).After-four_bytes-2)

pub overflow_add-pairs : goal.overflow_add-pairs
overflow_add-pairs c = omega (arith, digits-below (goal.at.overflow_add-pairs c).After-four_bytes-2)

pub overflow_mul-fours : goal.overflow_mul-fours
overflow_mul-fours c = omega (arith, pairs_below (bit_and (word (goal.at.overflow_mul-fours c).After-four_bytes-2) 1085102592571150095))

pub overflow_add-fours : goal.overflow_add-fours
overflow_add-fours c = omega (arith, pairs_below (bit_and (word (goal.at.overflow_add-fours c).After-four_bytes-2) 1085102592571150095))

pub overflow_cast-result-2 : goal.overflow_cast-result-2
overflow_cast-result-2 c =
    let both = word (goal.at.overflow_cast-result-2 c).After-four_bytes-2 in
    omega (arith, fours-below (pairs_of (bit_and both 1085102592571150095)))

pub returns : goal.returns
returns c =
    let both = eight (goal.at.returns c).After-four_bytes-2 in
    record { answer = columns-read both c.args.carry c.if-digits-ne0.false c.if-word-digits.false }
