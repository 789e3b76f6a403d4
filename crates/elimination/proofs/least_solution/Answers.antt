-- `elimination::least_solution` meets its contract: a turn settles one bit less, which is set only where its equation forces it.
-- Assumes nothing.
use Prim.Native.Nat.{ℕ, suc, ◌+◌, ◌*◌, ◌-◌, ◌/◌, ◌%◌, ◌^◌, ◌≤◌, ◌<◌}
use mathlib.Core.Path.{◌≡◌, ◌∙◌, subst}
use mathlib.Core.List.{List}
use native.Mathlib.Nat.{one-mul}
use native.Mathlib.Omega.{arith}
use lib.Bits.{bit_xor, xor_shifted}
use lib.Dec.{lit<}
use lib.ListN.{get_or}
use lib.Pow.{pow-lt, split, shl_exact}
use Rattle.parity.specs.Parity.{parity}
use Rattle.parity.specs.ParityLaws.{parity-below, parity-zero}
use Rattle.elimination.specs.Table.{Table, Settled}
use Rattle.elimination.specs.TableLaws.{settled-start, settled-stay, settled-set, settled-done}
use Rattle.elimination.proofs.least_solution.Invariants.{SettledFrom}
use Rattle.elimination.proofs.least_solution.Goals as goal
use Rattle.elimination.proofs.least_solution.Goals.{else-pivot-ne0-via-then-pivot-ne0+else-parity-eq1, else-pivot-ne0-via-else-pivot-ne0}

-- 1 shifted within the word loses nothing.
one_shifted : (bit : ℕ) → bit < 32 → 1 * 2 ^ bit % 18446744073709551616 ≡ 2 ^ bit
one_shifted bit lt = let room : 1 + bit ≤ 64 = omega arith in shl_exact {a = 1} 1 bit 64 (lit< tt) room ∙ one-mul (2 ^ bit)

module _ {table : List ℕ} {word bit : ℕ} (t : Table 32 table) (down : SettledFrom table word bit) (more : 0 < bit) where
  -- The bit below is the next.
  next : Settled 32 table (suc (bit - 1)) word
  next = let e : bit ≡ suc (bit - 1) = omega arith in subst (λ (j : ℕ). Settled 32 table j word) e down.settled

  inside : bit - 1 < 32
  inside = omega (arith, down.upto)

  -- The bit is still clear, so that it is set by an exclusive `or`.
  set-xor : bit_xor word (2 ^ (bit - 1)) ≡ word + 2 ^ (bit - 1)
  set-xor =
      let j = suc (bit - 1) in
      let own : word / 2 ^ j * 2 ^ j ≡ word = omega (arith, split word j, next.clear) in
      rw own at (xor_shifted (word / 2 ^ j) j (2 ^ (bit - 1)) (pow-lt (omega arith)))

  set-bit : parity (get_or table (bit - 1) 0) word ≡ 1 → SettledFrom table (bit_xor word (1 * 2 ^ (bit - 1) % 18446744073709551616))
      (bit - 1)
  set-bit odd = record {
    upto = omega (arith, down.upto);
    settled = rw (one_shifted (bit - 1) inside, set-xor) (settled-set t next inside odd);
  }

  leave-bit : parity (get_or table (bit - 1) 0) word ≡ 0 → SettledFrom table word (bit - 1)
  leave-bit even = record { upto = omega (arith, down.upto); settled = settled-stay t next even }

pub loop-bit-init : goal.loop-bit-init
loop-bit-init c = record { upto = omega arith; settled = settled-start c.requires.0 c.requires.1 }

pub loop-bit-preserved-then-parity-eq1 : goal.loop-bit-preserved-then-parity-eq1
loop-bit-preserved-then-parity-eq1 c =
    set-bit c.requires.0 c.loop-bit.invariant c.loop-bit-test.true cc

pub loop-bit-preserved : goal.loop-bit-preserved
loop-bit-preserved c =
    let pivot = get_or c.args.table.now (c.loop-bit.bit - 1) 0 in
    let word = c.loop-bit.word in
    leave-bit c.requires.0 c.loop-bit.invariant c.loop-bit-test.true
    (elim c.else-pivot-ne0.branch [
      | else-pivot-ne0-via-then-pivot-ne0+else-parity-eq1 w ↦ omega
          (arith, parity-below pivot word, w.parity.ensures.answer, w.if-parity-eq1.false)
      | else-pivot-ne0-via-else-pivot-ne0 w ↦ rw w.if-pivot-ne0.false (parity-zero word)
    ])

pub returns : goal.returns
returns c =
    let at = c.loop-bit in
    let e : at.bit ≡ 0 = omega arith in
    record { answer = settled-done (rw e at at.invariant.settled) }
