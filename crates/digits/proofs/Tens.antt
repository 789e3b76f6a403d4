-- The tens of four pairs of digits, taken at once from a word that holds the pairs in 16 bits each. Assumes nothing.
use mathlib.Core.Path.{◌≡◌, sym, ◌∙◌, ap}
use mathlib.Core.List.{◌++◌}
use Prim.Native.Nat.{ℕ, ◌+◌, ◌*◌, ◌-◌, ◌/◌, ◌%◌, ◌≤◌, ◌<◌}
use native.Mathlib.Omega.{arith}
use lib.Bits.{bit_and, and_block, and_mask}
use lib.Dec.{lit<}
use Rattle.digits.specs.Digits.{digits, packed}
use Rattle.digits.proofs.DigitsLaws.{pair, eight-digits}

-- The lowest pair p, with q in the bits above it: its tens stay, and what the division moves down from q is masked away.
lowest : (p q mask : ℕ) → p < 100
    → bit_and ((p + q * 65536) * 103 / 1024) (mask * 65536 + 15) ≡ bit_and (q * 103 / 1024) mask * 65536 + p / 10
lowest p q mask h =
    let low = p * 103 / 1024 + q * 103 % 1024 * 64 in
    let moved : (p + q * 65536) * 103 / 1024 ≡ q * 103 / 1024 * 65536 + low = omega arith in
    let tens : p * 103 / 1024 ≡ p / 10 = omega arith in
    let kept : low % 16 ≡ p / 10 = rw tens (omega arith) in
    rw moved (and_block 16 (q * 103 / 1024) mask low 15 (omega arith) (lit< tt) ∙ rw (and_mask low 4, kept))

-- The pairs, each in 16 bits.
abbrev pairs : ℕ → ℕ → ℕ → ℕ → ℕ
pairs a b c d = a + b * 65536 + c * 4294967296 + d * 281474976710656

-- Their tens, as the code takes them.
abbrev tens : ℕ → ℕ
tens word = bit_and (word * 103 / 1024) 4222189076152335

-- What the code makes of a word of pairs: nothing leaves 64 bits or goes below 0, and the answer is n's characters.
pub record Characters (n word : ℕ) : Type 0 where
  pub below : word < 28147497671065600
  pub left : 10 * tens word ≤ word
  pub packs : word * 256 + 3472328296227680304 - tens word * 2559 ≡ packed (digits 8 n)

module _ (a b c d : ℕ) (h : a < 100) (i : b < 100) (j : c < 100) (k : d < 100) where
  -- Pair by pair: the mask has 15 for each, so less its lowest 16 bits it is 64425492495, then 983055, 15 and 0.
  tens-pairs : tens (pairs a b c d) ≡ pairs (a / 10) (b / 10) (c / 10) (d / 10)
  tens-pairs =
      let nested : pairs a b c d ≡ a + (b + (c + (d + 0 * 65536) * 65536) * 65536) * 65536 = omega arith in
      rw nested
      (lowest a (b + (c + (d + 0 * 65536) * 65536) * 65536) 64425492495 h
      ∙ rw (lowest b (c + (d + 0 * 65536) * 65536) 983055 i, lowest c (d + 0 * 65536) 15 j, lowest d 0 0 k) (omega arith))

  -- The tens, the ones a byte higher, and '0' added to each.
  characters : pairs a b c d * 256 + 3472328296227680304 - tens (pairs a b c d) * 2559
      ≡ packed (pair a ++ pair b ++ pair c ++ pair d)
  unfolding packed
  characters = rw tens-pairs (omega arith)

  -- Of the number whose pairs they are.
  by-pairs : (n : ℕ) → n ≡ ((a * 100 + b) * 100 + c) * 100 + d → Characters n (pairs a b c d)
  by-pairs n whole =
      record {
        below = omega arith;
        left = rw tens-pairs (omega arith);
        packs = characters ∙ ap packed (sym (ap (digits 8) whole ∙ eight-digits a b c d h i j k));
      }

-- The pairs of n.
pub computed : (n : ℕ) → n < 100000000 → Characters n (pairs (n / 1000000) (n / 10000 % 100) (n / 100 % 100) (n % 100))
computed n h =
    by-pairs (n / 1000000) (n / 10000 % 100) (n / 100 % 100) (n % 100) (omega arith) (omega arith) (omega arith) (omega arith) n
    (omega arith)
