-- The laws of `bit_at` and `set_bit`: which bits are set, how many, and that a set bit is an `or`. Assumes nothing.
use Rattle.std.specs.Prelude.{ℕ, zero, suc, ◌+◌, ◌*◌, ◌/◌, ◌%◌, ◌^◌, ◌≤◌, ◌<◌, max, ◌≡◌, refl}
use Rattle.std.proofs.Common.{◌∙◌, ap, pow-suc, one-mul, arith, lit<, shl_exact}
use Rattle.std.proofs.Math.Nat.{max-zero, max-eq_right}
use Rattle.std.specs.Int.Bits.{bit_or, or_step, or_zero_r}
use Rattle.std.proofs.lemmas.Nat.{or_lt}
use Rattle.std.specs.Int.Count.{ones, ones_step}
use Rattle.std.proofs.Math.Pow.{pow-lt}
use Rattle.bits.specs.Bit.{bit_at, set_bit}

-- The other bits of a word whose bit p + 1 is set.
set-half : (w p : ℕ) → (set_bit (w / 2) p * 2 + w % 2) / 2 ≡ set_bit (w / 2) p
set-half w p = omega arith

-- The same of a word whose lowest bit is set.
set_rest : (w : ℕ) → (w / 2 * 2 + 1) / 2 ≡ w / 2
set_rest w = omega arith

-- A bit is 0 or 1.
pub bit_below : (w p : ℕ) → bit_at w p < 2
unfolding bit_at
bit_below w zero = omega arith
bit_below w (suc p) = bit_below (w / 2) p

-- No bit of 0 is set.
pub bit-zero : (p : ℕ) → bit_at 0 p ≡ 0
unfolding bit_at
bit-zero zero = refl
bit-zero (suc p) = bit-zero p

-- The bit that is set is 1,
pub bit-same : (w p : ℕ) → bit_at (set_bit w p) p ≡ 1
unfolding bit_at set_bit
bit-same w zero = omega arith
bit-same w (suc p) = rw (set-half w p) (bit-same (w / 2) p)

-- and every other bit is as it was.
pub bit-other : (w p q : ℕ) → (q ≡ p → ⊥) → bit_at (set_bit w p) q ≡ bit_at w q
unfolding bit_at set_bit
bit-other w zero zero different = absurd (different refl)
bit-other w zero (suc q) different = rw (set_rest w)
bit-other w (suc p) zero different = omega arith
bit-other w (suc p) (suc q) different = rw (set-half w p) (bit-other (w / 2) p q (λ e. different (ap suc e)))

-- The order in which bits are set makes no difference.
pub set_bit-comm : (w p q : ℕ) → set_bit (set_bit w p) q ≡ set_bit (set_bit w q) p
unfolding set_bit
set_bit-comm w zero zero = refl
set_bit-comm w zero (suc q) = rw (set_rest w) (omega arith)
set_bit-comm w (suc p) zero = rw (set_rest w) (omega arith)
set_bit-comm w (suc p) (suc q) = rw (set-half w p, set-half w q, set_bit-comm (w / 2) p q) (omega arith)

-- Setting a bit adds a one exactly where the bit was 0.
pub set_bit-ones : (w p : ℕ) → ones (set_bit w p) + bit_at w p ≡ ones w + 1
unfolding bit_at set_bit
set_bit-ones w zero = omega (arith, ones_step w, rw (set_rest w) at (ones_step (w / 2 * 2 + 1)))
set_bit-ones w (suc p) =
    let step = ones_step (set_bit (w / 2) p * 2 + w % 2) in
    omega (arith, ones_step w, rw (set-half w p) at step, set_bit-ones (w / 2) p)

-- 0 has no ones.
pub ones-zero : ones 0 ≡ 0
unfolding ones
ones-zero = refl

-- A set bit is an `or` with its power of two.
pub set_bit-or : (w p : ℕ) → bit_or w (2 ^ p) ≡ set_bit w p
unfolding set_bit
set_bit-or w zero = let h : w % 2 ≤ 1 = omega arith in or_step w 1 ∙ rw (or_zero_r, max-eq_right h)
set_bit-or w (suc p) =
    let d : 2 ^ suc p / 2 ≡ 2 ^ p = omega (arith, pow-suc 2 p) in
    let m : 2 ^ suc p % 2 ≡ 0 = omega (arith, pow-suc 2 p) in
    or_step w (2 ^ suc p) ∙ rw (d, m, max-zero, set_bit-or (w / 2) p)

-- A bit set in one of two words is set in their `or`.
pub or-set_bit : (w v p : ℕ) → bit_or (set_bit w p) v ≡ set_bit (bit_or w v) p
unfolding set_bit
or-set_bit w v zero =
    let half : (bit_or (w / 2) (v / 2) * 2 + max (w % 2) (v % 2)) / 2 ≡ bit_or (w / 2) (v / 2) = omega arith in
    let odd : max ((w / 2 * 2 + 1) % 2) (v % 2) ≡ 1 = omega arith in
    or_step (w / 2 * 2 + 1) v ∙ rw (set_rest w, odd, or_step w v, half)
or-set_bit w v (suc p) =
    let half : (bit_or (w / 2) (v / 2) * 2 + max (w % 2) (v % 2)) / 2 ≡ bit_or (w / 2) (v / 2) = omega arith in
    let low : (bit_or (w / 2) (v / 2) * 2 + max (w % 2) (v % 2)) % 2 ≡ max (w % 2) (v % 2) = omega arith in
    let bit : (set_bit (w / 2) p * 2 + w % 2) % 2 ≡ w % 2 = omega arith in
    or_step (set_bit (w / 2) p * 2 + w % 2) v ∙ rw (set-half w p, bit, or-set_bit (w / 2) (v / 2) p, or_step w v, half, low)

-- A word of k bits stays one.
pub set_bit-below : (k w p : ℕ) → w < 2 ^ k → p < k → set_bit w p < 2 ^ k
set_bit-below k w p below lt = rw (← set_bit-or w p) (or_lt k w (2 ^ p) below (pow-lt lt))

-- 1 shifted within 32 bits loses nothing.
pub one_shifted : (p : ℕ) → p < 32 → 1 * 2 ^ p % 4294967296 ≡ 2 ^ p
one_shifted p lt = let room : 1 + p ≤ 32 = omega arith in shl_exact {a = 1} 1 p 32 (lit< tt) room ∙ one-mul (2 ^ p)
