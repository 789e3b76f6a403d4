-- The laws of `parity`: bit by bit, at a bit, and that it is linear. Assumes nothing.
use Rattle.std.specs.Prelude.{ℕ, zero, suc, ◌+◌, ◌*◌, ◌/◌, ◌%◌, ◌^◌, ◌<◌, ◌≤◌, min, ◌≡◌}
use Rattle.std.proofs.Common.{sym, ◌∙◌, ap, ap₂, pow-suc, mod-lt, mod-eq_of_lt, arith, pow_pos, pow_mono}
use Rattle.std.proofs.Math.Nat.{add-mod, add-mod-mod, mod-add-mod, div-eq_of_lt}
use Rattle.std.specs.Int.Bits.{bit_and, bit_xor, and_step, xor_add_and, and_lt, and_zero_l}
use Rattle.std.proofs.lemmas.Nat.{xor_shr, and_block, ones_cat}
use Rattle.std.specs.Int.Count.{ones, ones_step}
use Rattle.std.proofs.Math.Pow.{split, high, low}
use Rattle.parity.specs.Parity.{parity}

-- A parity is 0 or 1.
pub parity-below : (a b : ℕ) → parity a b < 2
unfolding parity
parity-below a b = omega arith

-- The lowest bit, and the parity of the others.
pub parity-step : (a b : ℕ) → parity a b ≡ (min (a % 2) (b % 2) + parity (a / 2) (b / 2)) % 2
unfolding parity
parity-step a b =
    let half : bit_and a b / 2 ≡ bit_and (a / 2) (b / 2) = omega (arith, and_step a b) in
    omega (arith, and_step a b, rw half at (ones_step (bit_and a b)))

-- 0 shares no ones with a word.
pub parity-zero : (b : ℕ) → parity 0 b ≡ 0
unfolding parity ones
parity-zero b = ap (λ (x : ℕ). ones x % 2) (and_zero_l b)

-- The k lowest bits, and the others.
pub parity-split : (k a b : ℕ) → parity a b ≡ (parity (a % 2 ^ k) (b % 2 ^ k) + parity (a / 2 ^ k) (b / 2 ^ k)) % 2
unfolding parity
parity-split k a b =
    let la = mod-lt a (pow_pos k) in
    let lb = mod-lt b (pow_pos k) in
    let e : bit_and a b ≡ bit_and (a / 2 ^ k) (b / 2 ^ k) * 2 ^ k + bit_and (a % 2 ^ k) (b % 2 ^ k) =
    ap₂ bit_and (sym (split a k)) (sym (split b k)) ∙ and_block k (a / 2 ^ k) (b / 2 ^ k) (a % 2 ^ k) (b % 2 ^ k) la lb in
    let o = ap ones e ∙ ones_cat k (bit_and (a / 2 ^ k) (b / 2 ^ k)) (bit_and (a % 2 ^ k) (b % 2 ^ k)) (and_lt k _ _ la lb) in
    omega arith

-- One bit of an exclusive `or` against one bit of a word.
bit-linear : (x a b c : ℕ) → x ≡ (a + b) % 2 → a < 2 → b < 2 → c < 2 → min x c % 2 ≡ (min a c + min b c) % 2
bit-linear x a b zero e la lb lc = omega arith
bit-linear x a b (suc zero) e la lb lc = omega arith
bit-linear x a b (suc (suc c)) e la lb lc = absurd (omega arith)

-- Two sums modulo 2, regrouped.
sum-linear : (m n o d p q : ℕ) → m % 2 ≡ (n + o) % 2 → d ≡ (p + q) % 2 → (m + d) % 2 ≡ ((n + p) % 2 + (o + q) % 2) % 2
sum-linear m n o d p q e f =
    ap (λ (x : ℕ). (m + x) % 2) f
    ∙ add-mod-mod m (p + q) 2
    ∙ sym (mod-add-mod m 2 (p + q))
    ∙ ap (λ (x : ℕ). (x + (p + q)) % 2) e
    ∙ mod-add-mod (n + o) 2 (p + q)
    ∙ ap (λ (x : ℕ). x % 2) regroup
    ∙ add-mod (n + p) (o + q) 2
  where
    regroup : (n + o) + (p + q) ≡ (n + p) + (o + q)
    regroup = omega arith

-- For words of k bits.
linear-below : (k a b c : ℕ) → a < 2 ^ k → b < 2 ^ k → parity (bit_xor a b) c ≡ (parity a c + parity b c) % 2
linear-below zero a b c la lb =
    let za : a ≡ 0 = omega arith in
    let zb : b ≡ 0 = omega arith in
    rw (za, zb) (omega (arith, parity-zero c))
linear-below (suc k) a b c la lb =
    let p = pow-suc 2 k in
    let rest = linear-below k (a / 2) (b / 2) (c / 2) (omega arith) (omega arith) in
    let half : bit_xor a b / 2 ≡ bit_xor (a / 2) (b / 2) = xor_shr a b 1 in
    let lowest : bit_xor a b % 2 ≡ (a % 2 + b % 2) % 2 = omega (arith, xor_add_and a b) in
    let bit = bit-linear (bit_xor a b % 2) (a % 2) (b % 2) (c % 2) lowest (omega arith) (omega arith) (omega arith) in
    (rw half at (parity-step (bit_xor a b) c))
    ∙ sum-linear _ _ _ _ _ _ bit rest
    ∙ sym (ap₂ (λ (x y : ℕ). (x + y) % 2) (parity-step a c) (parity-step b c))

-- A number has no more bits than it says.
below_power : (n : ℕ) → n < 2 ^ n
below_power zero = omega arith
below_power (suc n) = omega (arith, pow-suc 2 n, below_power n)

-- LINEAR: the parity of an exclusive `or` is the sum of the parities, modulo 2.
pub parity-xor : (a b c : ℕ) → parity (bit_xor a b) c ≡ (parity a c + parity b c) % 2
parity-xor a b c =
    let pa : 2 ^ a ≤ 2 ^ (a + b) = pow_mono (omega arith) in
    let pb : 2 ^ b ≤ 2 ^ (a + b) = pow_mono (omega arith) in
    linear-below (a + b) a b c (omega (arith, below_power a)) (omega (arith, below_power b))

-- The k lowest bits do not count where one word has them clear.
pub parity-high : (k a b : ℕ) → a % 2 ^ k ≡ 0 → parity a b ≡ parity (a / 2 ^ k) (b / 2 ^ k)
parity-high k a b clear =
    omega (arith, rw clear at (parity-split k a b), parity-zero (b % 2 ^ k), parity-below (a / 2 ^ k) (b / 2 ^ k))

-- A word of k bits does not see the other's bits from bit k on.
pub parity-low : (k a b r : ℕ) → a < 2 ^ k → r < 2 ^ k → parity a (b * 2 ^ k + r) ≡ parity a r
parity-low k a b r la lr =
    let s = rw (low b k lr, mod-eq_of_lt la, div-eq_of_lt la) at (parity-split k a (b * 2 ^ k + r)) in
    omega (arith, s, parity-zero ((b * 2 ^ k + r) / 2 ^ k), parity-below a r)

-- Two words that both have bit k, and one of them nothing below it and nothing above: the parity is 1.
pub parity-power : (k r : ℕ) → r < 2 ^ k → parity (2 ^ k) (1 * 2 ^ k + r) ≡ 1
parity-power k r lr =
    let same : 1 * 2 ^ k + 0 ≡ 2 ^ k = omega arith in
    let clear : 2 ^ k % 2 ^ k ≡ 0 = rw same at (low 1 k (pow_pos k)) in
    let one : 2 ^ k / 2 ^ k ≡ 1 = rw same at (high 1 k (pow_pos k)) in
    parity-high k (2 ^ k) (1 * 2 ^ k + r) clear
    ∙ rw (one, high 1 k lr) (omega (arith, parity-step 1 1, parity-zero 0))
