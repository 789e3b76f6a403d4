-- Laws of the formulas: ranges, oddness, and that they are odd-multiply-shift where the table's size is a power of two.
-- Assumes nothing.
use Rattle.std.specs.Prelude.{◌≡◌, refl, ℕ, ◌+◌, ◌*◌, ◌-◌, ◌/◌, ◌%◌, ◌^◌, ◌≤◌, ◌<◌}
use Rattle.std.proofs.Common.{sym, ◌∙◌, ap, arith, le_of_lt, lt_of_le_of_lt, mul-le-mul_left, mul-lt-mul_of_pos_right, pow_pos, pow-add}
use Rattle.std.proofs.Math.Path.{subst⁻¹}
use Rattle.std.proofs.Math.Nat.{mul-div-mul_right}
use Rattle.refusal.specs.Limits.{tag_end}
use Rattle.hash.specs.MultiplyShift.{multiply_shift}
use Rattle.hash.specs.Formula.{K, product, high_part, hashed, group_of, multiplier, place_of}

-- The product of two numbers of k bits has at most 2k bits.
pub product-fits : (k : ℕ) {a b : ℕ} → a < 2 ^ k → b < 2 ^ k → a * b < 2 ^ (k + k)
product-fits k {a} {b} ha hb =
    subst⁻¹ (λ (n : ℕ). a * b < n) (pow-add 2 k k)
    (lt_of_le_of_lt (mul-le-mul_left a (le_of_lt hb)) (mul-lt-mul_of_pos_right ha (pow_pos k)))

-- A product modulo 2^32 is a 32-bit number.
pub product-below : (a b : ℕ) → product a b < tag_end
unfolding product
product-below a b = omega arith

-- The high part of a 32-bit number and n is below n.
pub high_part-below : (h n : ℕ) → h < tag_end → 0 < n → high_part h n < n
unfolding high_part
high_part-below h n below some =
    let p : h * n < tag_end * n = mul-lt-mul_of_pos_right below some in
    omega arith

-- "always odd"
pub multiplier-odd : (s c : ℕ) → multiplier s c % 2 ≡ 1
unfolding multiplier product
multiplier-odd s c = omega arith

-- Groups are below B and places below n.
pub hashed-below : (a n t : ℕ) → 0 < n → hashed a n t < n
unfolding hashed
hashed-below a n t some = high_part-below (product a t) n (product-below a t) some

pub group-below : (groups t : ℕ) → 0 < groups → group_of groups t < groups
unfolding group_of
group-below groups t some = hashed-below _ groups t some

pub place-below : (n s c t : ℕ) → 0 < n → place_of n s c t < n
unfolding place_of
place-below n s c t some = hashed-below (multiplier s c) n t some

-- Where the size is a power of two, hashing is odd-multiply-shift.
pub hashed-shift : (a bits t : ℕ) → bits ≤ 32 → hashed a (2 ^ bits) t ≡ multiply_shift a bits t
unfolding hashed high_part product multiply_shift
hashed-shift a bits t upto =
    let e : 32 - bits + bits ≡ 32 = omega arith in
    let whole : tag_end ≡ 2 ^ (32 - bits) * 2 ^ bits = sym (ap (λ (k : ℕ). 2 ^ k) e) ∙ pow-add 2 (32 - bits) bits in
    ap (λ (n : ℕ). a * t % tag_end * 2 ^ bits / n) whole ∙ mul-div-mul_right (a * t % tag_end) (2 ^ (32 - bits)) (pow_pos bits)

pub group-shift : (bits t : ℕ) → bits ≤ 32 → group_of (2 ^ bits) t ≡ multiply_shift K bits t
unfolding group_of
group-shift bits t upto = hashed-shift K bits t upto

pub place-shift : (bits s c t : ℕ) → bits ≤ 32 → place_of (2 ^ bits) s c t ≡ multiply_shift (multiplier s c) bits t
unfolding place_of
place-shift bits s c t upto = hashed-shift (multiplier s c) bits t upto

-- Both kinds of multiplier are odd, as definition 5 asks.
pub K-odd : K % 2 ≡ 1
K-odd = refl
