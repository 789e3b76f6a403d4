-- The lowest bit that is set in a word, and that `count_trailing_zeros` counts the bits below it. Assumes nothing.
use Rattle.std.specs.Prelude.{ℕ, zero, suc, ◌+◌, ◌*◌, ◌-◌, ◌/◌, ◌%◌, ◌^◌, ◌≤◌, ◌<◌, ◌≡◌, refl}
use Rattle.std.proofs.Common.{sym, ◌∙◌, ap, ap₂, pow-suc, mod-eq_of_lt, lt_of_not-le, div-one, arith, pow_mono}
use Rattle.std.proofs.Math.Nat.{pow-succ', div-div-eq-div-mul, zero-div, zero-mod, mod-one}
use Rattle.std.specs.Int.Bits.{bit_xor, xor_add_and}
use Rattle.std.proofs.lemmas.Nat.{xor_shr, xor_mod, mod-pow-add}
use Rattle.std.specs.Int.Count.{count_trailing_zeros, under}
use Rattle.std.proofs.Math.Pow.{mod-mod-pow}

-- Bit j is the lowest that is set in e.
pub record Lowest (j e : ℕ) : Type 0 where
  pub clear : e % 2 ^ j ≡ 0
  pub bit : e / 2 ^ j % 2 ≡ 1

-- The bits from bit j + 1 on are those from bit j on without bit j.
pub shift-more : (n j : ℕ) → n / 2 ^ suc j ≡ n / 2 ^ j / 2
shift-more n j = ap (λ (x : ℕ). n / x) (pow-suc 2 j) ∙ sym (div-div-eq-div-mul n (2 ^ j) 2)

-- The j + 1 lowest bits are bit j and the j lowest.
pub low-more : (n j : ℕ) → n % 2 ^ suc j ≡ (n / 2 ^ j % 2) * 2 ^ j + n % 2 ^ j
low-more n j = let e : 1 + j ≡ suc j = omega arith in rw e at (mod-pow-add n 1 j)

-- A word that is clear below bit i is clear below a lower bit.
pub clear-lower : (n i j : ℕ) → j ≤ i → n % 2 ^ i ≡ 0 → n % 2 ^ j ≡ 0
clear-lower n i j le clear =
    let e : (i - j) + j ≡ i = omega arith in
    sym (rw e at (mod-mod-pow n (i - j) j)) ∙ rw clear (zero-mod (2 ^ j))

-- The same from the lowest bit on.
shift-half : (n j : ℕ) → n / 2 ^ suc j ≡ n / 2 / 2 ^ j
shift-half n j = ap (λ (x : ℕ). n / x) (pow-succ' 2 j) ∙ sym (div-div-eq-div-mul n 2 (2 ^ j))

low_half : (n j : ℕ) → n % 2 ^ suc j ≡ (n / 2 % 2 ^ j) * 2 + n % 2
low_half n j = let e : j + 1 ≡ suc j = omega arith in rw e at (mod-pow-add n j 1)

-- The bit that the zeros at the end stand below is the lowest that is set.
pub trailing-lowest : (m e : ℕ) → (e ≡ 0 → ⊥) → e < 2 ^ m → Lowest (count_trailing_zeros m e) e
unfolding count_trailing_zeros
trailing-lowest zero e some lt = absurd (some (omega arith))
trailing-lowest (suc m) e some lt = go (e % 2) refl (λ n. trailing-lowest m (e / 2) n (omega (arith, pow-suc 2 m)))
  where
    go : (d : ℕ) → e % 2 ≡ d → ((e / 2 ≡ 0 → ⊥) → Lowest (count_trailing_zeros m (e / 2)) (e / 2))
        → Lowest (under d (count_trailing_zeros m (e / 2))) e
    go zero even rest =
        let at = rest (λ z. some (omega arith)) in
        record {
          clear = low_half e (count_trailing_zeros m (e / 2)) ∙ rw (at.clear, even);
          bit = rw (shift-half e (count_trailing_zeros m (e / 2))) at.bit;
        }
    go (suc d) odd rest = record { clear = mod-one e; bit = rw (div-one e) (omega arith) }

-- It is not below a bit below which the word is clear.
pub trailing-least : (m e j : ℕ) → j ≤ m → e % 2 ^ j ≡ 0 → j ≤ count_trailing_zeros m e
unfolding count_trailing_zeros
trailing-least m e zero le clear = omega arith
trailing-least zero e (suc j) le clear = absurd (omega arith)
trailing-least (suc m) e (suc j) le clear =
    let e0 : e % 2 ≡ 0 = omega (arith, low_half e j) in
    rw e0 (omega (arith, trailing-least m (e / 2) j (omega arith) (omega (arith, low_half e j))))

module _ {j e : ℕ} (lowest : Lowest j e) where
  -- A word with a bit set is not 0.
  pub lowest-some : e ≡ 0 → ⊥
  lowest-some z = omega (arith, rw (z, zero-div (2 ^ j)) at lowest.bit)

  -- In a word of k bits it is below k.
  pub lowest-below : (k : ℕ) → e < 2 ^ k → j < k
  lowest-below k lt =
      lt_of_not-le (λ le.
      let wide : 2 ^ k ≤ 2 ^ j = pow_mono le in
      let fits : e < 2 ^ j = omega arith in
      lowest-some (sym (mod-eq_of_lt fits) ∙ lowest.clear))

  -- The exclusive `or` of two words with the same lowest bit is clear up to it.
  pub lowest-xor : {p : ℕ} → Lowest j p → bit_xor e p % 2 ^ suc j ≡ 0
  lowest-xor {p} other =
      let low : bit_xor e p % 2 ^ j ≡ 0 = xor_mod e p j ∙ ap₂ bit_xor lowest.clear other.clear in
      let bit : bit_xor e p / 2 ^ j % 2 ≡ 0 =
      ap (λ (x : ℕ). x % 2) (xor_shr e p j)
      ∙ omega (arith, xor_add_and (e / 2 ^ j) (p / 2 ^ j), lowest.bit, other.bit) in
      low-more (bit_xor e p) j ∙ rw (bit, low) (omega arith)
