-- One test for two: a product of exclusive ors is 0 exactly where a number is one of two. Assumes nothing.
use Rattle.std.specs.Prelude.{◌≡◌, refl, ◌⊎◌, ℕ, zero, suc, ◌*◌, ◌^◌, ◌<◌}
use Rattle.std.proofs.Common.{sym, inl, inr, suc-mul, zero-mul, mul-zero, arith}
use Rattle.std.specs.Int.Bits.{bit_xor, xor_add_and, xor_self}
use Rattle.std.proofs.lemmas.Nat.{xor_lt, and_le_l, and_le_r}
use Rattle.hash.proofs.FormulaLaws.{product-fits}

-- No bit differs only where the numbers are equal: the bits that they have in common are then all bits of both.
same-of-xor : (a b : ℕ) → bit_xor a b ≡ 0 → a ≡ b
same-of-xor a b e = omega (arith, xor_add_and a b, and_le_l a b, and_le_r a b)

zero-factor : (x y : ℕ) → x * y ≡ 0 → (x ≡ 0) ⊎ (y ≡ 0)
zero-factor zero y e = inl refl
zero-factor (suc x) zero e = inr refl
zero-factor (suc x) (suc y) e = absurd (omega (arith, suc-mul x (suc y)))

module _ (p q j : ℕ) where
  pub either-of-zero : bit_xor p j * bit_xor q j ≡ 0 → (j ≡ p) ⊎ (j ≡ q)
  either-of-zero e = go (zero-factor (bit_xor p j) (bit_xor q j) e)
    where
      go : (bit_xor p j ≡ 0) ⊎ (bit_xor q j ≡ 0) → (j ≡ p) ⊎ (j ≡ q)
      go (inl z) = inl (sym (same-of-xor p j z))
      go (inr z) = inr (sym (same-of-xor q j z))

  pub zero-of-either : (j ≡ p) ⊎ (j ≡ q) → bit_xor p j * bit_xor q j ≡ 0
  zero-of-either (inl e) = rw (e, xor_self, zero-mul)
  zero-of-either (inr e) = rw (e, xor_self, mul-zero)

  -- Slots are below 2^12, so the product fits a word.
  pub either-fits : p < 2 ^ 12 → q < 2 ^ 12 → j < 2 ^ 12 → bit_xor p j * bit_xor q j < 2 ^ 24
  either-fits below below' lower = product-fits 12 (xor_lt 12 p j below lower) (xor_lt 12 q j below' lower)
