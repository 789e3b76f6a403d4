-- The laws of a word's choices: how they are read, toggled and set, and that they are those of `choices_of`. Assumes nothing.
use Rattle.std.specs.Prelude.{ℕ, zero, suc, ◌+◌, ◌*◌, ◌-◌, ◌/◌, ◌%◌, ◌^◌, ◌<◌, ◌≡◌, Bool, List, length}
use Rattle.std.proofs.Math.Path.{refl}
use Rattle.std.proofs.Common.{sym, ◌∙◌, ap, pow-suc, add-one, arith}
use Rattle.std.proofs.Math.Bool.{true, false}
use Rattle.std.proofs.Math.Nat.{pow-succ', div-div-eq-div-mul}
use Rattle.std.specs.Int.Bits.{bit_xor, xor_step, xor_zero_r, differ}
use Rattle.std.proofs.lemmas.Nat.{xor_lt}
use Rattle.std.proofs.Math.Pow.{pow-lt}
use Rattle.bits.specs.Bit.{bit_at}
use Rattle.bits.specs.BitLaws.{bit_below, bit-same, bit-other, set_bit-below}
use Rattle.filling.specs.Word.{choice_number, word_of, choices_of}
use Rattle.filling.proofs.WordLaws.{number-choice, other-number, word-choices}
use Rattle.filling.specs.Separate.{by_index}
use Rattle.filling.specs.Insertion.{Toggled}
use Rattle.bits.specs.WordBits.{choice_in, toggle_bit, with_choice}

-- A bit is the lowest bit of the word shifted.
bit_shifted : (w p : ℕ) → w / 2 ^ p % 2 ≡ bit_at w p
unfolding bit_at
bit_shifted w zero = omega arith
bit_shifted w (suc p) = rw (pow-succ' 2 p, ← div-div-eq-div-mul w 2 (2 ^ p)) (bit_shifted (w / 2) p)

-- The word shifted by i is odd exactly where key i has choice 1.
pub choice-shifted : (w i : ℕ) → w / 2 ^ i % 2 ≡ choice_number (choice_in w i)
unfolding choice_in
choice-shifted w i = bit_shifted w i ∙ sym (number-choice (bit_at w i) (bit_below w i))

-- A choice's number is 1 exactly for choice 1.
pub choice_number-one : (c : Bool) → choice_number c ≡ 1 → c ≡ true
unfolding choice_number
choice_number-one false e = absurd (omega arith)
choice_number-one true e = refl

pub choice_number-zero : (c : Bool) → (choice_number c ≡ 1 → ⊥) → c ≡ false
unfolding choice_number
choice_number-zero false n = refl
choice_number-zero true n = absurd (n refl)

-- The choices of a word by index are its choices as a sequence.
pub choices_of-at : (n w i : ℕ) → i < n → choice_in w i ≡ by_index (choices_of n w) i
unfolding choice_in choices_of bit_at
choices_of-at zero w i lt = absurd (omega arith)
choices_of-at (suc n) w zero lt = refl
choices_of-at (suc n) w (suc i) lt = choices_of-at n (w / 2) i (omega arith)

-- The choice that a sequence's word has for key i is the choice with index i.
pub word-choice : (cs : List Bool) (i : ℕ) → i < length cs → choice_in (word_of cs) i ≡ by_index cs i
word-choice cs i lt = choices_of-at (length cs) (word_of cs) i lt ∙ rw (word-choices cs)

-- The other bits of a word whose bit p + 1 is toggled.
toggle-half : (w p : ℕ) → (toggle_bit (w / 2) p * 2 + w % 2) / 2 ≡ toggle_bit (w / 2) p
toggle-half w p = omega arith

-- The bit that is toggled is the other,
toggle-same : (w p : ℕ) → bit_at (toggle_bit w p) p ≡ 1 - bit_at w p
unfolding bit_at toggle_bit
toggle-same w zero = omega arith
toggle-same w (suc p) = rw (toggle-half w p) (toggle-same (w / 2) p)

-- and every other bit is as it was.
toggle-other : (w p q : ℕ) → (q ≡ p → ⊥) → bit_at (toggle_bit w p) q ≡ bit_at w q
unfolding bit_at toggle_bit
toggle-other w zero zero different = absurd (different refl)
toggle-other w zero (suc q) different = let e : (w / 2 * 2 + (1 - w % 2)) / 2 ≡ w / 2 = omega arith in rw e
toggle-other w (suc p) zero different = omega arith
toggle-other w (suc p) (suc q) different = rw (toggle-half w p) (toggle-other (w / 2) p q (λ e. different (ap suc e)))

differ-one : (x : ℕ) → x < 2 → differ x 1 ≡ 1 - x
differ-one zero lt = refl
differ-one (suc zero) lt = refl
differ-one (suc (suc x)) lt = absurd (omega arith)

differ-zero : (x : ℕ) → x < 2 → differ x 0 ≡ x
differ-zero zero lt = refl
differ-zero (suc zero) lt = refl
differ-zero (suc (suc x)) lt = absurd (omega arith)

-- A toggled bit is an exclusive `or` with its power of two.
pub toggle-xor : (w p : ℕ) → bit_xor w (2 ^ p) ≡ toggle_bit w p
unfolding toggle_bit
toggle-xor w zero = xor_step w 1 ∙ rw (xor_zero_r, differ-one (w % 2) (omega arith))
toggle-xor w (suc p) =
    let d : 2 ^ suc p / 2 ≡ 2 ^ p = omega (arith, pow-suc 2 p) in
    let m : 2 ^ suc p % 2 ≡ 0 = omega (arith, pow-suc 2 p) in
    xor_step w (2 ^ suc p) ∙ rw (d, m, differ-zero (w % 2) (omega arith), toggle-xor (w / 2) p)

-- A word of k bits stays one.
pub toggle-below : (k w p : ℕ) → w < 2 ^ k → p < k → toggle_bit w p < 2 ^ k
toggle-below k w p below lt = rw (← toggle-xor w p) (xor_lt k w (2 ^ p) below (pow-lt lt))

-- The choices of a word with a bit toggled are its choices with that key's toggled.
pub toggle-toggled : (w o : ℕ) → Toggled (choice_in w) (choice_in (toggle_bit w o)) o
unfolding choice_in
toggle-toggled w o = record {
  here = rw (toggle-same w o) (other-number (bit_at w o) (bit_below w o));
  others = λ i n. rw (toggle-other w o i n);
}

-- A word of k bits has bit k clear, and k + 1 bits too.
bit_past : (k w : ℕ) → w < 2 ^ k → bit_at w k ≡ 0
unfolding bit_at
bit_past zero w lt = omega arith
bit_past (suc k) w lt = bit_past k (w / 2) (omega (arith, pow-suc 2 k))

word-grown : (k w : ℕ) → w < 2 ^ k → w < 2 ^ (k + 1)
word-grown k w lt = rw (add-one k) (omega (arith, pow-suc 2 k))

module _ (k w : ℕ) (below : w < 2 ^ k) where
  -- With a choice of key k it has this choice for key k,
  pub choice-own : (c : Bool) → choice_in (with_choice w k c) k ≡ c
  unfolding choice_in with_choice
  choice-own false = rw (bit_past k w below)
  choice-own true = rw (bit-same w k)

  -- the same choices below,
  pub choice-kept : (c : Bool) (i : ℕ) → i < k → choice_in w i ≡ choice_in (with_choice w k c) i
  unfolding choice_in with_choice
  choice-kept false i lt = refl
  choice-kept true i lt = rw (bit-other w k i (λ e. omega arith))

  -- and k + 1 bits.
  pub choice-grown : (c : Bool) → with_choice w k c < 2 ^ (k + 1)
  unfolding with_choice
  choice-grown false = word-grown k w below
  choice-grown true = set_bit-below (k + 1) w k (word-grown k w below) (omega arith)
