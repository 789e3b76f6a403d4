-- The choice word and the choices determine each other. Assumes nothing.
use Rattle.std.specs.Prelude.{ℕ, zero, suc, ◌+◌, ◌*◌, ◌-◌, ◌/◌, ◌%◌, ◌^◌, ◌<◌, ◌≡◌, refl, Bool, true, false, not, List, [], ◌∷◌, eqb}
use Rattle.std.specs.Prelude.{length, get_or}
use Rattle.std.proofs.Common.{ap, div-one, arith}
use Rattle.std.proofs.Math.Nat.{pow-succ', div-div-eq-div-mul}
use Rattle.filling.specs.Word.{choice_number, word_of, choices_of}

-- n bits are n choices.
pub choices_of-length : (n w : ℕ) → length (choices_of n w) ≡ n
unfolding choices_of
choices_of-length zero w = refl
choices_of-length (suc n) w = ap suc (choices_of-length n (w / 2))

-- The lowest bit of a word and the word of the other bits.
word_low : (c : Bool) (w : ℕ) → (choice_number c + 2 * w) % 2 ≡ choice_number c
unfolding choice_number
word_low false w = omega arith
word_low true w = omega arith

word-high : (c : Bool) (w : ℕ) → (choice_number c + 2 * w) / 2 ≡ w
unfolding choice_number
word-high false w = omega arith
word-high true w = omega arith

-- A number that is less for choice 0 than for choice 1 tells them apart;
pub choice-same : (f : Bool → ℕ) → f false < f true → (c d : Bool) → f c ≡ f d → c ≡ d
choice-same f less false false e = refl
choice-same f less false true e = absurd (omega arith)
choice-same f less true false e = absurd (omega arith)
choice-same f less true true e = refl

-- so does a choice's own number.
pub choice_number-same : (c d : Bool) → choice_number c ≡ choice_number d → c ≡ d
unfolding choice_number
choice_number-same = choice-same choice_number (omega arith)

-- A choice is its number, and a number below 2 that of its choice.
choice-number : (c : Bool) → eqb (choice_number c) 1 ≡ c
unfolding choice_number
choice-number false = refl
choice-number true = refl

pub number-choice : (x : ℕ) → x < 2 → choice_number (eqb x 1) ≡ x
unfolding choice_number
number-choice zero lt = refl
number-choice (suc zero) lt = refl
number-choice (suc (suc x)) lt = absurd (omega arith)

-- 1 less a number below 2 is that of the other choice.
pub other-number : (x : ℕ) → x < 2 → eqb (1 - x) 1 ≡ not (eqb x 1)
other-number zero lt = refl
other-number (suc zero) lt = refl
other-number (suc (suc x)) lt = absurd (omega arith)

-- The word determines the choices,
pub word-choices : (cs : List Bool) → choices_of (length cs) (word_of cs) ≡ cs
unfolding word_of choices_of
word-choices [] = refl
word-choices (c ∷ cs) = rw (word_low, word-high, choice-number, word-choices cs)

-- and a word of n bits is the word of its choices.
pub choices-word : (n w : ℕ) → w < 2 ^ n → word_of (choices_of n w) ≡ w
unfolding word_of choices_of
choices-word zero w lt = omega arith
choices-word (suc n) w lt =
    omega (arith, number-choice (w % 2) (omega arith), choices-word n (w / 2) (omega (arith, pow-succ' 2 n)))

-- "all higher bits are 0"
pub word_below : (cs : List Bool) → word_of cs < 2 ^ length cs
unfolding word_of choice_number
word_below [] = omega arith
word_below (false ∷ cs) = omega (arith, word_below cs, pow-succ' 2 (length cs))
word_below (true ∷ cs) = omega (arith, word_below cs, pow-succ' 2 (length cs))

-- Sequences of one length with one word are one.
pub word-unique : (cs ds : List Bool) → length cs ≡ length ds → word_of cs ≡ word_of ds → cs ≡ ds
word-unique cs ds l e = cc (word-choices cs, word-choices ds)

-- "The choice word has bit i equal to the choice of the tag with index i"
pub word-bit : (cs : List Bool) (i : ℕ) → i < length cs → word_of cs / 2 ^ i % 2 ≡ choice_number (get_or cs i false)
unfolding word_of
word-bit [] i lt = absurd (omega arith)
word-bit (c ∷ cs) zero lt = rw div-one (word_low c (word_of cs))
word-bit (c ∷ cs) (suc i) lt =
    rw (pow-succ' 2 i, ← div-div-eq-div-mul, word-high) (word-bit cs i (omega arith))
