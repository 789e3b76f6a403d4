-- The weight of a choice sequence: the order of choices as a sum, so that the first sequence in the order is the lightest.
-- Another order of choices is another `key_weight`. Choices are read by index here, past the last key as well. Assumes nothing.
use Rattle.std.specs.Prelude.{ℕ, zero, suc, ◌+◌, ◌-◌, ◌^◌, Bool, true, false}

-- What the second place of the key with index i weighs, for i up to 31: 2^32, so that fewer ones are lighter, and for the order between
-- equals an addition that is more than those of all later keys together; those of all keys are less than 2^32.
unfoldable pub key_weight : ℕ → ℕ
key_weight i = 2 ^ 32 + 2 ^ (31 - i)

-- What a choice weighs: nothing for the first place, the key's weight for the second.
unfoldable pub choice_weight : Bool → ℕ → ℕ
choice_weight false weight = 0
choice_weight true weight = weight

-- What the choices of the first n keys weigh together.
unfoldable pub total : (ℕ → ℕ) → (ℕ → Bool) → ℕ → ℕ
total weight choices zero = 0
total weight choices (suc n) = total weight choices n + choice_weight (choices n) (weight n)

-- How many of the first n choices are choice 1: what they weigh where every key weighs 1.
abbrev pub count : (ℕ → Bool) → ℕ → ℕ
count = total (λ _. 1)
