-- The choices of a word by index: bit i is the choice of key i. Assumes nothing.
use Rattle.std.specs.Prelude.{ℕ, zero, suc, ◌+◌, ◌*◌, ◌-◌, ◌/◌, ◌%◌, Bool, true, false, eqb}
use Rattle.bits.specs.Bit.{bit_at, set_bit}

-- The choice that a word has for key i: choice 0 past its highest one.
unfoldable pub choice_in : ℕ → ℕ → Bool
choice_in word i = eqb (bit_at word i) 1

-- The word with bit p toggled.
unfoldable pub toggle_bit : ℕ → ℕ → ℕ
toggle_bit word zero = word / 2 * 2 + (1 - word % 2)
toggle_bit word (suc p) = toggle_bit (word / 2) p * 2 + word % 2

-- A word with a choice of the key behind its last: for choice 1 with bit k set.
unfoldable pub with_choice : ℕ → ℕ → Bool → ℕ
with_choice word k false = word
with_choice word k true = set_bit word k
