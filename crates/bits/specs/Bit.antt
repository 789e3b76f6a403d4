-- Single bits of a word, bit 0 the lowest. Assumes nothing.
use Rattle.std.specs.Prelude.{ℕ, zero, suc, ◌+◌, ◌*◌, ◌/◌, ◌%◌}

-- Bit p of a word: 0 or 1. Past the word's highest one it is 0.
unfoldable pub bit_at : ℕ → ℕ → ℕ
bit_at word zero = word % 2
bit_at word (suc p) = bit_at (word / 2) p

-- The word with bit p set, whether it was set before or not.
unfoldable pub set_bit : ℕ → ℕ → ℕ
set_bit word zero = word / 2 * 2 + 1
set_bit word (suc p) = set_bit (word / 2) p * 2 + word % 2
