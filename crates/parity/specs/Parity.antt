-- The parity of the ones that two words share. Assumes nothing.
use Rattle.std.specs.Prelude.{ℕ, ◌%◌}
use Rattle.std.specs.Int.Bits.{bit_and}
use Rattle.std.specs.Int.Count.{ones}

-- "the parity of the ones in its row AND the word": document 02, §5. It is 0 or 1. (The field's term: the inner product of two bit
-- vectors, over GF(2).)
unfoldable pub parity : ℕ → ℕ → ℕ
parity a b = ones (bit_and a b) % 2
