-- Digits as characters, and bytes packed into a word. Assumes nothing.
use Rattle.std.specs.Prelude.{ℕ, zero, suc, ◌+◌, ◌*◌, ◌/◌, ◌%◌, cond, List, [], ◌∷◌, ◌++◌, leb}

-- The last so many digits of n as characters, with zeros in front: 7 in three digits is "007".
unfoldable pub digits : ℕ → ℕ → List ℕ
digits zero n = []
digits (suc width) n = digits width (n / 10) ++ ((48 + n % 10) ∷ [])

-- The same, but before column `first` a digit is added to a space and not to '0', so that a 0 is a space there: 7 in three columns,
-- with the third for its first digit, is "  7".
unfoldable pub digits_from : ℕ → ℕ → ℕ → List ℕ
digits_from first zero n = []
digits_from first (suc width) n = digits_from first width (n / 10) ++ ((cond (leb first width) 48 32 + n % 10) ∷ [])

-- Bytes packed into one word, the first in its lowest eight bits.
unfoldable pub packed : List ℕ → ℕ
packed [] = 0
packed (byte ∷ bytes) = byte + 256 * packed bytes
