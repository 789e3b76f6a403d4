-- What is tested of bytes in one word. Assumes nothing.
use Rattle.std.specs.Prelude.{ℕ, zero, suc, ◌+◌, ◌*◌, ◌-◌, ◌%◌, Bool, cond, ◌&&◌, List, [], ◌∷◌, ◌++◌, eqb, length, Option, None, Some}
use Rattle.std.specs.Int.Bits.{bit_and}
use Rattle.digits.specs.Digits.{packed}

-- The same byte so many times, packed.
unfoldable pub each : ℕ → ℕ → ℕ
each zero byte = 0
each (suc k) byte = byte + 256 * each k byte

-- The lower half of each byte: the digit of a column, and 0 for a space.
unfoldable pub low : List ℕ → List ℕ
low [] = []
low (byte ∷ bytes) = byte % 16 ∷ low bytes

-- The number that digits make behind a number.
unfoldable pub value_behind : ℕ → List ℕ → ℕ
value_behind value [] = value
value_behind value (digit ∷ digits) = value_behind (value * 10 + digit) digits

unfoldable pub number_in : List ℕ → ℕ
number_in bytes = value_behind 0 (low bytes)

-- No lower half comes to 16 with 6 more, so each is a digit; and each byte is '0' above its digit, or 16 less where adding the
-- carry to the digits sets bit 16.
unfoldable pub written : ℕ → List ℕ → Bool
written carry bytes =
    let digits = packed (low bytes) in
    let sixteens = each (length bytes) 16 in
    eqb (bit_and (digits + each (length bytes) 6) sixteens) 0
    && eqb (packed bytes) (digits + each (length bytes) 48 - bit_and (digits + carry) sixteens)

-- The numbers in four columns and four others, where all are written so.
unfoldable pub columns_read : ℕ → List ℕ → List ℕ → Option (ℕ × ℕ)
columns_read carry first last = cond (written carry (first ++ last)) (Some (number_in first, number_in last)) None
