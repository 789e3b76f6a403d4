-- The leading columns of a number: all but its last. Assumes nothing.
use Rattle.std.specs.Prelude.{ℕ, ◌+◌, ◌*◌, ◌%◌, cond, ◌&&◌, List, [], ◌∷◌, eqb, ltb, take, drop, Option, None, Some}

-- The byte of a leading column with digit d, where the number up to it is n: a space as long as that is 0.
unfoldable pub column_of : ℕ → ℕ → ℕ
column_of n d = cond (eqb n 0) 32 (48 + d)

-- The number that the bytes, as leading columns behind those of v, make of it; none where one of them is no such column. The
-- digit of a column is the lower half of its byte.
unfoldable pub leading_from : ℕ → List ℕ → Option ℕ
leading_from v [] = Some v
leading_from v (byte ∷ bytes) =
    let digit = byte % 16 in
    let n = v * 10 + digit in
    cond (ltb digit 10 && eqb byte (column_of n digit)) (leading_from n bytes) None

-- Both numbers, or none.
unfoldable pub both : Option ℕ → Option ℕ → Option (ℕ × ℕ)
both None second = None
both (Some m) None = None
both (Some m) (Some n) = Some (m, n)

-- The numbers of a line of two fields: of its first four columns, and of four from the sixth on.
abbrev pub fours_in : List ℕ → Option (ℕ × ℕ)
fours_in line = both (leading_from 0 (take 4 line)) (leading_from 0 (take 4 (drop 5 line)))
