-- The choices that a word makes for keys with rows, the least word that makes their places all different, and for each place the equation
-- that says that an odd number of keys take it. All of it is over words of k bits. Assumes nothing.
use Rattle.std.specs.Prelude.{ℕ, ◌+◌, ◌*◌, ◌^◌, Bool, cond, List, [], ◌∷◌, map, eqb, Option}
use Rattle.std.specs.Int.Bits.{bit_xor}
use Rattle.lists.specs.First.{first}
use Rattle.lists.specs.Occurs.{distinct}
use Rattle.filling.specs.Filling.{Key, chosen}
use Rattle.parity.specs.Parity.{parity}

-- The choice of a key with this row: the parity of the ones in the row AND the word.
unfoldable pub row_choice : ℕ → ℕ → Bool
row_choice word row = eqb (parity row word) 1

-- The choices of keys with these rows, in the keys' order.
unfoldable pub row_choices : ℕ → List ℕ → List Bool
row_choices word rows = map (row_choice word) rows

-- Does the word make the keys' places all different?
unfoldable pub rows_fill : List Key → List ℕ → ℕ → Bool
rows_fill keys rows word = distinct (chosen keys (row_choices word rows))

-- The numerically least word of k bits that does.
unfoldable pub least_of_rows : ℕ → List Key → List ℕ → Option ℕ
least_of_rows k keys rows = first (rows_fill keys rows) (2 ^ k)

-- An equation is a word of k + 1 bits: which bits of the word have an odd sum with the constant, bit k. It is solved by a word of k bits
-- where the parity of the equation and of the word with bit k set is 0.
unfoldable pub with_constant : ℕ → ℕ → ℕ
with_constant k word = 1 * 2 ^ k + word

-- The equation of place v with one key more: the key takes its first place where its choice is 0, its second where it is 1.
unfoldable pub with_key : ℕ → ℕ → ℕ → Key → ℕ → ℕ
with_key k v equation key row =
    bit_xor (bit_xor equation (cond (eqb v key.0) (bit_xor row (2 ^ k)) 0)) (cond (eqb v key.1) row 0)

-- The same with all keys, each with its row, in their order.
unfoldable pub with_keys : ℕ → ℕ → ℕ → List Key → List ℕ → ℕ
with_keys k v equation [] rows = equation
with_keys k v equation (key ∷ keys) [] = equation
with_keys k v equation (key ∷ keys) (row ∷ rows) = with_keys k v (with_key k v equation key row) keys rows

-- The equation of place v: an odd number of keys take it. With no key it is the constant alone, which no word solves.
unfoldable pub equation_of : ℕ → List Key → List ℕ → ℕ → ℕ
equation_of k keys rows v = with_keys k v (2 ^ k) keys rows
