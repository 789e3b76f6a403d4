-- The occupants of the places, a cell for each place. Assumes nothing.
use Rattle.std.specs.Prelude.{ℕ, ◌+◌, ◌<◌, ◌≡◌, List, eqb, length, get_or, Option, None, Some}
use Rattle.refusal.specs.Limits.{group_max}
use Rattle.lists.specs.First.{first}
use Rattle.lists.specs.UpTo.{up_to}
use Rattle.bits.specs.WordBits.{choice_in}
use Rattle.places.specs.Array.{entry_of}

-- A cell: one more than the index of the key that has the place; 0 where none has it.
unfoldable pub cell_of : Option ℕ → ℕ
cell_of None = 0
cell_of (Some i) = i + 1

-- The place that key i takes under a word.
abbrev pub place_taken : List ℕ → ℕ → ℕ → ℕ
place_taken places word i = entry_of places i (choice_in word i)

-- The lowest of the first `count` keys that takes place v under a word.
abbrev pub key_in : List ℕ → ℕ → ℕ → ℕ → Option ℕ
key_in places word count v = first (λ i. eqb (place_taken places word i) v) count

-- The cells of all places of a full group for the first `count` keys under a word.
unfoldable pub occupants_of : List ℕ → ℕ → ℕ → List ℕ
occupants_of places word count = up_to group_max (λ v. cell_of (key_in places word count v))

-- The cells after key k: the occupants under the word that there is then; as they were before where there is none.
unfoldable pub occupants_after : List ℕ → ℕ → List ℕ → Option ℕ → List ℕ
occupants_after places k before (Some word) = occupants_of places word (k + 1)
occupants_after places k before None = before

-- Such cells for keys of which no two take one place: at the place of key i stands i + 1, and nothing but 0 at a free place.
pub record Occupied (places : List ℕ) (word count : ℕ) (cells : List ℕ) : Type 0 where
  pub size : length cells ≡ group_max
  pub sits : (i : ℕ) → i < count → get_or cells (place_taken places word i) 0 ≡ i + 1
  pub who : (v o : ℕ) → get_or cells v 0 ≡ o + 1 → (o < count) × (place_taken places word o ≡ v)
