-- An array of candidate places: the first places of all keys, and from its middle on the second. Assumes nothing.
use Rattle.std.specs.Prelude.{ℕ, ◌+◌, ◌*◌, ◌<◌, ◌≡◌, Bool, true, false, List, map, length, get_or}
use Rattle.std.proofs.Math.Seq.{paste}
use Rattle.refusal.specs.Limits.{group_max}
use Rattle.lists.specs.UpTo.{up_to}
use Rattle.filling.specs.Filling.{Key, place_by}

-- The place of key i under a choice: cell i for its first place, cell group_max + i for its second. Past the array's end a place is 0.
unfoldable pub entry_of : List ℕ → ℕ → Bool → ℕ
entry_of places i false = get_or places i 0
entry_of places i true = get_or places (group_max + i) 0

-- An array with two cells for each key of a full group, in which both candidate places of the first `count` keys are its places.
pub record Candidates (places : List ℕ) (count : ℕ) : Type 0 where
  pub size : length places ≡ 2 * group_max
  pub below : (i : ℕ) → i < count → (choice : Bool) → entry_of places i choice < group_max

-- The key with index i that an array states, and the first `count` keys.
abbrev pub key_at : List ℕ → ℕ → Key
key_at places i = (entry_of places i false, entry_of places i true)

unfoldable pub keys_of : ℕ → List ℕ → List Key
keys_of count places = up_to count (key_at places)

-- The places of keys under one choice, in the keys' order.
unfoldable pub places_by : Bool → List Key → List ℕ
places_by choice keys = map (place_by choice) keys

-- The array with the places of keys laid into it: the first from cell 0 on, the second from its middle on; the other cells are as before.
unfoldable pub laid_into : List Key → List ℕ → List ℕ
laid_into keys before =
    paste (paste before 0 (places_by false keys) (length keys)) group_max (places_by true keys) (length keys)
