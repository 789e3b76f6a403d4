-- Choices by index, past the last key as well, and when no two keys take one place. Assumes nothing.
use Rattle.std.specs.Prelude.{ℕ, ◌<◌, ◌≡◌, Bool, false, List, get_or}
use Rattle.filling.specs.Filling.{Key, place_by}

-- A choice sequence by index: choice 0 past its end.
abbrev pub by_index : List Bool → ℕ → Bool
by_index choices i = get_or choices i false

-- The place that a choice takes of the key with index i in a list.
abbrev pub key_place : List Key → ℕ → Bool → ℕ
key_place keys i choice = place_by choice (get_or keys i (0, 0))

-- No two of the first n keys take one place. Places are read by a key's index and a choice.
abbrev pub Separate : (ℕ → Bool → ℕ) → ℕ → (ℕ → Bool) → Type 0
Separate place n c = (i j : ℕ) → i < n → j < n → place i (c i) ≡ place j (c j) → i ≡ j

-- Under a choice sequence no two of the first n keys of a list take one place.
abbrev pub Apart : List Key → ℕ → List Bool → Type 0
Apart keys n choices = Separate (key_place keys) n (by_index choices)
