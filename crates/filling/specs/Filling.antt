-- Choice sequences, and when one fills. It speaks of keys with two candidate places each, whatever the places come from, and of
-- any number of places. Assumes nothing.
use Rattle.std.specs.Prelude.{ℕ, ◌<◌, ◌≡◌, Bool, true, false, List, [], ◌∷◌, length, get_or}
use Rattle.lists.specs.Occurs.{distinct}

-- A key: its first and its second candidate place. They may be equal, and two keys may have the same pair.
abbrev pub Key : Type 0
Key = ℕ × ℕ

-- The place that a choice takes: choice 0, `false`, the first; choice 1, `true`, the second.
unfoldable pub place_by : Bool → Key → ℕ
place_by false key = key.0
place_by true key = key.1

-- The places that a choice sequence takes, in the keys' order. (The field's term: an orientation of the graph.)
unfoldable pub chosen : List Key → List Bool → List ℕ
chosen [] choices = []
chosen (key ∷ keys) [] = []
chosen (key ∷ keys) (choice ∷ choices) = place_by choice key ∷ chosen keys choices

-- "A choice sequence has one 0 or 1 for each tag of the group, lowest tag first. It fills the group under a seed if the n chosen
-- places are all different." No key is filled by the empty sequence.
pub record Fills (keys : List Key) (choices : List Bool) : Type 0 where
  pub whole : length choices ≡ length keys
  pub apart : distinct (chosen keys choices) ≡ true

-- Each candidate place of each key is so.
abbrev pub EachCandidate : (ℕ → Type 0) → List Key → Type 0
EachCandidate P keys = (i : ℕ) → i < length keys → (choice : Bool) → P (place_by choice (get_or keys i (0, 0)))
