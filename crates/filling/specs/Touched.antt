-- The places that keys touch, each counted once. Assumes nothing.
use Rattle.std.specs.Prelude.{ℕ, cond, true, false, List, [], ◌∷◌, length}
use Rattle.lists.specs.Occurs.{occurs}
use Rattle.filling.specs.Filling.{Key, place_by}

-- Both candidate places of each key, choice 0 before choice 1, in the keys' order.
unfoldable pub candidate_places : List Key → List ℕ
candidate_places [] = []
candidate_places (key ∷ keys) = place_by false key ∷ place_by true key ∷ candidate_places keys

-- The numbers of a list, each once.
unfoldable pub once : List ℕ → List ℕ
once [] = []
once (x ∷ xs) = cond (occurs x xs) (once xs) (x ∷ once xs)

-- "the number of places touched": the different candidate places. A key with equal places touches one.
unfoldable pub touched : List Key → ℕ
touched keys = length (once (candidate_places keys))
