-- The sequence taken: of those that fill, the first in the order of choices. TakenLaws says what it is without searching: it fills,
-- nothing that fills comes before it, it is unique, and it exists exactly when something fills. Assumes nothing.
use Rattle.std.specs.Prelude.{ℕ, Bool, true, false, cond, List, [], ◌∷◌, ltb, Option, None, Some}
use Rattle.filling.specs.Filling.{Key, place_by}
use Rattle.filling.specs.Order.{ones}
use Rattle.filling.specs.Least.{beginning}

-- Of two sequences the one with fewer ones; between equals the first.
unfoldable pub fewer_ones : Option (List Bool) → Option (List Bool) → Option (List Bool)
fewer_ones None second = second
fewer_ones (Some cs) None = Some cs
fewer_ones (Some cs) (Some ds) = cond (ltb (ones ds) (ones cs)) (Some ds) (Some cs)

-- "the one with the fewest ones is now taken, and only between equals does the lowest tag decide, 0 before 1": each key in turn,
-- over the places used so far; what begins with choice 0 is the first, what begins with choice 1 the second.
unfoldable pub taken_from : List ℕ → List Key → Option (List Bool)
taken_from used [] = Some []
taken_from used (key ∷ keys) =
    fewer_ones
    (beginning false key used (taken_from (place_by false key ∷ used) keys))
    (beginning true key used (taken_from (place_by true key ∷ used) keys))

unfoldable pub sequence_taken : List Key → Option (List Bool)
sequence_taken keys = taken_from [] keys
