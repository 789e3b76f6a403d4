-- Whether something fills: the least sequence, compared from the lowest key on, shows it. LeastLaws says it without searching. Assumes
-- nothing.
use Rattle.std.specs.Prelude.{ℕ, Bool, true, false, cond, List, [], ◌∷◌, Option, None, Some, option_map}
use Rattle.std.specs.Option.{option_or}
use Rattle.lists.specs.First.{is_some}
use Rattle.lists.specs.Occurs.{occurs}
use Rattle.filling.specs.Filling.{Key, place_by}

-- The sequences that begin with a choice: none where its place is used already.
unfoldable pub beginning : Bool → Key → List ℕ → Option (List Bool) → Option (List Bool)
beginning choice key used rest =
    cond (occurs (place_by choice key) used) None (option_map (λ choices. choice ∷ choices) rest)

-- Each key in turn, choice 0 before choice 1, over the places used so far.
unfoldable pub least_from : List ℕ → List Key → Option (List Bool)
least_from used [] = Some []
least_from used (key ∷ keys) =
    option_or
    (beginning false key used (least_from (place_by false key ∷ used) keys))
    (beginning true key used (least_from (place_by true key ∷ used) keys))

unfoldable pub least : List Key → Option (List Bool)
least keys = least_from [] keys

-- Is there a sequence that fills?
unfoldable pub feasible : List Key → Bool
feasible keys = is_some (least keys)
