-- How often a number stands in a list. Assumes nothing.
use Rattle.std.specs.Prelude.{ℕ, ◌+◌, cond, List, [], ◌∷◌, eqb}

-- How often v stands in the list: 0 times in the empty list.
unfoldable pub times_in : ℕ → List ℕ → ℕ
times_in v [] = 0
times_in v (x ∷ xs) = cond (eqb v x) 1 0 + times_in v xs
