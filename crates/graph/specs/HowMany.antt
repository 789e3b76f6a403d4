-- How many of a list pass a test. Assumes nothing.
use Rattle.std.specs.Prelude.{ℕ, ◌+◌, Bool, true, false, List, [], ◌∷◌}

-- 1 for a test that is passed, 0 for one that is not.
unfoldable pub one : Bool → ℕ
one true = 1
one false = 0

-- None of the empty list.
unfoldable pub how_many : {A : Type 0} → (A → Bool) → List A → ℕ
how_many test [] = 0
how_many test (x ∷ xs) = one (test x) + how_many test xs
