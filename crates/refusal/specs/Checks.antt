-- The one rule by which every operation refuses. Assumes nothing.
use Rattle.std.specs.Prelude.{ℕ, ◌≡◌, Bool, List, [], ◌∷◌, Option, None, Some}
use Rattle.refusal.specs.Outcome.{Outcome, refused}
use Rattle.lists.specs.First.{met_at}

-- A check: the refusal's number, and the place where its condition is met, if it is met.
abbrev pub Check : Type 0
Check = ℕ × Option ℕ

-- "the place is 0 where none is named"
unfoldable pub met : Bool → Option ℕ
met condition = met_at 0 condition

-- "The checks of an operation run in the order written below: the first condition met decides, and without its condition a
-- refusal never comes." Where no condition is met, the operation comes to what stands behind the checks.
unfoldable pub in_order : {A : Type 0} → List Check → Outcome A → Outcome A
in_order [] outcome = outcome
in_order ((number, None) ∷ checks) outcome = in_order checks outcome
in_order ((number, Some place) ∷ checks) outcome = refused number place

-- No condition is met.
abbrev pub Pass : List Check → Type 0
Pass [] = Unit {0}
Pass (check ∷ checks) = (check.1 ≡ None) × Pass checks
