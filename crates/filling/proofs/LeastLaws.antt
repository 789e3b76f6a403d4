-- What `feasible` says, without the search: something fills. The least sequence shows it, and where there is none nothing fills.
-- Callers use these laws, never the recursion. Assumes nothing.
use Rattle.std.specs.Prelude.{ℕ, ◌≡◌, Bool, true, false, List, [], ◌∷◌, None, Some}
use Rattle.std.proofs.Math.Bool.{not-eq-not}
use Rattle.std.specs.Option.{option_or}
use Rattle.lists.proofs.FirstLaws.{some-of-is_some, none-of-is_some}
use Rattle.filling.specs.Filling.{Key, place_by, Fills}
use Rattle.filling.specs.Order.{LowestDecides}
use Rattle.filling.specs.Least.{least_from, least, feasible}
use Rattle.filling.proofs.SearchLaws.{FillsOver, FirstOf, Better, first-empty, first_key, first-fills}

-- One that begins with choice 0 comes before those that begin with choice 1.
or_else-better : Better LowestDecides option_or
unfolding LowestDecides
or_else-better P nil (Some cs) o₁ h₀ h₁ =
    (h₀.0, elim [ [] ↦ λ p. absurd (nil p) | false ∷ ds ↦ λ p. h₀.1 ds p | true ∷ ds ↦ λ p. tt ])
or_else-better P nil None None h₀ h₁ = elim [ [] ↦ λ p. nil p | false ∷ ds ↦ λ p. h₀ ds p | true ∷ ds ↦ λ p. h₁ ds p ]
or_else-better P nil None (Some cs) h₀ h₁ =
    (h₁.0, elim [ [] ↦ λ p. absurd (nil p) | false ∷ ds ↦ λ p. absurd (h₀ ds p) | true ∷ ds ↦ λ p. h₁.1 ds p ])

-- The search over the places used so far.
least_from-is : (used : List ℕ) (keys : List Key) → FirstOf LowestDecides (FillsOver used keys) (least_from used keys)
unfolding least_from LowestDecides
least_from-is used [] = first-empty LowestDecides tt used
least_from-is used (key ∷ keys) =
    first_key LowestDecides option_or or_else-better used key keys (λ c. least_from (place_by c key ∷ used) keys)
    (λ c. least_from-is (place_by c key ∷ used) keys)

-- `least` is the least sequence that fills, or none does.
least-is : (keys : List Key) → FirstOf LowestDecides (Fills keys) (least keys)
unfolding least
least-is keys = first-fills LowestDecides keys (least_from [] keys) (least_from-is [] keys)

-- The least sequence fills.
least-fills : (keys : List Key) {cs : List Bool} → least keys ≡ Some cs → Fills keys cs
least-fills keys e = (rw e at (least-is keys)).0

-- Where there is no least sequence, nothing fills.
least-none : (keys : List Key) → least keys ≡ None → (cs : List Bool) → Fills keys cs → ⊥
least-none keys e = rw e at (least-is keys)

-- Feasible keys have a sequence that fills.
pub feasible-fills : (keys : List Key) → feasible keys ≡ true → (cs : List Bool) × Fills keys cs
unfolding feasible
feasible-fills keys e = let (cs, l) = some-of-is_some (least keys) e in (cs, least-fills keys l)

-- Infeasible keys have none.
pub infeasible-none : (keys : List Key) → feasible keys ≡ false → (cs : List Bool) → Fills keys cs → ⊥
unfolding feasible
infeasible-none keys e = least-none keys (none-of-is_some (least keys) e)

-- Keys that a sequence fills are feasible.
pub fills-feasible : (keys : List Key) (cs : List Bool) → Fills keys cs → feasible keys ≡ true
fills-feasible keys cs f = not-eq-not.0 (λ e. infeasible-none keys e cs f)

-- Keys that none fills are infeasible.
pub none-infeasible : (keys : List Key) → ((cs : List Bool) → Fills keys cs → ⊥) → feasible keys ≡ false
none-infeasible keys h = not-eq-not.0 (λ e. let (cs, f) = feasible-fills keys e in h cs f)
