-- How far a refusal's place can lie, and that its number is not 0: from an operation's list of checks. Assumes nothing.
use Rattle.std.specs.Prelude.{◌≡◌, refl, Bool, cond, ◌&&◌, ℕ, ◌≤◌, ◌<◌, ltb, Option, None, Some}
use Rattle.std.proofs.Math.Bool.{true, false}
use mathlib.Core.List.{List, [], ◌∷◌, ◌++◌, append-nil, append_assoc}
use Rattle.std.proofs.Common.{arith}
use borrow.Author.Tests.{ltb-true}
use Rattle.lists.proofs.BoolLaws.{both-of-and}
use Rattle.refusal.specs.Outcome.{Outcome, answered, refused, followed_by}
use Rattle.lists.specs.First.{met_at, first}
use Rattle.lists.proofs.FirstLaws.{first_some}
use Rattle.refusal.specs.Checks.{Check, met, in_order, Pass}
use Rattle.refusal.proofs.ChecksLaws.{pass-append}

-- A place, where one is named, is below the bound.
abbrev pub SpotBelow : ℕ → Option ℕ → Type 0
SpotBelow bound None = Unit {0}
SpotBelow bound (Some place) = place < bound

-- A refusal's place is below the bound. An answer has none.
abbrev pub PlaceBelow : {A : Type 0} → ℕ → Outcome A → Type 0
PlaceBelow bound (answered a) = Unit {0}
PlaceBelow bound (refused number place) = place < bound

-- Each check names a place below the bound where those before it pass: `front`, and the checks of the list before it.
abbrev pub EachBelow : ℕ → List Check → List Check → Type 0
EachBelow bound front [] = Unit {0}
EachBelow bound front (check ∷ checks) = (Pass front → SpotBelow bound check.1) × EachBelow bound (front ++ check ∷ []) checks

module _ {A : Type 0} (bound : ℕ) where
  below-from : (front checks : List Check) (o : Outcome A) → Pass front → EachBelow bound front checks
      → (Pass (front ++ checks) → PlaceBelow bound o) → PlaceBelow bound (in_order checks o)
  unfolding in_order
  below-from front [] o passes each behind = behind (rw append-nil passes)
  below-from front ((number, None) ∷ checks) o passes each behind =
      below-from (front ++ (number, None) ∷ []) checks o (pass-append front _ passes (refl, tt)) each.1
      (λ all. behind (rw append_assoc at all))
  below-from front ((number, Some place) ∷ checks) o passes each behind = each.0 passes

  -- Then the place of the refusal that comes is below it, if it is behind the checks.
  pub below-checks : (checks : List Check) (o : Outcome A) → EachBelow bound [] checks
      → (Pass checks → PlaceBelow bound o) → PlaceBelow bound (in_order checks o)
  below-checks checks o = below-from [] checks o tt

  -- One operation after another.
  pub below-followed : {B : Type 0} (o : Outcome B) (next : B → Outcome A) → PlaceBelow bound o → ((b : B) → PlaceBelow bound (next b))
      → PlaceBelow bound (followed_by o next)
  unfolding followed_by
  below-followed (answered b) next h h' = h' b
  below-followed (refused number place) next h h' = h

  -- One of two outcomes.
  pub below-cond : (b : Bool) (o p : Outcome A) → (b ≡ true → PlaceBelow bound o) → (b ≡ false → PlaceBelow bound p)
      → PlaceBelow bound (cond b o p)
  below-cond true o p h h' = h refl
  below-cond false o p h h' = h' refl

  -- The place of a refusal that is known.
  pub place-below : {o : Outcome A} {number place : ℕ} → PlaceBelow bound o → o ≡ refused number place → place < bound
  place-below h e = rw e at h

module _ (bound : ℕ) where
  -- A condition's own place, 0 where it names none, and the lowest index.
  pub met_at-below : (place : ℕ) (condition : Bool) → place < bound → SpotBelow bound (met_at place condition)
  unfolding met_at
  met_at-below place true lt = lt
  met_at-below place false lt = tt

  pub met-below : (condition : Bool) → 0 < bound → SpotBelow bound (met condition)
  unfolding met
  met-below condition lt = met_at-below 0 condition lt

  pub first_below : (test : ℕ → Bool) (limit : ℕ) → limit ≤ bound → SpotBelow bound (first test limit)
  first_below test limit le = go (first test limit) refl
    where
      go : (o : Option ℕ) → first test limit ≡ o → SpotBelow bound o
      go None e = tt
      go (Some k) e = omega (arith, (first_some test limit e).below)

-- Every check has a number from 1 on.
abbrev pub all_numbered : List Check → Bool
all_numbered [] = true
all_numbered (check ∷ checks) = ltb 0 check.0 && all_numbered checks

-- A refusal has one. An answer has none.
abbrev pub Numbered : {A : Type 0} → Outcome A → Type 0
Numbered (answered a) = Unit {0}
Numbered (refused number place) = 0 < number

module _ {A : Type 0} where
  pub numbered-checks : (checks : List Check) (o : Outcome A) → all_numbered checks ≡ true → Numbered o → Numbered (in_order checks o)
  unfolding in_order
  numbered-checks [] o e h = h
  numbered-checks ((number, None) ∷ checks) o e h = numbered-checks checks o (both-of-and (ltb 0 number) (all_numbered checks) e).1 h
  numbered-checks ((number, Some place) ∷ checks) o e h = ltb-true 0 number (both-of-and (ltb 0 number) (all_numbered checks) e).0

  pub numbered-followed : {B : Type 0} (o : Outcome B) (next : B → Outcome A) → Numbered o → ((b : B) → Numbered (next b))
      → Numbered (followed_by o next)
  unfolding followed_by
  numbered-followed (answered b) next h h' = h' b
  numbered-followed (refused number place) next h h' = h

  pub numbered-cond : (b : Bool) (o p : Outcome A) → Numbered o → Numbered p → Numbered (cond b o p)
  numbered-cond true o p h h' = h
  numbered-cond false o p h h' = h'
