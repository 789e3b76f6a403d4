-- When the checks pass, and which refusal comes where they do not. Assumes nothing.
use Rattle.refusal.specs.ChecksBefore.{checks_before}
use Rattle.std.specs.Prelude.{ℕ, ◌⊎◌, Bool, ◌||◌, Option, None, Some}
use Rattle.std.proofs.Math.Path.{◌≡◌, refl, ap}
use Rattle.std.proofs.Common.{◌∙◌}
use Rattle.std.proofs.Math.Logic.{inl, inr}
use Rattle.std.proofs.Math.Bool.{true, false, cond}
use mathlib.Core.List.{List, [], ◌∷◌, ◌++◌}
use native.Mathlib.Omega.{arith}
use Rattle.std.proofs.Math.Dec.{eqb}
use borrow.Author.Tests.{eqb-true, eqb-false}
use Rattle.lists.proofs.BoolLaws.{neither-of-or}
use Rattle.refusal.specs.Outcome.{Outcome, answered, refused}
use Rattle.lists.specs.First.{met_at}
use Rattle.refusal.specs.Checks.{Check, met, in_order, Pass}

-- A condition that holds is met at its place.
pub met_at-true : (place : ℕ) {condition : Bool} → condition ≡ true → met_at place condition ≡ Some place
unfolding met_at
met_at-true place e = rw e

-- A condition that fails is not met.
pub met_at-false : (place : ℕ) {condition : Bool} → condition ≡ false → met_at place condition ≡ None
unfolding met_at
met_at-false place e = rw e

-- A condition that is not met fails.
pub false-of-met_at : (place : ℕ) (condition : Bool) → met_at place condition ≡ None → condition ≡ false
unfolding met_at
false-of-met_at place true e = cc
false-of-met_at place false e = refl

-- A condition that names no place and holds is met at place 0.
pub met-true : {condition : Bool} → condition ≡ true → met condition ≡ Some 0
unfolding met
met-true e = met_at-true 0 e

-- A condition that names no place and fails is not met.
pub met-false : {condition : Bool} → condition ≡ false → met condition ≡ None
unfolding met
met-false e = met_at-false 0 e

-- A condition that names no place and is not met fails.
pub false-of-met : (condition : Bool) → met condition ≡ None → condition ≡ false
unfolding met
false-of-met condition e = false-of-met_at 0 condition e

-- The first condition met is one with this number, at this place.
abbrev pub Met : List Check → ℕ → ℕ → Type 0
Met [] number place = ⊥
Met (check ∷ checks) number place =
    ((check.0 ≡ number) × (check.1 ≡ Some place)) ⊎ ((check.1 ≡ None) × Met checks number place)

-- Where the condition of the check with a number is met: that of the first such check, and none where there is no such check.
abbrev pub met_by : List Check → ℕ → Option ℕ
met_by [] number = None
met_by (check ∷ checks) number = cond (eqb check.0 number) check.1 (met_by checks number)

-- What holds of each check of a list, in the list's order, and `tt` behind the last.
infixr 5 ◌then◌
pub ◌then◌ : {A B : Type 0} → A → B → A × B
h then rest = (h, rest)

-- Where the checks pass, none of them is met, whatever its number.
pub passed : (checks : List Check) → Pass checks → (number : ℕ) → met_by checks number ≡ None
passed [] h number = refl
passed (check ∷ checks) h number = go (eqb check.0 number) (passed checks h.1 number)
  where
    go : (b : Bool) → met_by checks number ≡ None → cond b check.1 (met_by checks number) ≡ None
    go true later = h.0
    go false later = later

pub pass-append : (checks more : List Check) → Pass checks → Pass more → Pass (checks ++ more)
pass-append [] more h j = j
pass-append (check ∷ checks) more h j = (h.0, pass-append checks more h.1 j)

pub pass-split : (checks more : List Check) → Pass (checks ++ more) → Pass checks × Pass more
pass-split [] more h = (tt, h)
pass-split (check ∷ checks) more h = let (front, back) = pass-split checks more h.1 in ((h.0, front), back)

-- Where all checks pass, those do.
pub pass-before : (checks : List Check) → Pass checks → (number : ℕ) → Pass (checks_before number checks)
pass-before [] h number = tt
pass-before (check ∷ checks) h number = go (eqb check.0 number) (pass-before checks h.1 number)
  where
    go : (b : Bool) → Pass (checks_before number checks) → Pass (cond b [] (check ∷ checks_before number checks))
    go true later = tt
    go false later = (h.0, later)

-- And those behind it: none where there is no such check.
abbrev pub checks_behind : ℕ → List Check → List Check
checks_behind number [] = []
checks_behind number (check ∷ checks) = cond (eqb check.0 number) checks (checks_behind number checks)

-- One check more passes, and the next one is reached. Which is next, the list says.
pub passed_on : (checks : List Check) (number next : ℕ)
    → checks_before next checks ≡ checks_before number checks ++ (number, met_by checks number) ∷ []
    → Pass (checks_before number checks) → met_by checks number ≡ None → Pass (checks_before next checks)
passed_on checks number next follows h e = rw follows (pass-append (checks_before number checks) _ h (e, tt))

-- Two lists of checks agree, each check where those before it pass; and where all pass this holds behind them.
abbrev pub Agree : List Check → List Check → Type 0 → Type 0
Agree [] [] behind = behind
Agree [] (other ∷ others) behind = ⊥
Agree (check ∷ checks) [] behind = ⊥
Agree (check ∷ checks) (other ∷ others) behind = (check ≡ other) × (check.1 ≡ None → Agree checks others behind)

pub agree_same : (checks : List Check) (behind : Type 0) → (Pass checks → behind) → Agree checks checks behind
agree_same [] behind h = h tt
agree_same (check ∷ checks) behind h = (refl, λ passes. agree_same checks behind (λ rest. h (passes, rest)))

-- Is it the number of one of the checks?
abbrev pub numbers : List Check → ℕ → Bool
numbers [] number = false
numbers (check ∷ checks) number = eqb check.0 number || numbers checks number

-- A number that is in none of the front's checks is met behind them, and they pass.
pub met-behind : (front back : List Check) (number place : ℕ) → numbers front number ≡ false → Met (front ++ back) number place
    → Pass front × Met back number place
met-behind [] back number place absent h = (tt, h)
met-behind (check ∷ front) back number place absent (inl h) =
    absurd (eqb-false check.0 number (neither-of-or (eqb check.0 number) (numbers front number) absent).0 h.0)
met-behind (check ∷ front) back number place absent (inr h) =
    let rest = (neither-of-or (eqb check.0 number) (numbers front number) absent).1 in
    let (passes, behind) = met-behind front back number place rest h.1 in
    ((h.0, passes), behind)

-- A number that no check has is not met.
met-none : (checks : List Check) (number place : ℕ) → numbers checks number ≡ false → Met checks number place → ⊥
met-none [] number place absent h = h
met-none (check ∷ checks) number place absent (inl h) =
    eqb-false check.0 number (neither-of-or (eqb check.0 number) (numbers checks number) absent).0 h.0
met-none (check ∷ checks) number place absent (inr h) =
    met-none checks number place (neither-of-or (eqb check.0 number) (numbers checks number) absent).1 h.1

-- A number that one check alone has is met by that check, and those before it pass.
pub met-alone : (checks : List Check) (number : ℕ) {place : ℕ} → numbers (checks_behind number checks) number ≡ false
    → Met checks number place → Pass (checks_before number checks) × (met_by checks number ≡ Some place)
met-alone [] number once h = absurd h
met-alone (check ∷ checks) number {place} once h = go (eqb check.0 number) refl once h (met-alone checks number)
  where
    go : (b : Bool) → eqb check.0 number ≡ b → numbers (cond b checks (checks_behind number checks)) number ≡ false
        → Met (check ∷ checks) number place
        → (numbers (checks_behind number checks) number ≡ false → Met checks number place
        → Pass (checks_before number checks) × (met_by checks number ≡ Some place))
        → Pass (cond b [] (check ∷ checks_before number checks)) × (cond b check.1 (met_by checks number) ≡ Some place)
    go true same once (inl h) later = (tt, h.1)
    go true same once (inr h) later = absurd (met-none checks number place once h.1)
    go false other once (inl h) later = absurd (eqb-false check.0 number other h.0)
    go false other once (inr h) later = let (front, met) = later once h.1 in ((h.0, front), met)

module _ {A : Type 0} where
  -- Then they come to the same.
  pub in_order-agree : (checks others : List Check) (o p : Outcome A) → Agree checks others (o ≡ p) → in_order checks o ≡ in_order others p
  unfolding in_order
  in_order-agree [] [] o p h = h
  in_order-agree [] (other ∷ others) o p h = absurd h
  in_order-agree (check ∷ checks) [] o p h = absurd h
  in_order-agree ((number, None) ∷ checks) (other ∷ others) o p h =
      in_order-agree checks others o p (h.1 refl) ∙ ap (λ (c : Check). in_order (c ∷ others) p) h.0
  in_order-agree ((number, Some place) ∷ checks) (other ∷ others) o p h = ap (λ (c : Check). in_order (c ∷ others) p) h.0

  -- Checks that pass leave what stands behind them.
  pub in_order-pass : (checks : List Check) (o : Outcome A) → Pass checks → in_order checks o ≡ o
  unfolding in_order
  in_order-pass [] o h = refl
  in_order-pass ((number, None) ∷ checks) o h = in_order-pass checks o h.1
  in_order-pass ((number, Some place) ∷ checks) o h = cc

  -- An answer comes only where the checks pass, and from behind them.
  pub in_order-answered : (checks : List Check) (o : Outcome A) {a : A} → in_order checks o ≡ answered a
      → Pass checks × (o ≡ answered a)
  unfolding in_order
  in_order-answered [] o e = (tt, e)
  in_order-answered ((number, None) ∷ checks) o e = let (h, e') = in_order-answered checks o e in ((refl, h), e')
  in_order-answered ((number, Some place) ∷ checks) o e = absurd (let z : ◌≡◌ {A = ℕ} 0 1 = cc in omega arith)

  -- A refusal that comes before an answer is the first condition met.
  pub in_order-refused : (checks : List Check) (a : A) {number place : ℕ}
      → in_order checks (answered a) ≡ refused number place → Met checks number place
  unfolding in_order
  in_order-refused [] a e = let z : ◌≡◌ {A = ℕ} 0 1 = cc in omega arith
  in_order-refused ((number, None) ∷ checks) a e = inr (refl, in_order-refused checks a e)
  in_order-refused ((number, Some place) ∷ checks) a e = inl (cc, cc)

  -- The first condition met is the refusal, whatever stands behind the checks.
  pub refused-in_order : (checks : List Check) (o : Outcome A) {number place : ℕ}
      → Met checks number place → in_order checks o ≡ refused number place
  unfolding in_order
  refused-in_order [] o h = absurd h
  refused-in_order ((number, None) ∷ checks) o (inl h) = cc
  refused-in_order ((number, None) ∷ checks) o (inr h) = refused-in_order checks o h.1
  refused-in_order ((number, Some place) ∷ checks) o (inl h) = cc
  refused-in_order ((number, Some place) ∷ checks) o (inr h) = cc

  -- A check that is met where those before it pass is the refusal.
  pub met-first : (checks : List Check) (o : Outcome A) (number : ℕ) {place : ℕ}
      → Pass (checks_before number checks) → met_by checks number ≡ Some place → in_order checks o ≡ refused number place
  unfolding in_order
  met-first [] o number h e = cc
  met-first ((own, spot) ∷ checks) o number {place} h e = go (eqb own number) refl h e (met-first checks o number)
    where
      go : (b : Bool) → eqb own number ≡ b → Pass (cond b [] ((own, spot) ∷ checks_before number checks))
          → cond b spot (met_by checks number) ≡ Some place
          → (Pass (checks_before number checks) → met_by checks number ≡ Some place → in_order checks o ≡ refused number place)
          → in_order ((own, spot) ∷ checks) o ≡ refused number place
      go true same h e later = rw (e, eqb-true own number same)
      go false other h e later = rw h.0 (later h.1 e)

  -- Lists that differ in one check come to the same if it is met alike where those before it pass.
  pub in_order-but : (front : List Check) (number : ℕ) {spot spot' : Option ℕ} (back : List Check) (o : Outcome A)
      → (Pass front → spot ≡ spot')
      → in_order (front ++ (number, spot) ∷ back) o ≡ in_order (front ++ (number, spot') ∷ back) o
  unfolding in_order
  in_order-but [] number back o same = rw (same tt)
  in_order-but ((own, None) ∷ front) number back o same = in_order-but front number back o (λ passes. same (refl, passes))
  in_order-but ((own, Some place) ∷ front) number back o same = refl

  -- Checks after checks run in that order.
  pub in_order-append : (checks more : List Check) (o : Outcome A)
      → in_order (checks ++ more) o ≡ in_order checks (in_order more o)
  unfolding in_order
  in_order-append [] more o = refl
  in_order-append ((number, None) ∷ checks) more o = in_order-append checks more o
  in_order-append ((number, Some place) ∷ checks) more o = refl
