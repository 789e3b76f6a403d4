-- Laws of `how_many`: lists put together, tests that agree or add up, and the numbers below n. Assumes nothing.
use Prim.Native.Nat.{ℕ, zero, suc, ◌+◌, ◌≤◌, ◌<◌}
use Rattle.std.specs.Prelude.{◌≡◌, ◌≢◌, Bool, true, false, cond, eqb, length, get_or}
use Rattle.std.proofs.Math.Path.{refl}
use Rattle.std.proofs.Common.{sym, ◌∙◌, ap, add-one, eq-eqb, ne_eqb}
use mathlib.Core.List.{List, [], ◌∷◌, ◌++◌, map}
use Rattle.std.proofs.Math.Decide.{ℕ_discrete}
use native.Mathlib.Omega.{arith}
use Rattle.lists.specs.UpTo.{up_to}
use Rattle.lists.proofs.UpToLaws.{up_to-more}
use Rattle.graph.specs.HowMany.{one, how_many}
use Rattle.graph.specs.Parts.{points}

pub one-true : {b : Bool} → b ≡ true → one b ≡ 1
unfolding one
one-true e = rw e

pub one-false : {b : Bool} → b ≡ false → one b ≡ 0
unfolding one
one-false e = rw e

pub one-most : (b : Bool) → one b ≤ 1
unfolding one
one-most true = omega arith
one-most false = omega arith

pub one_same : (a b : ℕ) → a ≡ b → one (eqb a b) ≡ 1
one_same a b e = one-true (eq-eqb a b e)

pub one-other : (a b : ℕ) → a ≢ b → one (eqb a b) ≡ 0
one-other a b n = one-false (ne_eqb a b n)

module _ {A : Type 0} where
  -- Two lists put together.
  pub how_many-append : (test : A → Bool) (xs ys : List A) → how_many test (xs ++ ys) ≡ how_many test xs + how_many test ys
  unfolding how_many
  how_many-append test [] ys = omega arith
  how_many-append test (x ∷ xs) ys = omega (arith, how_many-append test xs ys)

  -- Tests that agree on what a list has pass as many of it.
  pub how_many-at : (test other : A → Bool) (d : A) (xs : List A) → ((i : ℕ) → i < length xs → test (get_or xs i d) ≡ other (get_or xs i d))
      → how_many test xs ≡ how_many other xs
  unfolding how_many
  how_many-at test other d [] agree = refl
  how_many-at test other d (x ∷ xs) agree =
      rw (agree zero (omega arith), how_many-at test other d xs (λ i lt. agree (suc i) (omega arith)))

  -- A test that adds up from two.
  pub how_many-sum : (test left right : A → Bool) (xs : List A) → ((x : A) → one (test x) ≡ one (left x) + one (right x))
      → how_many test xs ≡ how_many left xs + how_many right xs
  unfolding how_many
  how_many-sum test left right [] adds = refl
  how_many-sum test left right (x ∷ xs) adds = omega (arith, adds x, how_many-sum test left right xs adds)

  -- Tests that agree pass as many.
  pub how_many-same : (test other : A → Bool) (xs : List A) → ((x : A) → test x ≡ other x) → how_many test xs ≡ how_many other xs
  unfolding how_many
  how_many-same test other [] agree = refl
  how_many-same test other (x ∷ xs) agree = rw (agree x, how_many-same test other xs agree)

  -- A test that nothing passes.
  pub how_many-none : (test : A → Bool) (xs : List A) → ((x : A) → test x ≡ false) → how_many test xs ≡ 0
  unfolding how_many one
  how_many-none test [] never = refl
  how_many-none test (x ∷ xs) never = rw (never x) (omega (arith, how_many-none test xs never))

  -- A function of what a list has.
  pub how_many-map : {B : Type 0} (f : B → A) (test : A → Bool) (xs : List B) → how_many test (map f xs) ≡ how_many (λ x. test (f x)) xs
  unfolding how_many
  how_many-map f test [] = refl
  how_many-map f test (x ∷ xs) = rw (how_many-map f test xs)

  -- A list by its index: one more at the end.
  pub how_many-more : (test : A → Bool) (f : ℕ → A) (n : ℕ) → how_many test (up_to (suc n) f) ≡ how_many test (up_to n f) + one (test (f n))
  unfolding how_many
  how_many-more test f n = rw (up_to-more n f, how_many-append test (up_to n f) (f n ∷ [])) (omega arith)

  -- The same with the code's n + 1, for a test that is passed and for one that is not.
  pub how_many-passes : (test : A → Bool) (f : ℕ → A) (n : ℕ) → test (f n) ≡ true
      → how_many test (up_to (n + 1) f) ≡ how_many test (up_to n f) + 1
  how_many-passes test f n e = rw (add-one n) (omega (arith, how_many-more test f n, one-true e))

  pub how_many-fails : (test : A → Bool) (f : ℕ → A) (n : ℕ) → test (f n) ≡ false
      → how_many test (up_to (n + 1) f) ≡ how_many test (up_to n f)
  how_many-fails test f n e = rw (add-one n) (omega (arith, how_many-more test f n, one-false e))

  pub how_many-empty : (test : A → Bool) (f : ℕ → A) → how_many test (up_to 0 f) ≡ 0
  unfolding how_many up_to
  how_many-empty test f = refl

  -- No more than there are.
  pub how_many-most : (test : A → Bool) (f : ℕ → A) (n : ℕ) → how_many test (up_to n f) ≤ n
  how_many-most test f zero = omega (arith, how_many-empty test f)
  how_many-most test f (suc n) = omega (arith, how_many-more test f n, how_many-most test f n, one-most (test (f n)))

-- Of the points below n: tests that agree there, and a test that none of them passes.
pub points-same : (test other : ℕ → Bool) (n : ℕ) → ((v : ℕ) → v < n → test v ≡ other v)
    → how_many test (points n) ≡ how_many other (points n)
unfolding how_many up_to
points-same test other zero agree = refl
points-same test other (suc n) agree =
    omega (
      arith,
      how_many-more test (λ v. v) n,
      how_many-more other (λ v. v) n,
      ap one (agree n (omega arith)),
      points-same test other n (λ v lt. agree v (omega arith)),
    )

pub points_none : (test : ℕ → Bool) (n : ℕ) → ((v : ℕ) → v < n → test v ≡ false) → how_many test (points n) ≡ 0
points_none test n never = points-same test (λ _. false) n never ∙ how_many-none (λ _. false) (points n) (λ _. refl)

-- A point that passes is counted.
pub points-some : (test : ℕ → Bool) (n v : ℕ) → v < n → test v ≡ true → 0 < how_many test (points n)
points-some test zero v lt e = absurd (omega arith)
points-some test (suc n) v lt e = go (ℕ_discrete v n) (λ below. points-some test n v below e)
  where
    go : Dec (v ≡ n) → (v < n → 0 < how_many test (points n)) → 0 < how_many test (points (suc n))
    go (yes same) lower = omega (arith, how_many-more test (λ u. u) n, one-true (rw same at e))
    go (no different) lower = omega (arith, how_many-more test (λ u. u) n, lower (omega (arith, different)))

-- Tests that differ at one point.
pub points-change : (test other : ℕ → Bool) (n v : ℕ) → v < n → ((u : ℕ) → u ≢ v → test u ≡ other u)
    → how_many test (points n) + one (other v) ≡ how_many other (points n) + one (test v)
points-change test other zero v lt agree = absurd (omega arith)
points-change test other (suc n) v lt agree = go (ℕ_discrete v n) (λ below. points-change test other n v below agree)
  where
    go : Dec (v ≡ n) → (v < n → how_many test (points n) + one (other v) ≡ how_many other (points n) + one (test v))
        → how_many test (points (suc n)) + one (other v) ≡ how_many other (points (suc n)) + one (test v)
    go (yes same) lower =
        rw same
        (omega (
          arith,
          how_many-more test (λ u. u) n,
          how_many-more other (λ u. u) n,
          points-same test other n (λ u below. agree u (λ e. omega arith)),
        ))
    go (no different) lower =
        omega (
          arith,
          how_many-more test (λ u. u) n,
          how_many-more other (λ u. u) n,
          ap one (agree n (λ e. different (sym e))),
          lower (omega (arith, different)),
        )

-- Tests that differ at two points.
pub points-change-two : (test other : ℕ → Bool) (n v w : ℕ) → v < n → w < n → v ≢ w
    → ((u : ℕ) → u ≢ v → u ≢ w → test u ≡ other u)
    → how_many test (points n) + (one (other v) + one (other w)) ≡ how_many other (points n) + (one (test v) + one (test w))
points-change-two test other n v w lv lw different agree =
    omega (
      arith,
      points-change test between n v lv (λ u nv. sym (between-off u nv)),
      points-change between other n w lw between-other,
      ap one between-at,
      ap one (between-off w (λ e. different (sym e))),
    )
  where
    between : ℕ → Bool
    between u = cond (eqb u v) (other v) (test u)

    between-at : between v ≡ other v
    between-at = rw (eq-eqb v v refl)

    between-off : (u : ℕ) → u ≢ v → between u ≡ test u
    between-off u nv = rw (ne_eqb u v nv)

    between-other : (u : ℕ) → u ≢ w → between u ≡ other u
    between-other u nw = go (ℕ_discrete u v)
      where
        go : Dec (u ≡ v) → between u ≡ other u
        go (yes same) = rw same between-at
        go (no nv) = between-off u nv ∙ agree u nv nw
