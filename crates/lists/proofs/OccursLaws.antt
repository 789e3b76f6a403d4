-- The laws of `occurs` and `distinct`, along the list and by index, and the pigeonhole law. Assumes nothing.
use Rattle.std.specs.Prelude.{ℕ, zero, suc, ◌≤◌, ◌<◌, ◌≡◌, refl, ◌⊎◌, Bool, true, false, cond, ◌||◌, List, [], ◌∷◌, eqb, ltb, length}
use Rattle.std.specs.Prelude.{get_or}
use Rattle.std.proofs.Common.{sym, ◌∙◌, ap, inl, inr, true≢false, arith, eqb-true, eq-eqb, ne_eqb, ltb-true, ltb-false}
use Rattle.std.proofs.Math.Bool.{or-true, not-eq-not}
use Rattle.lists.specs.Occurs.{occurs, distinct}

-- The first number of a list occurs in it.
pub occurs-here : (x : ℕ) (xs : List ℕ) → occurs x (x ∷ xs) ≡ true
unfolding occurs
occurs-here x xs = rw (eq-eqb x x refl)

-- What occurs in the rest occurs in the list.
pub occurs-there : (x y : ℕ) (ys : List ℕ) → occurs x ys ≡ true → occurs x (y ∷ ys) ≡ true
unfolding occurs
occurs-there x y ys t = rw (t, or-true)

-- What occurs is the first number, or occurs in the rest.
pub occurs-cases : (x y : ℕ) (ys : List ℕ) → occurs x (y ∷ ys) ≡ true → (x ≡ y) ⊎ (occurs x ys ≡ true)
unfolding occurs
occurs-cases x y ys t = go (eqb x y) refl t
  where
    go : (b : Bool) → eqb x y ≡ b → (b || occurs x ys) ≡ true → (x ≡ y) ⊎ (occurs x ys ≡ true)
    go true e t = inl (eqb-true x y e)
    go false e t = inr t

-- No number both occurs and does not.
pub occurs-not : (x : ℕ) (xs : List ℕ) → occurs x xs ≡ true → occurs x xs ≡ false → ⊥
occurs-not x xs t n = true≢false (sym t ∙ n)

-- A number that is not the first and not in the rest does not occur.
pub absent-cons : (x y : ℕ) (ys : List ℕ) → (x ≡ y → ⊥) → occurs x ys ≡ false → occurs x (y ∷ ys) ≡ false
unfolding occurs
absent-cons x y ys different n = rw (ne_eqb x y different, n)

-- What does not occur in a list does not occur in its rest.
pub absent-tail : (x y : ℕ) (ys : List ℕ) → occurs x (y ∷ ys) ≡ false → occurs x ys ≡ false
absent-tail x y ys n = not-eq-not.0 (λ t. occurs-not x (y ∷ ys) (occurs-there x y ys t) n)

-- The first of different numbers does not come again.
pub distinct_head : (x : ℕ) (xs : List ℕ) → distinct (x ∷ xs) ≡ true → occurs x xs ≡ false
unfolding distinct
distinct_head x xs d = go (occurs x xs) refl
  where
    go : (b : Bool) → occurs x xs ≡ b → occurs x xs ≡ false
    go true e = cc
    go false e = e

-- The rest of different numbers are different.
pub distinct_tail : (x : ℕ) (xs : List ℕ) → distinct (x ∷ xs) ≡ true → distinct xs ≡ true
unfolding distinct
distinct_tail x xs d = cc (distinct_head x xs d)

-- Different numbers and one that does not occur among them are different.
pub distinct_cons : (x : ℕ) (xs : List ℕ) → occurs x xs ≡ false → distinct xs ≡ true → distinct (x ∷ xs) ≡ true
unfolding distinct
distinct_cons x xs n d = rw (n, d)

-- ys with the first x taken out.
without : ℕ → List ℕ → List ℕ
without x [] = []
without x (y ∷ ys) = cond (eqb x y) ys (y ∷ without x ys)

-- One number fewer is left,
without-length : (x : ℕ) (ys : List ℕ) → occurs x ys ≡ true → suc (length (without x ys)) ≡ length ys
unfolding occurs without
without-length x [] t = cc
without-length x (y ∷ ys) t = go (eqb x y) t (without-length x ys)
  where
    go : (b : Bool) → (b || occurs x ys) ≡ true → (occurs x ys ≡ true → suc (length (without x ys)) ≡ length ys)
        → suc (length (cond b ys (y ∷ without x ys))) ≡ suc (length ys)
    go true t rest = refl
    go false t rest = ap suc (rest t)

-- and every other number still occurs.
without-occurs : (x z : ℕ) (ys : List ℕ) → (z ≡ x → ⊥) → occurs z ys ≡ true → occurs z (without x ys) ≡ true
unfolding without
without-occurs x z [] different t = t
without-occurs x z (y ∷ ys) different t = go (eqb x y) refl (occurs-cases z y ys t) (without-occurs x z ys different)
  where
    go : (b : Bool) → eqb x y ≡ b → (z ≡ y) ⊎ (occurs z ys ≡ true) → (occurs z ys ≡ true → occurs z (without x ys) ≡ true)
        → occurs z (cond b ys (y ∷ without x ys)) ≡ true
    go true e (inl same) rest = absurd (different (cc (eqb-true x y e)))
    go true e (inr t) rest = t
    go false e (inl same) rest = rw same (occurs-here y (without x ys))
    go false e (inr t) rest = occurs-there z y (without x ys) (rest t)

-- The pigeonhole law: different numbers that all occur in us are no more than us has.
pub pigeonhole : (xs us : List ℕ) → distinct xs ≡ true
    → ((x : ℕ) → occurs x xs ≡ true → occurs x us ≡ true) → length xs ≤ length us
pigeonhole [] us d inside = omega arith
pigeonhole (x ∷ xs) us d inside =
    omega (arith, without-length x us (inside x (occurs-here x xs)), pigeonhole xs (without x us) (distinct_tail x xs d) rest)
  where
    rest : (z : ℕ) → occurs z xs ≡ true → occurs z (without x us) ≡ true
    rest z t =
        let different : z ≡ x → ⊥ = λ e. occurs-not x xs (rw e at t) (distinct_head x xs d) in
        without-occurs x z us different (inside z (occurs-there z x xs t))

-- The number with an index occurs.
pub get_or-occurs : (xs : List ℕ) (i : ℕ) → i < length xs → occurs (get_or xs i 0) xs ≡ true
get_or-occurs [] i lt = absurd (omega arith)
get_or-occurs (x ∷ xs) zero lt = occurs-here x xs
get_or-occurs (x ∷ xs) (suc i) lt = occurs-there (get_or xs i 0) x xs (get_or-occurs xs i (omega arith))

-- An index at which y stands.
pub record IndexOf (y : ℕ) (xs : List ℕ) : Type 0 where
  pub index : ℕ
  pub inside : index < length xs
  pub value : get_or xs index 0 ≡ y

-- What occurs stands at some index.
pub occurs-get_or : (xs : List ℕ) (y : ℕ) → occurs y xs ≡ true → IndexOf y xs
unfolding occurs
occurs-get_or [] y t = absurd (true≢false (sym t))
occurs-get_or (x ∷ xs) y t = go (occurs-cases y x xs t) (occurs-get_or xs y)
  where
    go : (y ≡ x) ⊎ (occurs y xs ≡ true) → (occurs y xs ≡ true → IndexOf y xs) → IndexOf y (x ∷ xs)
    go (inl e) rest = record { index = zero; inside = omega arith; value = sym e }
    go (inr t) rest = let at = rest t in record { index = suc at.index; inside = omega arith; value = at.value }

-- Different by index: only equal indices have equal numbers.
abbrev pub DistinctAt : List ℕ → Type 0
DistinctAt xs = (i j : ℕ) → i < length xs → j < length xs → get_or xs i 0 ≡ get_or xs j 0 → i ≡ j

-- Different numbers are different by index.
pub distinct-get_or : (xs : List ℕ) → distinct xs ≡ true → DistinctAt xs
distinct-get_or [] d i j li lj e = absurd (omega arith)
distinct-get_or (x ∷ xs) d zero zero li lj e = refl
distinct-get_or (x ∷ xs) d zero (suc j) li lj e = cc (distinct_head x xs d, get_or-occurs xs j (omega arith))
distinct-get_or (x ∷ xs) d (suc i) zero li lj e = cc (distinct_head x xs d, get_or-occurs xs i (omega arith))
distinct-get_or (x ∷ xs) d (suc i) (suc j) li lj e =
    ap suc (distinct-get_or xs (distinct_tail x xs d) i j (omega arith) (omega arith) e)

-- Numbers that are different by index are different.
pub get_or-distinct : (xs : List ℕ) → DistinctAt xs → distinct xs ≡ true
unfolding distinct
get_or-distinct [] h = refl
get_or-distinct (x ∷ xs) h =
    let rest : DistinctAt xs = λ i j li lj e. omega (arith, h (suc i) (suc j) (omega arith) (omega arith) e) in
    distinct_cons x xs (not-eq-not.0 again) (get_or-distinct xs rest)
  where
    again : occurs x xs ≡ true → ⊥
    again t =
        let at = occurs-get_or xs x t in
        omega (arith, h zero (suc at.index) (omega arith) (omega arith) (sym at.value))

-- The numbers below n, the greatest first.
pub numbers_below : ℕ → List ℕ
numbers_below zero = []
numbers_below (suc n) = n ∷ numbers_below n

pub numbers_below-length : (n : ℕ) → length (numbers_below n) ≡ n
unfolding numbers_below
numbers_below-length zero = refl
numbers_below-length (suc n) = ap suc (numbers_below-length n)

pub numbers_below-occurs : (n v : ℕ) → v < n → occurs v (numbers_below n) ≡ true
unfolding numbers_below
numbers_below-occurs zero v lt = absurd (omega arith)
numbers_below-occurs (suc n) v lt = go (ltb v n) refl (numbers_below-occurs n v)
  where
    go : (b : Bool) → ltb v n ≡ b → (v < n → occurs v (numbers_below n) ≡ true)
        → occurs v (n ∷ numbers_below n) ≡ true
    go true e rest = occurs-there v n (numbers_below n) (rest (ltb-true v n e))
    go false e rest =
        let same : v ≡ n = omega (arith, ltb-false v n e) in
        rw same (occurs-here n (numbers_below n))

-- n different numbers below n: each number below n is among them.
pub onto : (n : ℕ) (xs : List ℕ) → length xs ≡ n → distinct xs ≡ true
    → ((x : ℕ) → occurs x xs ≡ true → x < n) → (v : ℕ) → v < n → occurs v xs ≡ true
onto n xs l d below v lt = go (occurs v xs) refl
  where
    inside : (x : ℕ) → occurs x (v ∷ xs) ≡ true → occurs x (numbers_below n) ≡ true
    inside x t = at (occurs-cases x v xs t)
      where
        at : (x ≡ v) ⊎ (occurs x xs ≡ true) → occurs x (numbers_below n) ≡ true
        at (inl e) = numbers_below-occurs n x (omega arith)
        at (inr t) = numbers_below-occurs n x (below x t)

    go : (b : Bool) → occurs v xs ≡ b → occurs v xs ≡ true
    go true e = e
    go false e =
        let few = pigeonhole (v ∷ xs) (numbers_below n) (distinct_cons v xs e d) inside in
        absurd (omega (arith, numbers_below-length n))
