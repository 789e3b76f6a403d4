-- What passes a test, as a list: as long as the test is passed often; and any list that has each of it once is as long. Assumes nothing.
use Rattle.std.specs.Prelude.{ℕ, zero, suc, ◌<◌, ◌≡◌, refl, ◌↔◌, ◌⊎◌, Bool, true, false, cond, List, [], ◌∷◌, map, ltb, length, get_or}
use Rattle.std.proofs.Common.{sym, ◌∙◌, ap, inl, inr, true≢false, arith, ltb-true, ltb-false}
use Rattle.std.proofs.Math.Bool.{not-eq-not}
use Rattle.std.proofs.lemmas.Bool.{false≢true}
use Rattle.std.proofs.lemmas.List.{length-map}
use Rattle.lists.specs.UpTo.{up_to}
use Rattle.lists.specs.Occurs.{occurs, distinct}
use Rattle.lists.proofs.OccursLaws.{occurs-here, occurs-there, occurs-cases, distinct_cons, pigeonhole, get_or-occurs, occurs-get_or}
use Rattle.graph.specs.HowMany.{how_many}
use Rattle.graph.proofs.HowManyLaws.{one-true, one-false, how_many-more, how_many-empty}
use Rattle.graph.specs.Parts.{points}

-- The numbers below n that pass a test, the greatest first.
unfoldable pub passing : (ℕ → Bool) → ℕ → List ℕ
passing test zero = []
passing test (suc n) = cond (test n) (n ∷ passing test n) (passing test n)

pub passing-length : (test : ℕ → Bool) (n : ℕ) → length (passing test n) ≡ how_many test (points n)
unfolding passing
passing-length test zero = sym (how_many-empty test (λ v. v))
passing-length test (suc n) = go (test n) refl (passing-length test n)
  where
    go : (b : Bool) → test n ≡ b → length (passing test n) ≡ how_many test (points n)
        → length (cond b (n ∷ passing test n) (passing test n)) ≡ how_many test (points (suc n))
    go true e rest = omega (arith, how_many-more test (λ v. v) n, one-true e)
    go false e rest = omega (arith, how_many-more test (λ v. v) n, one-false e)

-- Each number in it is below n and passes,
pub passing-passes : (test : ℕ → Bool) (n v : ℕ) → occurs v (passing test n) ≡ true → (v < n) × (test v ≡ true)
unfolding passing occurs
passing-passes test zero v t = absurd (true≢false (sym t))
passing-passes test (suc n) v t = go (test n) refl t (passing-passes test n v)
  where
    go : (b : Bool) → test n ≡ b → occurs v (cond b (n ∷ passing test n) (passing test n)) ≡ true
        → (occurs v (passing test n) ≡ true → (v < n) × (test v ≡ true)) → (v < suc n) × (test v ≡ true)
    go true e t rest = at (occurs-cases v n (passing test n) t)
      where
        at : (v ≡ n) ⊎ (occurs v (passing test n) ≡ true) → (v < suc n) × (test v ≡ true)
        at (inl same) = (omega arith, rw same e)
        at (inr t) = let (lt, passes) = rest t in (omega arith, passes)
    go false e t rest = let (lt, passes) = rest t in (omega arith, passes)

-- each such number is in it,
pub passing-has : (test : ℕ → Bool) (n v : ℕ) → v < n → test v ≡ true → occurs v (passing test n) ≡ true
unfolding passing
passing-has test zero v lt passes = absurd (omega arith)
passing-has test (suc n) v lt passes = go (test n) refl (ltb v n) refl (passing-has test n v)
  where
    go : (b : Bool) → test n ≡ b → (c : Bool) → ltb v n ≡ c → (v < n → test v ≡ true → occurs v (passing test n) ≡ true)
        → occurs v (cond b (n ∷ passing test n) (passing test n)) ≡ true
    go true e true l rest = occurs-there v n (passing test n) (rest (ltb-true v n l) passes)
    go false e true l rest = rest (ltb-true v n l) passes
    go true e false l rest =
        let same : v ≡ n = omega (arith, ltb-false v n l) in
        rw same (occurs-here n (passing test n))
    go false e false l rest =
        let same : v ≡ n = omega (arith, ltb-false v n l) in
        absurd (false≢true (sym e ∙ ap test (sym same) ∙ passes))

-- and no number comes twice.
pub passing-distinct : (test : ℕ → Bool) (n : ℕ) → distinct (passing test n) ≡ true
unfolding passing distinct
passing-distinct test zero = refl
passing-distinct test (suc n) = go (test n) (passing-distinct test n)
  where
    go : (b : Bool) → distinct (passing test n) ≡ true → distinct (cond b (n ∷ passing test n) (passing test n)) ≡ true
    go true rest =
        distinct_cons n (passing test n) (not-eq-not.0 (λ t. let (lt, passes) = passing-passes test n n t in omega arith)) rest
    go false rest = rest

-- A list of different numbers that has those below n that pass a test, and no others, is as long as the test is passed often.
pub listed-length : (test : ℕ → Bool) (n : ℕ) (xs : List ℕ) → distinct xs ≡ true
    → ((v : ℕ) → (occurs v xs ≡ true) ↔ ((v < n) × (test v ≡ true))) → length xs ≡ how_many test (points n)
listed-length test n xs d are =
    let ys = passing test n in
    let there = pigeonhole xs ys d (λ v t. let (lt, passes) = (are v).0 t in passing-has test n v lt passes) in
    let back = pigeonhole ys xs (passing-distinct test n) (λ v t. (are v).1 (passing-passes test n v t)) in
    omega (arith, passing-length test n)

-- How often a test is passed by what a list has, by its indices.
how_many-indexed : {A : Type 0} (test : A → Bool) (n : ℕ) (f : ℕ → A) → how_many test (up_to n f) ≡ how_many (λ i. test (f i)) (points n)
how_many-indexed test zero f = how_many-empty test f ∙ sym (how_many-empty (λ i. test (f i)) (λ i. i))
how_many-indexed test (suc n) f =
    omega (arith, how_many-more test f n, how_many-more (λ i. test (f i)) (λ i. i) n, how_many-indexed test n f)

pub how_many-by-index : {A : Type 0} (test : A → Bool) (d : A) (xs : List A)
    → how_many (λ i. test (get_or xs i d)) (points (length xs)) ≡ how_many test xs
unfolding how_many up_to
how_many-by-index test d [] = refl
how_many-by-index test d (x ∷ xs) =
    let later : ℕ → Bool = λ i. test (get_or (x ∷ xs) i d) in
    omega (arith, how_many-indexed later (length xs) suc, how_many-by-index test d xs)

-- What passes is something that passes.
pub how_many-some : {A : Type 0} (test : A → Bool) (d : A) (xs : List A) → 0 < how_many test xs
    → (i : ℕ) × (i < length xs) × (test (get_or xs i d) ≡ true)
unfolding how_many
how_many-some test d [] some = absurd (omega arith)
how_many-some test d (x ∷ xs) some = go (test x) refl (how_many-some test d xs)
  where
    go : (b : Bool) → test x ≡ b → (0 < how_many test xs → (i : ℕ) × (i < length xs) × (test (get_or xs i d) ≡ true))
        → (i : ℕ) × (i < suc (length xs)) × (test (get_or (x ∷ xs) i d) ≡ true)
    go true e rest = (zero, omega arith, e)
    go false e rest = let (i, lt, passes) = rest (omega (arith, one-false e)) in (suc i, omega arith, passes)

-- A function of each number of a list: by index, and of what occurs.
pub map_at : (f : ℕ → ℕ) (xs : List ℕ) (i : ℕ) → i < length xs → get_or (map f xs) i 0 ≡ f (get_or xs i 0)
map_at f [] i lt = absurd (omega arith)
map_at f (x ∷ xs) zero lt = refl
map_at f (x ∷ xs) (suc i) lt = map_at f xs i (omega arith)

pub map-occurs : (f : ℕ → ℕ) (xs : List ℕ) (x : ℕ) → occurs x xs ≡ true → occurs (f x) (map f xs) ≡ true
map-occurs f xs x t =
    let at = occurs-get_or xs x t in
    let lt : at.index < length (map f xs) = omega (arith, at.inside, length-map xs f) in
    rw (map_at f xs at.index at.inside, at.value) at (get_or-occurs (map f xs) at.index lt)
