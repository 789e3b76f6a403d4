-- n numbers below n are all different exactly where each number below n stands among them an odd number of times. Assumes nothing.
use Rattle.std.specs.Prelude.{ℕ, suc, ◌+◌, ◌%◌, ◌<◌, ◌≡◌, refl, ◌⊎◌, Bool, true, false, cond, ◌||◌, List, [], ◌∷◌, eqb, length, get_or}
use Rattle.std.proofs.Common.{sym, ◌∙◌, inl, inr, true≢false, arith, eqb-true}
use Rattle.std.proofs.Math.Bool.{not-eq-not}
use Rattle.lists.specs.Occurs.{occurs, distinct}
use Rattle.lists.proofs.OccursLaws.{occurs-here, occurs-there, occurs-cases, occurs-get_or, get_or-distinct, distinct_head, distinct_tail}
use Rattle.lists.proofs.OccursLaws.{distinct_cons, pigeonhole, onto}
use Rattle.lists.specs.UpTo.{up_to}
use Rattle.lists.proofs.UpToLaws.{up_to-length, up_to-at}
use Rattle.parity.specs.Times.{times_in}

-- A number that does not occur stands there 0 times.
times-absent : (v : ℕ) (xs : List ℕ) → occurs v xs ≡ false → times_in v xs ≡ 0
unfolding times_in occurs
times-absent v [] n = refl
times-absent v (x ∷ xs) n = go (eqb v x) n (times-absent v xs)
  where
    go : (b : Bool) → (b || occurs v xs) ≡ false → (occurs v xs ≡ false → times_in v xs ≡ 0) → cond b 1 0 + times_in v xs ≡ 0
    go true n rest = cc
    go false n rest = omega (arith, rest n)

-- Of different numbers, one that occurs stands there once.
times-distinct : (v : ℕ) (xs : List ℕ) → distinct xs ≡ true → occurs v xs ≡ true → times_in v xs ≡ 1
unfolding times_in occurs
times-distinct v [] d t = cc
times-distinct v (x ∷ xs) d t = go (eqb v x) refl t (times-distinct v xs (distinct_tail x xs d))
  where
    go : (b : Bool) → eqb v x ≡ b → (b || occurs v xs) ≡ true → (occurs v xs ≡ true → times_in v xs ≡ 1)
        → cond b 1 0 + times_in v xs ≡ 1
    go true e t rest = omega (arith, times-absent v xs (rw (← eqb-true v x e) at (distinct_head x xs d)))
    go false e t rest = omega (arith, rest t)

-- A number that stands in a list an odd number of times occurs.
odd-occurs : (v : ℕ) (xs : List ℕ) → times_in v xs % 2 ≡ 1 → occurs v xs ≡ true
odd-occurs v xs odd = not-eq-not.0 (λ n. omega (arith, times-absent v xs n))

-- A list with one number fewer in which everything still occurs.
record Fewer (xs : List ℕ) : Type 0 where
  rest : List ℕ
  fewer : suc (length rest) ≡ length xs
  kept : (z : ℕ) → occurs z xs ≡ true → occurs z rest ≡ true

-- Where numbers are not all different there is one.
repeated-fewer : (xs : List ℕ) → distinct xs ≡ false → Fewer xs
unfolding distinct
repeated-fewer [] d = absurd (true≢false d)
repeated-fewer (x ∷ xs) d = go (occurs x xs) refl (distinct xs) refl (repeated-fewer xs)
  where
    go : (b : Bool) → occurs x xs ≡ b → (c : Bool) → distinct xs ≡ c → (distinct xs ≡ false → Fewer xs) → Fewer (x ∷ xs)
    go true e c f rest = record { rest = xs; fewer = refl; kept = λ z t. again z (occurs-cases z x xs t) }
      where
        again : (z : ℕ) → (z ≡ x) ⊎ (occurs z xs ≡ true) → occurs z xs ≡ true
        again z (inl same) = rw same e
        again z (inr t) = t
    go false e true f rest = absurd (true≢false (sym (distinct_cons x xs e f) ∙ d))
    go false e false f rest =
        let less = rest f in
        record { rest = x ∷ less.rest; fewer = omega (arith, less.fewer); kept = λ z t. still z (occurs-cases z x xs t) }
      where
        still : (z : ℕ) → (z ≡ x) ⊎ (occurs z xs ≡ true) → occurs z (x ∷ (rest f).rest) ≡ true
        still z (inl same) = rw same (occurs-here x (rest f).rest)
        still z (inr t) = occurs-there z x (rest f).rest ((rest f).kept z t)

-- n different numbers below n: each number below n stands among them an odd number of times, which is once.
pub odd-of-distinct : (n : ℕ) (xs : List ℕ) → length xs ≡ n → ((x : ℕ) → occurs x xs ≡ true → x < n) → distinct xs ≡ true
    → (v : ℕ) → v < n → times_in v xs % 2 ≡ 1
odd-of-distinct n xs l below d v lt = omega (arith, times-distinct v xs d (onto n xs l d below v lt))

-- n numbers, with each number below n an odd number of times among them: they are different, since every number below n occurs.
pub distinct-of-odd : (n : ℕ) (xs : List ℕ) → length xs ≡ n → ((v : ℕ) → v < n → times_in v xs % 2 ≡ 1) → distinct xs ≡ true
distinct-of-odd n xs l odd = not-eq-not.0 (λ d. few (repeated-fewer xs d))
  where
    all : List ℕ
    all = up_to n (λ k. k)

    all-distinct : distinct all ≡ true
    all-distinct = get_or-distinct all (λ i j li lj e. sym (at i li) ∙ e ∙ at j lj)
      where
        at : (i : ℕ) → i < length all → get_or all i 0 ≡ i
        at i li = up_to-at n (λ k. k) 0 i (omega (arith, up_to-length n (λ k. k)))

    few : Fewer xs → ⊥
    few less = omega (arith, pigeonhole all less.rest all-distinct inside, up_to-length n (λ k. k), less.fewer)
      where
        inside : (z : ℕ) → occurs z all ≡ true → occurs z less.rest ≡ true
        inside z t =
            let at = occurs-get_or all z t in
            let lt : at.index < n = omega (arith, at.inside, up_to-length n (λ k. k)) in
            let same : at.index ≡ z = sym (up_to-at n (λ k. k) 0 at.index lt) ∙ at.value in
            less.kept z (odd-occurs z xs (odd z (omega arith)))
