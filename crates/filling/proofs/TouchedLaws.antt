-- The early drop: keys that something fills touch at least as many places as they are, however many places there are; and no more
-- than there are. So a seed under which n tags touch another number than n of their n places can be dropped, and none that
-- something fills is. Assumes nothing.
use Rattle.std.specs.Prelude.{ℕ, zero, suc, ◌≤◌, ◌<◌, ◌≡◌, refl, ◌⊎◌, Bool, true, false, cond, List, [], ◌∷◌, length, get_or}
use Rattle.std.proofs.Common.{sym, inl, inr, ⊎_elim, true≢false, arith}
use Rattle.std.proofs.Math.Bool.{not-eq-not}
use Rattle.lists.specs.Occurs.{occurs, distinct}
use Rattle.lists.proofs.OccursLaws.{occurs-here, occurs-there, occurs-cases, occurs-not, distinct_cons, pigeonhole, numbers_below}
use Rattle.lists.proofs.OccursLaws.{numbers_below-length, numbers_below-occurs}
use Rattle.filling.specs.Filling.{Key, place_by, Fills, EachCandidate}
use Rattle.filling.proofs.FillingLaws.{fills-touches}
use Rattle.filling.specs.Touched.{candidate_places, once, touched}

-- Each candidate place is among them.
pub candidate_places-occurs : (keys : List Key) → EachCandidate (λ x. occurs x (candidate_places keys) ≡ true) keys
unfolding candidate_places
candidate_places-occurs [] i lt choice = absurd (omega arith)
candidate_places-occurs (key ∷ keys) zero lt false = occurs-here (place_by false key) (place_by true key ∷ candidate_places keys)
candidate_places-occurs (key ∷ keys) zero lt true =
    let x = place_by true key in
    occurs-there x (place_by false key) (x ∷ candidate_places keys) (occurs-here x (candidate_places keys))
candidate_places-occurs (key ∷ keys) (suc i) lt choice =
    let x = place_by choice (get_or keys i (0, 0)) in
    occurs-there x (place_by false key) (place_by true key ∷ candidate_places keys)
    (occurs-there x (place_by true key) (candidate_places keys) (candidate_places-occurs keys i (omega arith) choice))

-- What occurs in a list occurs in it taken once.
pub once-occurs : (xs : List ℕ) (y : ℕ) → occurs y xs ≡ true → occurs y (once xs) ≡ true
unfolding once
once-occurs [] y t = t
once-occurs (x ∷ xs) y t = go (occurs x xs) refl (occurs-cases y x xs t) (once-occurs xs y)
  where
    go : (b : Bool) → occurs x xs ≡ b → (y ≡ x) ⊎ (occurs y xs ≡ true) → (occurs y xs ≡ true → occurs y (once xs) ≡ true)
        → occurs y (cond b (once xs) (x ∷ once xs)) ≡ true
    go true e (inl same) rest = rest (rw same e)
    go true e (inr t) rest = rest t
    go false e (inl same) rest = rw same (occurs-here x (once xs))
    go false e (inr t) rest = occurs-there y x (once xs) (rest t)

-- What occurs in it occurs in the list.
pub occurs-once : (xs : List ℕ) (y : ℕ) → occurs y (once xs) ≡ true → occurs y xs ≡ true
unfolding once
occurs-once [] y t = t
occurs-once (x ∷ xs) y t = go (occurs x xs) t (occurs-once xs y)
  where
    go : (b : Bool) → occurs y (cond b (once xs) (x ∷ once xs)) ≡ true → (occurs y (once xs) ≡ true → occurs y xs ≡ true)
        → occurs y (x ∷ xs) ≡ true
    go true t rest = occurs-there y x xs (rest t)
    go false t rest = ⊎_elim (λ same. rw same (occurs-here x xs)) (λ t. occurs-there y x xs (rest t)) (occurs-cases y x (once xs) t)

-- A list taken once has no number twice.
pub once-distinct : (xs : List ℕ) → distinct (once xs) ≡ true
unfolding once distinct
once-distinct [] = refl
once-distinct (x ∷ xs) = go (occurs x xs) refl (once-distinct xs)
  where
    go : (b : Bool) → occurs x xs ≡ b → distinct (once xs) ≡ true → distinct (cond b (once xs) (x ∷ once xs)) ≡ true
    go true e d = d
    go false e d = distinct_cons x (once xs) (not-eq-not.0 (λ t. occurs-not x xs (occurs-once xs x t) e)) d

-- Candidate places are all so where each is.
pub candidate_places-each : (P : ℕ → Type 0) (keys : List Key) → EachCandidate P keys
    → (x : ℕ) → occurs x (candidate_places keys) ≡ true → P x
unfolding candidate_places occurs
candidate_places-each P [] each x t = absurd (true≢false (sym t))
candidate_places-each P (key ∷ keys) each x t =
    let rest = candidate_places-each P keys (λ i lt choice. each (suc i) (omega arith) choice) x in
    let is_place : (choice : Bool) → x ≡ place_by choice key → P x = λ choice same. rw same (each zero (omega arith) choice) in
    ⊎_elim (is_place false) (λ t. ⊎_elim (is_place true) rest (occurs-cases x (place_by true key) (candidate_places keys) t))
    (occurs-cases x (place_by false key) (place_by true key ∷ candidate_places keys) t)

-- "the number of places touched must equal n", the half that holds for any number of places: k keys that some sequence fills
-- touch at least k places.
pub fills-touched : (keys : List Key) (cs : List Bool) → Fills keys cs → length keys ≤ touched keys
unfolding touched
fills-touched keys cs f =
    fills-touches keys cs (once (candidate_places keys)) f
    (λ i lt choice. once-occurs (candidate_places keys) _ (candidate_places-occurs keys i lt choice))

-- The other half: no more places are touched than there are.
pub touched-below : (n : ℕ) (keys : List Key) → EachCandidate (λ x. x < n) keys → touched keys ≤ n
unfolding touched
touched-below n keys below =
    let xs = candidate_places keys in
    let inside : (x : ℕ) → occurs x (once xs) ≡ true → occurs x (numbers_below n) ≡ true =
    λ x t. numbers_below-occurs n x (candidate_places-each (λ x. x < n) keys below x (occurs-once xs x t)) in
    omega (arith, pigeonhole (once xs) (numbers_below n) (once-distinct xs) inside, numbers_below-length n)
