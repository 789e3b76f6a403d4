-- std's `position` of a list answers as `first` does, of the whole list and of a part of it. Assumes nothing.
use Rattle.std.specs.Prelude.{ℕ, ◌+◌, ◌-◌, ◌≤◌, ◌<◌, ◌≡◌, Bool, List, length, take, drop, Option, None, Some}
use Rattle.std.specs.List.{position}
use Rattle.std.proofs.Common.{sym, ◌∙◌, arith, get_or, lt-ltb, le-ltb, length-drop, length-take-le}
use Rattle.std.proofs.lemmas.List.{get_or-take, get_or-drop}
use Rattle.std.proofs.lemmas.List.Sums.{position_or_len_is}
use Rattle.lists.specs.First.{first}
use Rattle.lists.proofs.FirstLaws.{First, first-is}

-- A test that says of each index what the predicate says of the element there finds the same.
pub position-first : {X : Type 0} (p : X → Bool) (test : ℕ → Bool) (xs : List X) (d : X)
    → ((k : ℕ) → k < length xs → test k ≡ p (get_or xs k d)) → position p xs ≡ first test (length xs)
position-first p test xs d same = go (first test (length xs)) (first-is test (length xs))
  where
    go : (o : Option ℕ) → First test (length xs) o → position p xs ≡ o
    go None never =
        let end = position_or_len_is p xs (length xs) d (omega arith) (λ k lt. sym (same k lt) ∙ never k lt)
        (λ lt. absurd (omega arith)) in
        rw (end, le-ltb (length xs) (length xs) (omega arith))
    go (Some k) at =
        let found = position_or_len_is p xs k d (omega (arith, at.below)) (λ j lt. sym (same j (omega (arith, at.below))) ∙ at.lowest j lt)
        (λ lt. sym (same k lt) ∙ at.holds) in
        rw (found, lt-ltb k (length xs) at.below)

-- The same of the first n elements, and of those from a to b.
pub position-first-taken : {X : Type 0} (p : X → Bool) (test : ℕ → Bool) (xs : List X) (n : ℕ) (d : X) → n ≤ length xs
    → ((k : ℕ) → k < n → test k ≡ p (get_or xs k d)) → position p (take n xs) ≡ first test n
position-first-taken p test xs n d room same =
    let long = length-take-le n xs room in
    let at : (k : ℕ) → k < length (take n xs) → test k ≡ p (get_or (take n xs) k d) =
    λ k lt. let below : k < n = omega arith in same k below ∙ rw (get_or-take n xs k d below) in
    position-first p test (take n xs) d at ∙ rw long

pub position-first-range : {X : Type 0} (p : X → Bool) (test : ℕ → Bool) (xs : List X) (a b : ℕ) (d : X) → b ≤ length xs
    → ((k : ℕ) → k < b - a → test k ≡ p (get_or xs (a + k) d)) → position p (take (b - a) (drop a xs)) ≡ first test (b - a)
position-first-range p test xs a b d room same =
    position-first-taken p test (drop a xs) (b - a) d (rw length-drop (omega arith)) (λ k lt. same k lt ∙ rw get_or-drop)
