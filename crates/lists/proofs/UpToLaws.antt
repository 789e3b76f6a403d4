-- How long such a list is, what stands at an index, and how it grows; and lists put one after the other. Assumes nothing.
use Rattle.std.specs.Prelude.{◌≡◌, refl, ℕ, zero, suc, ◌+◌, ◌<◌, length, get_or}
use Rattle.std.proofs.Common.{ap, zero-add, suc-add, arith}
use mathlib.Core.List.{List, [], ◌∷◌, ◌++◌, flatten, append-nil, append_assoc}
use Rattle.lists.specs.UpTo.{up_to}

-- Lists put one after the other, in two parts.
pub flatten-append : (ks ls : List (List ℕ)) → flatten (ks ++ ls) ≡ flatten ks ++ flatten ls
unfolding flatten
flatten-append [] ls = refl
flatten-append (k ∷ ks) ls = rw (flatten-append ks ls, append_assoc k (flatten ks) (flatten ls))

-- `up_to` has as many as are asked for, and f k at index k.
pub up_to-length : {A : Type 0} (count : ℕ) (f : ℕ → A) → length (up_to count f) ≡ count
unfolding up_to
up_to-length zero f = refl
up_to-length (suc count) f = ap suc (up_to-length count (λ k. f (suc k)))

pub up_to-at : {A : Type 0} (count : ℕ) (f : ℕ → A) (d : A) (k : ℕ) → k < count → get_or (up_to count f) k d ≡ f k
unfolding up_to
up_to-at zero f d k lt = absurd (omega arith)
up_to-at (suc count) f d zero lt = refl
up_to-at (suc count) f d (suc k) lt = up_to-at count (λ k. f (suc k)) d k (omega arith)

-- One more stands at the end, also where lists are put one after the other.
pub up_to-more : {A : Type 0} (count : ℕ) (f : ℕ → A) → up_to (suc count) f ≡ up_to count f ++ (f count ∷ [])
unfolding up_to
up_to-more zero f = refl
up_to-more (suc count) f = ap (λ xs. f 0 ∷ xs) (up_to-more count (λ k. f (suc k)))

-- One count after another.
pub up_to-append : {A : Type 0} (count more : ℕ) (f : ℕ → A) → up_to (count + more) f ≡ up_to count f ++ up_to more (λ k. f (count + k))
unfolding up_to
up_to-append zero more f = simp zero-add
up_to-append (suc count) more f = simp suc-add (ap (λ xs. f 0 ∷ xs) (up_to-append count more (λ k. f (suc k))))

pub flatten-more : (count : ℕ) (f : ℕ → List ℕ) → flatten (up_to (suc count) f) ≡ flatten (up_to count f) ++ f count
unfolding flatten
flatten-more count f = rw (up_to-more count f, flatten-append (up_to count f) (f count ∷ []), append-nil (f count))

-- Functions that agree below the count give one list.
pub up_to-agree : {A : Type 0} (count : ℕ) (f h : ℕ → A) → ((k : ℕ) → k < count → f k ≡ h k) → up_to count f ≡ up_to count h
unfolding up_to
up_to-agree zero f h agree = refl
up_to-agree (suc count) f h agree =
    rw (agree 0 (omega arith), up_to-agree count (λ k. f (suc k)) (λ k. h (suc k)) (λ k lt. agree (suc k) (omega arith)))
