-- The chosen places by index, and what a sequence that fills needs of the places. Assumes nothing.
use Rattle.std.specs.Prelude.{ℕ, zero, suc, ◌≤◌, ◌<◌, ◌≡◌, refl, Bool, true, false, List, [], ◌∷◌, length, get_or}
use Rattle.std.proofs.Common.{sym, ◌∙◌, ap, arith}
use Rattle.lists.specs.Occurs.{occurs}
use Rattle.lists.proofs.OccursLaws.{pigeonhole, occurs-get_or, distinct-get_or, get_or-distinct, onto}
use Rattle.filling.specs.Filling.{Key, chosen, Fills, EachCandidate}
use Rattle.filling.specs.Separate.{by_index, key_place, Apart}

-- Only the places that keys take count for whether any two take one.
pub separate-same : {a b : ℕ → ℕ} {n : ℕ} → ((i : ℕ) → i < n → a i ≡ b i)
    → ((i j : ℕ) → i < n → j < n → a i ≡ a j → i ≡ j) → (i j : ℕ) → i < n → j < n → b i ≡ b j → i ≡ j
separate-same same apart i j li lj e = apart i j li lj (same i li ∙ e ∙ sym (same j lj))

-- One place is chosen for each key.
pub chosen-length : (keys : List Key) (cs : List Bool) → length cs ≡ length keys → length (chosen keys cs) ≡ length keys
unfolding chosen
chosen-length [] cs l = refl
chosen-length (key ∷ keys) [] l = absurd (omega arith)
chosen-length (key ∷ keys) (c ∷ cs) l = ap suc (chosen-length keys cs (omega arith))

-- The chosen place with index i is the one that choice i takes of key i.
pub chosen_at : (keys : List Key) (cs : List Bool) (i : ℕ) → length cs ≡ length keys → i < length keys
    → get_or (chosen keys cs) i 0 ≡ key_place keys i (by_index cs i)
unfolding chosen
chosen_at [] cs i l lt = absurd (omega arith)
chosen_at (key ∷ keys) [] i l lt = absurd (omega arith)
chosen_at (key ∷ keys) (c ∷ cs) zero l lt = refl
chosen_at (key ∷ keys) (c ∷ cs) (suc i) l lt = chosen_at keys cs i (omega arith) (omega arith)

-- A chosen place is a candidate place.
pub chosen-candidate : (P : ℕ → Type 0) (keys : List Key) (cs : List Bool) → length cs ≡ length keys → EachCandidate P keys
    → (x : ℕ) → occurs x (chosen keys cs) ≡ true → P x
chosen-candidate P keys cs l each x t =
    let at = occurs-get_or (chosen keys cs) x t in
    let lt : at.index < length keys = omega (arith, chosen-length keys cs l) in
    rw (← at.value, chosen_at keys cs at.index l lt) (each at.index lt (get_or cs at.index false))

-- Under a sequence that fills, no two keys take one place.
pub fills-apart : (keys : List Key) (cs : List Bool) → Fills keys cs → Apart keys (length keys) cs
fills-apart keys cs f =
    separate-same (λ i lt. chosen_at keys cs i f.whole lt)
    (rw (chosen-length keys cs f.whole) at (distinct-get_or (chosen keys cs) f.apart))

-- A sequence with a choice for each key under which no two keys take one place fills.
pub apart-fills : (keys : List Key) (cs : List Bool) → length cs ≡ length keys → Apart keys (length keys) cs → Fills keys cs
apart-fills keys cs l apart = record {
  whole = l;
  apart =
      get_or-distinct (chosen keys cs)
      (rw (chosen-length keys cs l) (separate-same (λ i lt. sym (chosen_at keys cs i l lt)) apart));
}

-- k keys that some sequence fills have at least k candidate places, however many places there are.
pub fills-touches : (keys : List Key) (cs : List Bool) (us : List ℕ) → Fills keys cs
    → EachCandidate (λ x. occurs x us ≡ true) keys → length keys ≤ length us
fills-touches keys cs us f each =
    let inside = chosen-candidate (λ x. occurs x us ≡ true) keys cs f.whole each in
    omega (arith, chosen-length keys cs f.whole, pigeonhole (chosen keys cs) us f.apart inside)

-- Nothing fills n keys on n places where some place is no key's candidate.
pub unreached : (n : ℕ) (keys : List Key) (cs : List Bool) → Fills keys cs → length keys ≡ n → EachCandidate (λ x. x < n) keys
    → (v : ℕ) → v < n → EachCandidate (λ x. x ≡ v → ⊥) keys → ⊥
unreached n keys cs f l each v lt other =
    let below = chosen-candidate (λ x. x < n) keys cs f.whole each in
    let reached = onto n (chosen keys cs) (chosen-length keys cs f.whole ∙ l) f.apart below v lt in
    chosen-candidate (λ x. x ≡ v → ⊥) keys cs f.whole other v reached refl
