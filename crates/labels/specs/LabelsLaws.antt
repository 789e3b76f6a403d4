-- The labels of the places in an array: at first each its own, and what one key more does to them. Assumes nothing.
use Rattle.std.specs.Prelude.{ℕ, zero, suc, ◌+◌, ◌-◌, ◌≤◌, ◌<◌, ◌≡◌, refl, true, false}
use Rattle.std.specs.Prelude.{List, [], ◌∷◌, ◌++◌, map, length, get_or, set, take, drop}
use Rattle.std.proofs.Common.{◌∙◌, ap, append_assoc, append-nil, add-zero, add-one, arith}
use Rattle.std.proofs.Common.{drop-cons, take-suc, length-take-le, get_or-append-add, get_or-drop}
use Rattle.std.proofs.lemmas.List.{map-append, length-map}
use Rattle.std.proofs.Math.Seq.{drop-length, take-length}
use Rattle.lists.specs.UpTo.{up_to}
use Rattle.lists.proofs.UpToLaws.{up_to-length, up_to-at, up_to-more}
use Rattle.lists.proofs.WrittenLaws.{written-front}
use Rattle.filling.specs.Filling.{Key}
use Rattle.filling.specs.Separate.{key_place}
use Rattle.graph.specs.Label.{merged, label, labels_of}

-- As many as places, each at its place.
pub labels_length : (n : ℕ) (keys : List Key) → length (labels_of n keys) ≡ n
unfolding labels_of
labels_length n keys = up_to-length n (label keys)

pub labels_at : (n : ℕ) (keys : List Key) (v : ℕ) → v < n → get_or (labels_of n keys) v 0 ≡ label keys v
unfolding labels_of
labels_at n keys v lt = up_to-at n (label keys) 0 v lt

-- Without keys each place is its own label.
pub labels-none : (n : ℕ) (keys : List Key) → labels_of n (drop (length keys) keys) ≡ up_to n (λ v. v)
unfolding labels_of label
labels-none n keys = rw (drop-length keys)

-- A function of each.
map-up_to : (f : ℕ → ℕ) (n : ℕ) (g : ℕ → ℕ) → map f (up_to n g) ≡ up_to n (λ v. f (g v))
unfolding up_to
map-up_to f zero g = refl
map-up_to f (suc n) g = ap (λ xs. f (g 0) ∷ xs) (map-up_to f n (λ v. g (suc v)))

-- One key more, from the last to the first: the labels of its two places are merged.
pub labels-turn : (n : ℕ) (keys : List Key) (i : ℕ) → 0 < i → i ≤ length keys
    → key_place keys (i - 1) false < n → key_place keys (i - 1) true < n
    → (let labels = labels_of n (drop i keys) in
    map (merged (get_or labels (key_place keys (i - 1) false) 0) (get_or labels (key_place keys (i - 1) true) 0)) labels
    ≡ labels_of n (drop (i - 1) keys))
unfolding labels_of label
labels-turn n keys i positive upto first second =
    let rest = drop i keys in
    let next : suc (i - 1) ≡ i = omega arith in
    let front : drop (i - 1) keys ≡ get_or keys (i - 1) (0, 0) ∷ rest =
    drop-cons keys (i - 1) (0, 0) (omega arith) ∙ ap (λ (k : ℕ). get_or keys (i - 1) (0, 0) ∷ drop k keys) next in
    rw (front, up_to-at n (label rest) 0 _ first, up_to-at n (label rest) 0 _ second) (map-up_to _ n (label rest))

-- The first v cells are written, the others not yet: with the numbers from 0 on,
pub numbered-turn : (before : List ℕ) (v : ℕ) → v < length before
    → set (up_to v (λ u. u) ++ drop v before) v v ≡ up_to (v + 1) (λ u. u) ++ drop (v + 1) before
numbered-turn before v lt =
    let more : up_to (v + 1) (λ u. u) ≡ up_to v (λ u. u) ++ (v ∷ []) = ap (λ k. up_to k (λ u. u)) (add-one v) ∙ up_to-more v (λ u. u) in
    written-front (up_to v (λ u. u)) before v v (up_to-length v (λ u. u)) lt
    ∙ rw (more, append_assoc (up_to v (λ u. u)) (v ∷ []) (drop (v + 1) before))

pub numbered-done : (before : List ℕ) (v : ℕ) → v ≡ length before → up_to v (λ u. u) ++ drop v before ≡ up_to v (λ u. u)
numbered-done before v all = rw (ap (λ k. drop k before) all, drop-length before) (append-nil (up_to v (λ u. u)))

-- or with a function of what was there.
abbrev pub changed : (ℕ → ℕ) → List ℕ → ℕ → List ℕ
changed f before v = map f (take v before) ++ drop v before

module _ (f : ℕ → ℕ) (before : List ℕ) (v : ℕ) where
  front_length : v ≤ length before → length (map f (take v before)) ≡ v
  front_length le = length-map (take v before) f ∙ length-take-le v before le

  -- The next cell is as it was,
  pub changed-next : v < length before → get_or (changed f before v) v 0 ≡ get_or before v 0
  changed-next lt =
      let front = map f (take v before) in
      let size = front_length (omega arith) in
      (rw (size, add-zero v) at (get_or-append-add front (drop v before) 0 0)) ∙ (rw (add-zero v) at (get_or-drop v before 0 0))

  -- is changed,
  pub changed-turn : v < length before → set (changed f before v) v (f (get_or before v 0)) ≡ changed f before (v + 1)
  changed-turn lt =
      let front = map f (take v before) in
      let more : map f (take (v + 1) before) ≡ front ++ (f (get_or before v 0) ∷ []) =
      rw (add-one v, take-suc before v 0 lt) (map-append f (take v before) (get_or before v 0 ∷ [])) in
      written-front front before v (f (get_or before v 0)) (front_length (omega arith)) lt
      ∙ rw (more, append_assoc front (f (get_or before v 0) ∷ []) (drop (v + 1) before))

  -- and behind the last all are.
  pub changed-done : v ≡ length before → changed f before v ≡ map f before
  changed-done all = rw (all, take-length before, drop-length before) (append-nil (map f before))
