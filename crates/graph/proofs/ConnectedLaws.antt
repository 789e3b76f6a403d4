-- Two points are connected exactly where they have one label, and exactly where a walk leads from one to the other. Assumes nothing.
use Rattle.std.specs.Prelude.{ℕ, zero, suc, ◌<◌, ◌≡◌, refl, ◌≢◌, ◌↔◌, ◌⊎◌, Bool, true, false, not, ◌&&◌, ◌||◌, List, [], ◌∷◌, eqb, length}
use Rattle.std.proofs.Common.{sym, ◌∙◌, ap, inl, inr, arith, eqb-true, eq-eqb, ne_eqb}
use Rattle.std.proofs.Math.Bool.{and-false}
use Rattle.std.proofs.Math.Decide.{ℕ_discrete}
use Rattle.lists.proofs.BoolLaws.{both-of-and, either-of-or}
use Rattle.filling.specs.Filling.{Key, place_by}
use Rattle.filling.specs.Separate.{key_place}
use Rattle.graph.specs.Graph.{Edge, Connected, here, along, connected}
use Rattle.graph.specs.Label.{merged, label}

-- The label that is merged becomes the other, and any other label stays.
pub merged-from : (into from z : ℕ) → z ≡ from → merged into from z ≡ into
unfolding merged
merged-from into from z e = rw (eq-eqb z from e)

pub merged-other : (into from z : ℕ) → z ≢ from → merged into from z ≡ z
unfolding merged
merged-other into from z n = rw (ne_eqb z from n)

pub merged-into : (into from : ℕ) → merged into from into ≡ into
merged-into into from = go (ℕ_discrete into from)
  where
    go : Dec (into ≡ from) → merged into from into ≡ into
    go (yes e) = merged-from into from into e
    go (no n) = merged-other into from into n

-- Labels are one behind the merge if they were one before, or if they are the two that are merged.
merged-joins : (x y p q : ℕ) → (eqb p q || (eqb p x && eqb y q) || (eqb p y && eqb x q)) ≡ eqb (merged x y p) (merged x y q)
merged-joins x y p q = go (ℕ_discrete p y) (ℕ_discrete q y)
  where
    go : Dec (p ≡ y) → Dec (q ≡ y) → (eqb p q || (eqb p x && eqb y q) || (eqb p y && eqb x q)) ≡ eqb (merged x y p) (merged x y q)
    go (yes a) (yes b) =
        rw (merged-from x y p a, merged-from x y q b, eq-eqb p q (a ∙ sym b), eq-eqb x x refl)
    go (yes a) (no b) =
        rw (
          merged-from x y p a,
          merged-other x y q b,
          ne_eqb p q (λ e. b (sym e ∙ a)),
          ne_eqb y q (λ e. b (sym e)),
          and-false (eqb p x),
          eq-eqb p y a,
        )
    go (no a) (yes b) =
        rw (merged-other x y p a, merged-from x y q b, ne_eqb p q (λ e. a (e ∙ b)), eq-eqb y q (sym b), ne_eqb p y a) (each (eqb p x))
      where
        each : (s : Bool) → ((s && true) || false) ≡ s
        each true = refl
        each false = refl
    go (no a) (no b) =
        rw (merged-other x y p a, merged-other x y q b, ne_eqb y q (λ e. b (sym e)), ne_eqb p y a) (each (eqb p q) (eqb p x))
      where
        each : (s t : Bool) → (s || (t && false) || false) ≡ s
        each true t = refl
        each false true = refl
        each false false = refl

-- Connected is: of one label.
pub connected-label : (keys : List Key) (u v : ℕ) → connected keys u v ≡ eqb (label keys u) (label keys v)
unfolding connected label
connected-label [] u v = refl
connected-label (key ∷ keys) u v =
    let a = place_by false key in
    let b = place_by true key in
    rw (connected-label keys u v, connected-label keys u a, connected-label keys b v, connected-label keys u b, connected-label keys a v)
    (merged-joins (label keys a) (label keys b) (label keys u) (label keys v))

-- The two places of a key have one label,
pub key-label : (keys : List Key) (i : ℕ) → i < length keys → label keys (key_place keys i false) ≡ label keys (key_place keys i true)
unfolding label
key-label [] i lt = absurd (omega arith)
key-label (key ∷ keys) zero lt =
    let x = label keys (place_by false key) in
    let y = label keys (place_by true key) in
    merged-into x y ∙ sym (merged-from x y y refl)
key-label (key ∷ keys) (suc i) lt =
    ap (merged (label keys (place_by false key)) (label keys (place_by true key))) (key-label keys i (omega arith))

-- so an edge does not change the label,
edge-label : {keys : List Key} {u v : ℕ} → Edge keys u v → label keys u ≡ label keys v
edge-label {keys} {u} {v} e = go e.choice e.from e.to
  where
    go : (choice : Bool) → key_place keys e.key choice ≡ u → key_place keys e.key (not choice) ≡ v → label keys u ≡ label keys v
    go false from to = rw (← from, ← to) (key-label keys e.key e.inside)
    go true from to = rw (← from, ← to) (sym (key-label keys e.key e.inside))

-- and a walk does not.
pub walk-label : {keys : List Key} {u v : ℕ} → Connected keys u v → label keys u ≡ label keys v
walk-label (here v) = refl
walk-label (along e walk) = edge-label e ∙ walk-label walk

-- A walk along keys is one along more keys.
walk_more : {keys : List Key} (key : Key) {u v : ℕ} → Connected keys u v → Connected (key ∷ keys) u v
walk_more key (here v) = here v
walk_more key (along e walk) =
    along (record { key = suc e.key; inside = omega (arith, e.inside); choice = e.choice; from = e.from; to = e.to })
    (walk_more key walk)

-- One walk and then another.
walk-on : {keys : List Key} {u v w : ℕ} → Connected keys u v → Connected keys v w → Connected keys u w
walk-on (here v) walk = walk
walk-on (along e first) walk = along e (walk-on first walk)

-- The edge of the first key, either way.
first_edge : (key : Key) (keys : List Key) (choice : Bool) → Edge (key ∷ keys) (place_by choice key) (place_by (not choice) key)
first_edge key keys choice = record { key = zero; inside = omega arith; choice = choice; from = refl; to = refl }

-- A key leads from a point that walks without it reach to one from which they go on.
walk_through : (key : Key) (keys : List Key) (choice : Bool) {u v : ℕ} → Connected keys u (place_by choice key)
    → Connected keys (place_by (not choice) key) v → Connected (key ∷ keys) u v
walk_through key keys choice front back = walk-on (walk_more key front) (along (first_edge key keys choice) (walk_more key back))

-- Where they are connected, a walk leads from one to the other.
connected-walk : (keys : List Key) (u v : ℕ) → connected keys u v ≡ true → Connected keys u v
unfolding connected
connected-walk [] u v e = rw (eqb-true u v e) (here v)
connected-walk (key ∷ keys) u v e = go (either-of-or _ _ e) (connected-walk keys)
  where
    Walks : Type 0
    Walks = (u v : ℕ) → connected keys u v ≡ true → Connected keys u v

    through : (choice : Bool) → (connected keys u (place_by choice key) && connected keys (place_by (not choice) key) v) ≡ true → Walks
        → Connected (key ∷ keys) u v
    through choice e walks =
        let (front, back) = both-of-and _ _ e in
        walk_through key keys choice (walks u (place_by choice key) front) (walks (place_by (not choice) key) v back)

    before : (connected keys u v ≡ true) ⊎ ((connected keys u (place_by false key) && connected keys (place_by true key) v) ≡ true) → Walks
        → Connected (key ∷ keys) u v
    before (inl e) walks = walk_more key (walks u v e)
    before (inr e) walks = through false e walks

    go : ((connected keys u v || (connected keys u (place_by false key) && connected keys (place_by true key) v)) ≡ true)
        ⊎ ((connected keys u (place_by true key) && connected keys (place_by false key) v) ≡ true)
        → Walks → Connected (key ∷ keys) u v
    go (inl e) walks = before (either-of-or _ _ e) walks
    go (inr e) walks = through true e walks

-- THE TEST IS THE WALK: two points are connected exactly where a walk along edges leads from one to the other.
pub connected-is : (keys : List Key) (u v : ℕ) → (connected keys u v ≡ true) ↔ Connected keys u v
connected-is keys u v = (
  connected-walk keys u v,
  λ walk. connected-label keys u v ∙ eq-eqb (label keys u) (label keys v) (walk-label walk),
)

-- And it is: of one label.
pub connected-one-label : (keys : List Key) (u v : ℕ) → Connected keys u v ↔ (label keys u ≡ label keys v)
connected-one-label keys u v = (
  walk-label,
  λ e. connected-walk keys u v (connected-label keys u v ∙ eq-eqb (label keys u) (label keys v) e),
)
