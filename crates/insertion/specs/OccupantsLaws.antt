-- The laws of the cells of occupants: one key more at a free place, the same choices, and that they are `occupants_of`.
-- Assumes nothing.
use Prim.Native.Nat.{ℕ, zero, suc, ◌+◌, ◌-◌, ◌≤◌, ◌<◌}
use Rattle.std.specs.Prelude.{◌≡◌, List, length, set, replicate, Option, None, Some}
use Rattle.std.proofs.Math.Path.{refl, sym}
use Rattle.std.proofs.Common.{◌∙◌, arith, length-set, get_or-set_same, get_or-set_other}
use Rattle.std.proofs.lemmas.List.{get_or-replicate, length-replicate}
use Rattle.std.proofs.Math.Bool.{Bool}
use Rattle.std.proofs.Math.Decide.{ℕ_discrete, dec_lt}
use Rattle.std.proofs.Math.Dec.{eqb}
use Rattle.std.proofs.Math.ListN.{get_or, get_or-eq_default}
use Rattle.std.proofs.Math.Seq.{ext_get_or}
use borrow.Author.Tests.{eqb-true, eq-eqb, ne_eqb}
use Rattle.refusal.specs.Limits.{group_max}
use Rattle.lists.specs.First.{first}
use Rattle.lists.proofs.FirstLaws.{first_some, first_found, first_out}
use Rattle.lists.specs.UpTo.{up_to}
use Rattle.lists.proofs.UpToLaws.{up_to-length, up_to-at}
use Rattle.filling.specs.Separate.{Separate}
use Rattle.filling.specs.Insertion.{Taken}
use Rattle.bits.specs.WordBits.{choice_in}
use Rattle.places.specs.Array.{entry_of, Candidates}
use Rattle.insertion.specs.Occupants.{cell_of, place_taken, key_in, occupants_of, Occupied}

-- The first v of the cells are 0.
pub record Cleared (v : ℕ) (cells : List ℕ) : Type 0 where
  pub size : length cells ≡ group_max
  pub clear : (u : ℕ) → u < v → get_or cells u 0 ≡ 0

pub cleared-turn : (v : ℕ) (cells : List ℕ) → v < group_max → Cleared v cells → Cleared (v + 1) (set cells v 0)
cleared-turn v cells lt old = record {
  size = length-set cells v 0 ∙ old.size;
  clear = λ u lu. go u lu (ℕ_discrete u v);
}
  where
    go : (u : ℕ) → u < v + 1 → Dec (u ≡ v) → get_or (set cells v 0) u 0 ≡ 0
    go u lu (yes e) = rw e (get_or-set_same cells v 0 0 (omega (arith, old.size)))
    go u lu (no n) = get_or-set_other cells v u 0 0 n ∙ old.clear u (omega (arith, n))

-- Cells of which each is 0.
pub cleared_all : Cleared group_max (replicate group_max 0)
cleared_all = record { size = length-replicate {A = ℕ} group_max 0; clear = λ u lt. get_or-replicate {A = ℕ} group_max u 0 0 lt }

module _ (places : List ℕ) where
  -- No key: all cells are 0.
  pub occupied-none : (word : ℕ) {cells : List ℕ} → Cleared group_max cells → Occupied places word 0 cells
  occupied-none word {cells} all = record {
    size = all.size;
    sits = λ i lt. absurd (omega arith);
    who = λ v o e. absurd (nobody v o e (dec_lt v group_max));
  }
    where
      nobody : (v o : ℕ) → get_or cells v 0 ≡ o + 1 → Dec (v < group_max) → ⊥
      nobody v o e (yes lt) = omega (arith, all.clear v lt)
      nobody v o e (no n) =
          let past : length cells ≤ v = omega (arith, n, all.size) in
          omega (arith, get_or-eq_default cells 0 past)

  pub occupants-none : (word : ℕ) → replicate group_max 0 ≡ occupants_of places word 0
  unfolding occupants_of cell_of up_to first
  occupants-none word = refl

  -- Only the choices of the keys count.
  pub occupied-same : (word other count : ℕ) {cells : List ℕ} → ((i : ℕ) → i < count → choice_in word i ≡ choice_in other i)
      → Occupied places word count cells → Occupied places other count cells
  occupied-same word other count {cells} same old = record {
    size = old.size;
    sits = λ i lt. rw (← same i lt) (old.sits i lt);
    who = λ v o e. let (lt, at) = old.who v o e in (lt, rw (← same o lt) at);
  }

  module _ {word count : ℕ} {cells : List ℕ} (old : Occupied places word count cells) where
    -- A free place is that of no key.
    pub free-untaken : (v : ℕ) → get_or cells v 0 ≡ 0 → Taken (entry_of places) count (choice_in word) v → ⊥
    free-untaken v free (o, lt, at) = omega (arith, rw at at (old.sits o lt))

    -- The occupant is one of the keys.
    pub occupant-within : (v : ℕ) → (get_or cells v 0 ≡ 0 → ⊥) → get_or cells v 0 - 1 < count
    occupant-within v busy = (old.who v (get_or cells v 0 - 1) (omega (arith, busy))).0

    -- A place that no other key takes is free.
    pub separate-free : (all : ℕ) → count < all → Separate (entry_of places) all (choice_in word)
        → get_or cells (place_taken places word count) 0 ≡ 0
    separate-free all more apart = go (get_or cells (place_taken places word count) 0) refl
      where
        go : (x : ℕ) → get_or cells (place_taken places word count) 0 ≡ x → x ≡ 0
        go zero e = refl
        go (suc o) e =
            let (lt, at) = old.who (place_taken places word count) o (omega (arith, e)) in
            let clash = apart o count (omega arith) (omega arith) at in
            absurd (omega arith)

    -- One key more at a free place.
    pub occupied-more : (v : ℕ) → place_taken places word count ≡ v → v < group_max → get_or cells v 0 ≡ 0
        → Occupied places word (count + 1) (set cells v (count + 1))
    occupied-more v at below free = record {
      size = length-set cells v (count + 1) ∙ old.size;
      sits = λ i lt. sits' i lt (ℕ_discrete i count);
      who = λ u o e. who' u o e (ℕ_discrete u v);
    }
      where
        here : get_or (set cells v (count + 1)) v 0 ≡ count + 1
        here = get_or-set_same cells v (count + 1) 0 (omega (arith, old.size))

        sits' : (i : ℕ) → i < count + 1 → Dec (i ≡ count) → get_or (set cells v (count + 1)) (place_taken places word i) 0 ≡ i + 1
        sits' i lt (yes e) = rw (e, at) here
        sits' i lt (no n) =
            let sat = old.sits i (omega (arith, n)) in
            let apart : place_taken places word i ≡ v → ⊥ = λ z. omega (arith, rw z at sat) in
            get_or-set_other cells v (place_taken places word i) (count + 1) 0 apart ∙ sat

        who' : (u o : ℕ) → get_or (set cells v (count + 1)) u 0 ≡ o + 1 → Dec (u ≡ v) → (o < count + 1) × (place_taken places word o ≡ u)
        who' u o e (yes z) =
            let own : o ≡ count = omega (arith, here, rw z at e) in
            (omega arith, rw (own, z) at)
        who' u o e (no n) =
            let (lt, was) = old.who u o (sym (get_or-set_other cells v u (count + 1) 0 n) ∙ e) in
            (omega arith, was)

    -- Such cells are the occupants: there are no others.
    pub occupied-only : cells ≡ occupants_of places word count
    unfolding occupants_of cell_of
    occupied-only =
        ext_get_or 0 cells (up_to group_max (λ v. cell_of (key_in places word count v)))
        (old.size ∙ sym (up_to-length group_max (λ v. cell_of (key_in places word count v))))
        (λ v lt.
        let here : v < group_max = omega (arith, old.size) in
        go v (get_or cells v 0) refl ∙ sym (up_to-at group_max (λ v. cell_of (key_in places word count v)) 0 v here))
      where
        go : (v x : ℕ) → get_or cells v 0 ≡ x → get_or cells v 0 ≡ cell_of (key_in places word count v)
        go v zero e =
            rw (first_out (λ i. eqb (place_taken places word i) v) count (λ j lt.
            ne_eqb (place_taken places word j) v (λ at. free-untaken v e (j, lt, at)))) e
        go v (suc o) e =
            let (lt, at) = old.who v o (omega (arith, e)) in
            rw (first_found (λ i. eqb (place_taken places word i) v) count o lt
            (eq-eqb (place_taken places word o) v at) (λ j below.
            ne_eqb (place_taken places word j) v (λ z. omega (arith, e, rw z at (old.sits j (omega arith)))))) (omega (arith, e))

  -- The occupants of keys of which no two take one place are such cells.
  pub occupied-of : {word count : ℕ} → Candidates places count → Separate (entry_of places) count (choice_in word)
      → Occupied places word count (occupants_of places word count)
  unfolding occupants_of cell_of
  occupied-of {word} {count} all apart = record {
    size = up_to-length group_max cell;
    sits = λ i lt.
        up_to-at group_max cell 0 (place_taken places word i) (all.below i lt (choice_in word i)) ∙ sits' i lt;
    who = λ v o e. who' v o (dec_lt v group_max) e;
  }
    where
      test : ℕ → ℕ → Bool
      test v i = eqb (place_taken places word i) v

      cell : ℕ → ℕ
      cell v = cell_of (key_in places word count v)

      sits' : (i : ℕ) → i < count → cell (place_taken places word i) ≡ i + 1
      sits' i lt =
          rw (first_found (test (place_taken places word i)) count i lt
          (eq-eqb (place_taken places word i) (place_taken places word i) refl)
          (λ j below. ne_eqb (place_taken places word j) (place_taken places word i) (λ z.
          omega (arith, apart j i (omega arith) lt z))))

      found : (v o : ℕ) (f : Option ℕ) → key_in places word count v ≡ f → cell_of f ≡ o + 1 → (o < count) × (place_taken places word o ≡ v)
      found v o None e z = absurd (omega arith)
      found v o (Some i) e z =
          let at = first_some (test v) count e in
          let same : i ≡ o = omega arith in
          rw (← same) (at.below, eqb-true (place_taken places word i) v at.holds)

      who' : (v o : ℕ) → Dec (v < group_max) → get_or (up_to group_max cell) v 0 ≡ o + 1 → (o < count) × (place_taken places word o ≡ v)
      who' v o (yes lt) e = found v o (key_in places word count v) refl (sym (up_to-at group_max cell 0 v lt) ∙ e)
      who' v o (no n) e =
          let past : length (up_to group_max cell) ≤ v = omega (arith, n, up_to-length group_max cell) in
          absurd (omega (arith, get_or-eq_default (up_to group_max cell) 0 past))
