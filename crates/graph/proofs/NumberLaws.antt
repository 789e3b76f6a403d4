-- As many keys as places, and something fills: 2 to the power of the number of labels sequences fill. Assumes nothing.
--
-- Each part then has as many edges as points. Take a key away: where it joined two parts, one of them has a point more than edges, and
-- the key must go there; where it lay in one part it can go to either place, and the part is left with a point more than edges, which
-- is in use. So a key in a part that no place in use lies in counts twice, and each part has one such key.
use Prim.Native.Nat.{ℕ, zero, ◌+◌, ◌^◌, ◌<◌}
use Rattle.std.specs.Prelude.{◌≡◌, refl, ◌≢◌, Bool, true, ◌&&◌, List, [], ◌∷◌, eqb, length}
use Rattle.std.proofs.Common.{sym, ◌∙◌, ap, eq-eqb, ne_eqb}
use Rattle.std.proofs.Math.Bool.{false, and-true, not-eq-not}
use Rattle.std.proofs.Math.Decide.{ℕ_discrete, dec_lt}
use Rattle.std.proofs.Math.Nat.{two-pow-succ}
use native.Mathlib.Omega.{arith}
use Rattle.lists.specs.Occurs.{occurs, distinct}
use Rattle.lists.proofs.OccursLaws.{distinct_cons, onto}
use Rattle.filling.specs.Filling.{Key, place_by, Fills, EachCandidate}
use Rattle.filling.proofs.SearchLaws.{FillsOver, over-of-fills}
use Rattle.graph.specs.HowMany.{one, how_many}
use Rattle.graph.proofs.HowManyLaws.{one_same, one-other, one-true, one-false, points-same, points_none, points-change}
use Rattle.graph.proofs.HowManyLaws.{points-change-two}
use Rattle.graph.specs.Parts.{points}
use Rattle.graph.specs.Sequences.{all_sequences, fills}
use Rattle.graph.specs.Label.{merged, label}
use Rattle.graph.proofs.ConnectedLaws.{merged-from, merged-other, merged-into}
use Rattle.graph.proofs.MergeLaws.{within, firsts, points_with, edges_with, join, apart, stay, inside, edges-in, Which, only, left}
use Rattle.graph.proofs.MergeLaws.{right, none, which, points-out, points-once, points-most}
use Rattle.graph.proofs.RoomLaws.{Under, under_none, under_more, below_rest, over-split, within_none, within-empty, within_more}
use Rattle.graph.proofs.RoomLaws.{how_many-absent, how_many-present, taken-same, taken-other, Room, fills-room}
use Rattle.graph.proofs.RoomLaws.{Sums, as_before, together, nothing, key_back}
use Rattle.graph.proofs.SequencesLaws.{sequences_over, sequences-over, sequences-none, beginning_with, sequences-key, beginning-free}
use Rattle.graph.proofs.SequencesLaws.{beginning-none}

-- Each label has as many edges and places in use as points.
abbrev Exact : ℕ → List Key → List ℕ → Type 0
Exact n keys used = (r : ℕ) → within keys used r + edges_with keys r ≡ points_with n keys r

exact-back : (n : ℕ) (key : Key) (keys : List Key) (used : List ℕ) (choice : Bool) → Exact n keys (place_by choice key ∷ used)
    → Exact n (key ∷ keys) used
exact-back n key keys used choice exact r = go (key_back n key keys used choice r)
  where
    go : Sums (λ s. within keys (place_by choice key ∷ used) s + edges_with keys s)
        (λ s. within (key ∷ keys) used s + edges_with (key ∷ keys) s) (points_with n keys) (points_with n (key ∷ keys)) r
        → within (key ∷ keys) used r + edges_with (key ∷ keys) r ≡ points_with n (key ∷ keys) r
    go (as_before f p) = omega (arith, f, p, exact r)
    go (together x y f p) = omega (arith, f, p, exact x, exact y)
    go (nothing f p) = omega (arith, f, p)

-- Where a sequence fills and all places are taken in the end, it is so from the beginning.
fills-exact : (n : ℕ) (keys : List Key) (used : List ℕ) (cs : List Bool) → distinct used ≡ true → Under n used
    → EachCandidate (λ x. x < n) keys → length used + length keys ≡ n → FillsOver used keys cs → Exact n keys used
unfolding label how_many
fills-exact n [] used cs d under below all f r = go (dec_lt r n)
  where
    go : Dec (r < n) → how_many (λ v. eqb v r) used + 0 ≡ how_many (λ v. eqb v r) (points n)
    go (yes lt) = omega (arith, how_many-present used r d (onto n used (omega arith) d under r lt), points-once n r lt)
    go (no ge) =
        let absent : occurs r used ≡ false = not-eq-not.0 (λ t. omega (arith, under r t, ge)) in
        omega (arith, how_many-absent used r absent, points-out n r (omega (arith, ge)))
fills-exact n (key ∷ keys) used [] d under below all f r = absurd (omega (arith, f.whole))
fills-exact n (key ∷ keys) used (c ∷ cs) d under below all f r =
    let (free, rest) = over-split f in
    let taken = place_by c key in
    exact-back n key keys used c
    (fills-exact n keys (taken ∷ used) cs (distinct_cons taken used free d)
    (under_more n taken used (below zero (omega arith) c) under) (below_rest n key keys below) (omega arith) rest) r

-- A label is its own label, and a place.
pub label-again : (keys : List Key) (v : ℕ) → label keys (label keys v) ≡ label keys v
unfolding label
label-again [] v = refl
label-again (key ∷ keys) v = go (ℕ_discrete (label keys v) y) (label-again keys)
  where
    x : ℕ
    x = label keys (place_by false key)

    y : ℕ
    y = label keys (place_by true key)

    go : Dec (label keys v ≡ y) → ((v : ℕ) → label keys (label keys v) ≡ label keys v)
        → merged x y (label keys (merged x y (label keys v))) ≡ merged x y (label keys v)
    go (yes e) again = rw (merged-from x y (label keys v) e, again (place_by false key)) (merged-into x y)
    go (no m) again = rw (merged-other x y (label keys v) m, again v) (merged-other x y (label keys v) m)

pub label-below : (n : ℕ) (keys : List Key) → EachCandidate (λ x. x < n) keys → (v : ℕ) → v < n → label keys v < n
unfolding label
label-below n [] below v lt = lt
label-below n (key ∷ keys) below v lt = go (ℕ_discrete (label keys v) y) (label-below n keys (below_rest n key keys below))
  where
    x : ℕ
    x = label keys (place_by false key)

    y : ℕ
    y = label keys (place_by true key)

    go : Dec (label keys v ≡ y) → ((v : ℕ) → v < n → label keys v < n) → merged x y (label keys v) < n
    go (yes e) lower = rw (merged-from x y (label keys v) e) (lower (place_by false key) (below zero (omega arith) false))
    go (no m) lower = rw (merged-other x y (label keys v) m) (lower v lt)

-- A point that is its own label: each part has one.
abbrev pub root : List Key → ℕ → Bool
root keys v = eqb (label keys v) v

-- It is spare where no place in use has the label.
abbrev spare : List Key → List ℕ → ℕ → Bool
spare keys used v = root keys v && eqb (within keys used v) 0

abbrev spares : ℕ → List Key → List ℕ → ℕ
spares n keys used = how_many (spare keys used) (points n)

spare-root : (keys : List Key) (used : List ℕ) (v : ℕ) → label keys v ≡ v → spare keys used v ≡ eqb (within keys used v) 0
spare-root keys used v e = rw (eq-eqb (label keys v) v e)

spare-other : (keys : List Key) (used : List ℕ) (v : ℕ) → label keys v ≢ v → spare keys used v ≡ false
spare-other keys used v m = rw (ne_eqb (label keys v) v m)

spare-used : (keys : List Key) (used : List ℕ) (v : ℕ) → 0 < within keys used v → spare keys used v ≡ false
spare-used keys used v some = go (root keys v)
  where
    go : (b : Bool) → (b && eqb (within keys used v) 0) ≡ false
    go true = ne_eqb (within keys used v) 0 (λ e. omega arith)
    go false = refl

module _ (n : ℕ) (key : Key) (keys : List Key) (used : List ℕ) (below : EachCandidate (λ x. x < n) (key ∷ keys)) where
  x_below : label keys (place_by false key) < n
  x_below = label-below n keys (below_rest n key keys below) (place_by false key) (below zero (omega arith) false)

  y-below : label keys (place_by true key) < n
  y-below = label-below n keys (below_rest n key keys below) (place_by true key) (below zero (omega arith) true)

  -- A key between two parts: as many labels are spare as without it, with its place in use.
  spares-join : (choice : Bool) → label keys (place_by false key) ≢ label keys (place_by true key)
      → within keys used (label keys (place_by choice key)) ≡ 0
      → spares n (key ∷ keys) used ≡ spares n keys (place_by choice key ∷ used)
  unfolding label
  spares-join choice m free =
      omega (
        arith,
        points-change-two (spare (key ∷ keys) used) (spare keys (place_by choice key ∷ used)) n x y x_below y-below m other,
        at_y,
        at_x,
        two choice free,
      )
    where
      x : ℕ
      x = label keys (place_by false key)

      y : ℕ
      y = label keys (place_by true key)

      root-x : label keys x ≡ x
      root-x = label-again keys (place_by false key)

      root-y : label keys y ≡ y
      root-y = label-again keys (place_by true key)

      other : (v : ℕ) → v ≢ x → v ≢ y → spare (key ∷ keys) used v ≡ spare keys (place_by choice key ∷ used) v
      other v nx ny =
          let same : within (key ∷ keys) used v ≡ within keys (place_by choice key ∷ used) v =
          omega (arith, apart key keys used v nx ny, taken-other keys key choice v nx ny, within_more keys used (place_by choice key) v) in
          rw same (ap (λ (b : Bool). b && eqb (within keys (place_by choice key ∷ used) v) 0) (go (ℕ_discrete (label keys v) y)))
        where
          go : Dec (label keys v ≡ y) → eqb (merged x y (label keys v)) v ≡ eqb (label keys v) v
          go (yes e) =
              ne_eqb (merged x y (label keys v)) v (λ z. nx (sym z ∙ merged-from x y (label keys v) e))
              ∙ sym (ne_eqb (label keys v) v (λ z. ny (sym z ∙ e)))
          go (no d) = ap (λ (z : ℕ). eqb z v) (merged-other x y (label keys v) d)

      at_y : one (spare (key ∷ keys) used y) ≡ 0
      at_y = one-false (spare-other (key ∷ keys) used y (λ e. m (sym (merged-from x y (label keys y) root-y) ∙ e)))

      at_x : one (spare (key ∷ keys) used x) ≡ one (eqb (within keys used x + within keys used y) 0)
      at_x =
          ap one (spare-root (key ∷ keys) used x (ap (merged x y) root-x ∙ merged-into x y))
          ∙ ap (λ (z : ℕ). one (eqb z 0)) (join key keys used m)

      two : (choice : Bool) → within keys used (label keys (place_by choice key)) ≡ 0
          → one (spare keys (place_by choice key ∷ used) x) + one (spare keys (place_by choice key ∷ used) y)
          ≡ one (eqb (within keys used x + within keys used y) 0)
      two false free =
          let a = place_by false key in
          let sum : within keys (a ∷ used) y ≡ within keys used x + within keys used y =
          omega (arith, within_more keys used a y, one-other x y m) in
          omega (
            arith,
            one-false (spare-used keys (a ∷ used) x (omega (arith, within_more keys used a x, one_same x x refl))),
            ap one (spare-root keys (a ∷ used) y root-y),
            ap (λ (z : ℕ). one (eqb z 0)) sum,
          )
      two true free =
          let b = place_by true key in
          let sum : within keys (b ∷ used) x ≡ within keys used x + within keys used y =
          omega (arith, within_more keys used b x, one-other y x (λ e. m (sym e))) in
          omega (
            arith,
            one-false (spare-used keys (b ∷ used) y (omega (arith, within_more keys used b y, one_same y y refl))),
            ap one (spare-root keys (b ∷ used) x root-x),
            ap (λ (z : ℕ). one (eqb z 0)) sum,
          )

  -- A key inside a part: one label more is spare than without it.
  spares-inside : (choice : Bool) → label keys (place_by false key) ≡ label keys (place_by true key)
      → within keys used (label keys (place_by false key)) ≡ 0
      → spares n (key ∷ keys) used ≡ spares n keys (place_by choice key ∷ used) + 1
  spares-inside choice e free =
      omega (arith, points-change (spare (key ∷ keys) used) (spare keys (taken ∷ used)) n x x_below other, now-x, was-x)
    where
      x : ℕ
      x = label keys (place_by false key)

      taken : ℕ
      taken = place_by choice key

      lies : label keys taken ≡ x
      lies = taken-same keys key choice e

      other : (v : ℕ) → v ≢ x → spare (key ∷ keys) used v ≡ spare keys (taken ∷ used) v
      other v nx =
          let same : within (key ∷ keys) used v ≡ within keys (taken ∷ used) v =
          omega (arith, inside key keys used v e, within_more keys used taken v, one-other (label keys taken) v (λ z. nx (sym z ∙ lies))) in
          rw (same, stay key keys v e)

      was-x : one (spare keys (taken ∷ used) x) ≡ 0
      was-x =
          one-false (spare-used keys (taken ∷ used) x (omega (arith, within_more keys used taken x, one_same (label keys taken) x lies)))

      now-x : one (spare (key ∷ keys) used x) ≡ 1
      now-x =
          one-true (spare-root (key ∷ keys) used x (stay key keys x e ∙ label-again keys (place_by false key))
          ∙ eq-eqb (within (key ∷ keys) used x) 0 (inside key keys used x e ∙ free))

-- Without keys every place is in use.
all-used : (n : ℕ) (used : List ℕ) → Exact n [] used → (v : ℕ) → v < n → 0 < within [] used v
unfolding label how_many
all-used n used exact v lt = omega (arith, exact v, points-once n v lt)

-- 2 to the power of the number of spare labels sequences fill over the places in use.
exact-sequences : (n : ℕ) (keys : List Key) (used : List ℕ) → Exact n keys used → distinct used ≡ true → Under n used
    → EachCandidate (λ x. x < n) keys → sequences_over used keys ≡ 2 ^ spares n keys used
exact-sequences n [] used exact d under below =
    let zero : spares n [] used ≡ 0 = points_none (spare [] used) n (λ v lt. spare-used [] used v (all-used n used exact v lt)) in
    rw (sequences-none used, zero)
exact-sequences n (key ∷ keys) used exact d under below = go (ℕ_discrete x y) (exact-sequences n keys)
  where
    a : ℕ
    a = place_by false key

    b : ℕ
    b = place_by true key

    x : ℕ
    x = label keys a

    y : ℕ
    y = label keys b

    Rest : Type 0
    Rest = (used : List ℕ) → Exact n keys used → distinct used ≡ true → Under n used → EachCandidate (λ x. x < n) keys
        → sequences_over used keys ≡ 2 ^ spares n keys used

    -- Those that begin with a choice that leaves all exact, and with one behind which nothing fills.
    put : (choice : Bool) → Rest → within keys used (label keys (place_by choice key)) ≡ 0 → Exact n keys (place_by choice key ∷ used)
        → beginning_with used key keys choice ≡ 2 ^ spares n keys (place_by choice key ∷ used)
    put choice rest free after =
        let taken = place_by choice key in
        let absent = within_none keys used taken free in
        beginning-free used key keys choice absent
        ∙ rest (taken ∷ used) after (distinct_cons taken used absent d) (under_more n taken used (below zero (omega arith) choice) under)
        (below_rest n key keys below)

    shut : (choice : Bool) → (Room n keys (place_by choice key ∷ used) → ⊥) → beginning_with used key keys choice ≡ 0
    shut choice never =
        let taken = place_by choice key in
        beginning-none used key keys choice (λ absent cs f. never (fills-room n keys (taken ∷ used) cs (distinct_cons taken used absent d)
        (under_more n taken used (below zero (omega arith) choice) under) (below_rest n key keys below) f))

    go : Dec (x ≡ y) → Rest → sequences_over used (key ∷ keys) ≡ 2 ^ spares n (key ∷ keys) used
    go (yes e) rest =
        rw (spares-inside n key keys used below false e free)
        (omega (
          arith,
          sequences-key used key keys,
          put false rest free (after false),
          put true rest (ap (within keys used) (sym e) ∙ free) (after true),
          ap (λ (z : ℕ). 2 ^ z) alike,
          doubled,
        ))
      where
        here : within keys used x + (1 + edges_with keys x) ≡ points_with n keys x
        here =
            omega (
              arith,
              exact x,
              inside key keys used x e,
              inside key keys (firsts keys) x e,
              inside key keys (points n) x e,
              edges-in key keys x,
              one_same x x refl,
            )

        free : within keys used x ≡ 0
        free = omega (arith, here, points-most n keys x)

        after : (choice : Bool) → Exact n keys (place_by choice key ∷ used)
        after choice r =
            omega (
              arith,
              exact r,
              within_more keys used (place_by choice key) r,
              ap (λ (z : ℕ). one (eqb z r)) (taken-same keys key choice e),
              inside key keys used r e,
              inside key keys (firsts keys) r e,
              inside key keys (points n) r e,
              edges-in key keys r,
            )

        alike : spares n keys (b ∷ used) ≡ spares n keys (a ∷ used)
        alike = omega (arith, spares-inside n key keys used below false e free, spares-inside n key keys used below true e free)

        doubled : 2 ^ (spares n keys (a ∷ used) + 1) ≡ 2 ^ spares n keys (a ∷ used) + 2 ^ spares n keys (a ∷ used)
        doubled = ap (λ (z : ℕ). 2 ^ z) (omega arith) ∙ two-pow-succ (spares n keys (a ∷ used))
    go (no m) rest = on (dec_lt (within keys used x + edges_with keys x) (points_with n keys x))
      where
        both : within keys used x + within keys used y + (1 + edges_with keys x + edges_with keys y)
            ≡ points_with n keys x + points_with n keys y
        both =
            omega (
              arith,
              exact x,
              join key keys used m,
              join key keys (firsts keys) m,
              join key keys (points n) m,
              edges-in key keys x,
              one_same x x refl,
            )

        others : (r : ℕ) → r ≢ x → r ≢ y → within keys used r + edges_with keys r ≡ points_with n keys r
        others r nx ny =
            omega (
              arith,
              exact r,
              apart key keys used r nx ny,
              apart key keys (firsts keys) r nx ny,
              apart key keys (points n) r nx ny,
              edges-in key keys r,
              one-other x r (λ z. nx (sym z)),
            )

        on : Dec (within keys used x + edges_with keys x < points_with n keys x)
            → sequences_over used (key ∷ keys) ≡ 2 ^ spares n (key ∷ keys) used
        on (yes some) =
            rw (spares-join n key keys used below false m free)
            (omega (
              arith,
              sequences-key used key keys,
              put false rest free (λ r. at r (which x y r)),
              shut true (λ room. omega (arith, room y, both, points-most n keys x, within_more keys used b y, one_same y y refl)),
            ))
          where
            free : within keys used x ≡ 0
            free = omega (arith, some, points-most n keys x)

            at : (r : ℕ) → Which x y r → within keys (a ∷ used) r + edges_with keys r ≡ points_with n keys r
            at r (only e) = absurd (m e)
            at r (left _ e) = rw e (omega (arith, some, points-most n keys x, within_more keys used a x, one_same x x refl))
            at r (right _ e) = rw e (omega (arith, both, some, points-most n keys x, within_more keys used a y, one-other x y m))
            at r (none _ nx ny) = omega (arith, others r nx ny, within_more keys used a r, one-other x r (λ z. nx (sym z)))
        on (no full) =
            rw (spares-join n key keys used below true m free)
            (omega (
              arith,
              sequences-key used key keys,
              put true rest free (λ r. at r (which x y r)),
              shut false (λ room. omega (arith, room x, full, within_more keys used a x, one_same x x refl)),
            ))
          where
            free : within keys used y ≡ 0
            free = omega (arith, full, both, points-most n keys y)

            at : (r : ℕ) → Which x y r → within keys (b ∷ used) r + edges_with keys r ≡ points_with n keys r
            at r (only e) = absurd (m e)
            at r (left _ e) =
                rw e (omega (arith, both, full, points-most n keys y, within_more keys used b x, one-other y x (λ z. m (sym z))))
            at r (right _ e) = rw e (omega (arith, both, full, points-most n keys y, within_more keys used b y, one_same y y refl))
            at r (none _ nx ny) = omega (arith, others r nx ny, within_more keys used b r, one-other y r (λ z. ny (sym z)))

-- n keys on n places, and one sequence fills: of all 2^n sequences 2 to the power of the number of labels do.
pub label-sequences : (keys : List Key) (cs : List Bool) → EachCandidate (λ x. x < length keys) keys → Fills keys cs
    → how_many (fills keys) (all_sequences (length keys)) ≡ 2 ^ how_many (root keys) (points (length keys))
unfolding distinct
label-sequences keys cs below f =
    let n = length keys in
    let exact = fills-exact n keys [] cs refl (under_none n) below (omega arith) (over-of-fills keys cs f) in
    let all : spares n keys [] ≡ how_many (root keys) (points n) =
    points-same (spare keys []) (root keys) n (λ v lt. rw (within-empty keys v) (and-true (root keys v))) in
    sequences-over keys ∙ exact-sequences n keys [] exact refl (under_none n) below ∙ rw all
