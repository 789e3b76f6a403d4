-- Some sequence fills exactly where no label has more edges than points, key by key over the places used so far. Assumes nothing.
use Rattle.std.specs.Prelude.{ℕ, zero, suc, ◌+◌, ◌≤◌, ◌<◌, ◌≡◌, refl, ◌≢◌, ◌⊎◌, Bool, true, false, List, [], ◌∷◌, eqb}
use Rattle.std.proofs.Common.{sym, ap, inl, inr, true≢false, arith}
use Rattle.std.proofs.Math.Bool.{not-eq-not}
use Rattle.std.proofs.Math.Decide.{ℕ_discrete, dec_lt}
use Rattle.lists.specs.Occurs.{occurs, distinct}
use Rattle.lists.proofs.OccursLaws.{occurs-here, occurs-there, occurs-cases, occurs-not, distinct_head, distinct_tail, distinct_cons}
use Rattle.filling.specs.Filling.{Key, place_by, chosen, Fills, EachCandidate}
use Rattle.filling.proofs.SearchLaws.{Fresh, FillsOver, over-of-fills, fills-of-over}
use Rattle.graph.specs.HowMany.{one, how_many}
use Rattle.graph.proofs.HowManyLaws.{one_same, one-other}
use Rattle.graph.specs.Parts.{points}
use Rattle.graph.specs.Label.{label}
use Rattle.graph.proofs.MergeLaws.{within, firsts, points_with, edges_with, join, gone, apart, inside, edges-in, Which, only, left}
use Rattle.graph.proofs.MergeLaws.{right, none, which, points-once, points-most}

-- A key more fills over the places used where its place is not used, and the rest fill over that place too.
pub over-cons : {used : List ℕ} {key : Key} {keys : List Key} {choice : Bool} {choices : List Bool}
    → occurs (place_by choice key) used ≡ false → FillsOver (place_by choice key ∷ used) keys choices
    → FillsOver used (key ∷ keys) (choice ∷ choices)
unfolding Fresh chosen
over-cons free rest = record { whole = ap suc rest.whole; off = (free, rest.off) }

pub over-split : {used : List ℕ} {key : Key} {keys : List Key} {choice : Bool} {choices : List Bool}
    → FillsOver used (key ∷ keys) (choice ∷ choices)
    → (occurs (place_by choice key) used ≡ false) × FillsOver (place_by choice key ∷ used) keys choices
unfolding Fresh chosen
over-split f = (f.off.0, record { whole = omega (arith, f.whole); off = f.off.1 })

pub over_none : (used : List ℕ) → FillsOver used [] []
unfolding Fresh chosen
over_none used = record { whole = refl; off = tt }

-- The rest of keys have places as all have.
pub below_rest : (n : ℕ) (key : Key) (keys : List Key) → EachCandidate (λ x. x < n) (key ∷ keys) → EachCandidate (λ x. x < n) keys
below_rest n key keys each i lt choice = each (suc i) (omega arith) choice

-- All places of a list are below n.
abbrev pub Under : ℕ → List ℕ → Type 0
Under n places = (v : ℕ) → occurs v places ≡ true → v < n

pub under_none : (n : ℕ) → Under n []
unfolding occurs
under_none n v t = absurd (true≢false (sym t))

pub under_more : (n v : ℕ) (places : List ℕ) → v < n → Under n places → Under n (v ∷ places)
under_more n v places lt h w t = go (occurs-cases w v places t)
  where
    go : (w ≡ v) ⊎ (occurs w places ≡ true) → w < n
    go (inl e) = omega arith
    go (inr t) = h w t

-- A place in use is one with its label.
within-occurs : (keys : List Key) (places : List ℕ) (v : ℕ) → occurs v places ≡ true → 0 < within keys places (label keys v)
unfolding how_many occurs
within-occurs keys [] v t = absurd (true≢false (sym t))
within-occurs keys (u ∷ places) v t = go (occurs-cases v u places t) (within-occurs keys places v)
  where
    go : (v ≡ u) ⊎ (occurs v places ≡ true) → (occurs v places ≡ true → 0 < within keys places (label keys v))
        → 0 < one (eqb (label keys u) (label keys v)) + within keys places (label keys v)
    go (inl e) rest = omega (arith, one_same (label keys u) (label keys v) (ap (label keys) (sym e)))
    go (inr t) rest = omega (arith, rest t)

-- So where none has it, the place is not in use.
pub within_none : (keys : List Key) (places : List ℕ) (v : ℕ) → within keys places (label keys v) ≡ 0 → occurs v places ≡ false
within_none keys places v free = not-eq-not.0 (λ t. omega (arith, within-occurs keys places v t))

-- How often a number stands in a list of different ones: once or not at all.
pub how_many-absent : (places : List ℕ) (r : ℕ) → occurs r places ≡ false → how_many (λ v. eqb v r) places ≡ 0
unfolding how_many
how_many-absent [] r n = refl
how_many-absent (v ∷ places) r n =
    omega (
      arith,
      one-other v r (λ e. occurs-not r (v ∷ places) (rw e (occurs-here r places)) n),
      how_many-absent places r (not-eq-not.0 (λ t. occurs-not r (v ∷ places) (occurs-there r v places t) n)),
    )

pub how_many-present : (places : List ℕ) (r : ℕ) → distinct places ≡ true → occurs r places ≡ true → how_many (λ v. eqb v r) places ≡ 1
unfolding how_many occurs
how_many-present [] r d t = absurd (true≢false (sym t))
how_many-present (v ∷ places) r d t =
    go (ℕ_discrete v r) (occurs-cases r v places t) (how_many-present places r (distinct_tail v places d))
  where
    go : Dec (v ≡ r) → (r ≡ v) ⊎ (occurs r places ≡ true) → (occurs r places ≡ true → how_many (λ v. eqb v r) places ≡ 1)
        → one (eqb v r) + how_many (λ v. eqb v r) places ≡ 1
    go (yes e) _ rest = omega (arith, one_same v r e, how_many-absent places r (rw e at (distinct_head v places d)))
    go (no m) (inl e) rest = absurd (m (sym e))
    go (no m) (inr t) rest = omega (arith, one-other v r m, rest t)

-- Of a key's two places, in two parts, the one taken lies in one of them; in one part, in that.
pub taken-apart : (keys : List Key) (key : Key) (choice : Bool) → label keys (place_by false key) ≢ label keys (place_by true key)
    → one (eqb (label keys (place_by choice key)) (label keys (place_by false key)))
    + one (eqb (label keys (place_by choice key)) (label keys (place_by true key))) ≡ 1
taken-apart keys key false n = omega (arith, one_same (label keys (place_by false key)) _ refl, one-other _ _ n)
taken-apart keys key true n = omega (arith, one-other _ _ (λ e. n (sym e)), one_same (label keys (place_by true key)) _ refl)

pub taken-same : (keys : List Key) (key : Key) (choice : Bool) → label keys (place_by false key) ≡ label keys (place_by true key)
    → label keys (place_by choice key) ≡ label keys (place_by false key)
taken-same keys key false e = refl
taken-same keys key true e = sym e

pub taken-other : (keys : List Key) (key : Key) (choice : Bool) (r : ℕ) → r ≢ label keys (place_by false key)
    → r ≢ label keys (place_by true key) → one (eqb (label keys (place_by choice key)) r) ≡ 0
taken-other keys key false r a b = one-other _ r (λ e. a (sym e))
taken-other keys key true r a b = one-other _ r (λ e. b (sym e))

-- No label has more edges and places in use than points.
abbrev pub Room : ℕ → List Key → List ℕ → Type 0
Room n keys used = (r : ℕ) → within keys used r + edges_with keys r ≤ points_with n keys r

-- No place in use,
pub within-empty : (keys : List Key) (r : ℕ) → within keys [] r ≡ 0
unfolding how_many
within-empty keys r = refl

-- and a place more.
pub within_more : (keys : List Key) (used : List ℕ) (v r : ℕ) → within keys (v ∷ used) r ≡ one (eqb (label keys v) r) + within keys used r
unfolding how_many
within_more keys used v r = refl

-- Where there is room, a sequence fills: a key goes to a place in whose part there is room for one more.
pub room-fills : (n : ℕ) (keys : List Key) (used : List ℕ) → Room n keys used → (cs : List Bool) × FillsOver used keys cs
room-fills n [] used room = ([], over_none used)
room-fills n (key ∷ keys) used room = go (ℕ_discrete x y) (room-fills n keys)
  where
    a : ℕ
    a = place_by false key

    b : ℕ
    b = place_by true key

    x : ℕ
    x = label keys a

    y : ℕ
    y = label keys b

    Rest : Type 0
    Rest = (used : List ℕ) → Room n keys used → (cs : List Bool) × FillsOver used keys cs

    -- The key goes to the place of a choice, and there is room for the others.
    put : (choice : Bool) → within keys used (label keys (place_by choice key)) ≡ 0 → Room n keys (place_by choice key ∷ used) → Rest
        → (cs : List Bool) × FillsOver used (key ∷ keys) cs
    put choice free after rest =
        let (cs, f) = rest (place_by choice key ∷ used) after in
        (choice ∷ cs, over-cons (within_none keys used (place_by choice key) free) f)

    go : Dec (x ≡ y) → Rest → (cs : List Bool) × FillsOver used (key ∷ keys) cs
    go (yes e) rest = put false (omega (arith, here, points-most n keys x)) after rest
      where
        here : within keys used x + (1 + edges_with keys x) ≤ points_with n keys x
        here =
            omega (
              arith,
              room x,
              inside key keys used x e,
              inside key keys (firsts keys) x e,
              inside key keys (points n) x e,
              edges-in key keys x,
              one_same x x refl,
            )

        after : Room n keys (a ∷ used)
        after r =
            omega (
              arith,
              room r,
              inside key keys used r e,
              inside key keys (firsts keys) r e,
              inside key keys (points n) r e,
              edges-in key keys r,
              within_more keys used a r,
            )
    go (no m) rest = on (dec_lt (within keys used x + edges_with keys x) (points_with n keys x))
      where
        both : within keys used x + within keys used y + (1 + edges_with keys x + edges_with keys y)
            ≤ points_with n keys x + points_with n keys y
        both =
            omega (
              arith,
              room x,
              join key keys used m,
              join key keys (firsts keys) m,
              join key keys (points n) m,
              edges-in key keys x,
              one_same x x refl,
            )

        others : (r : ℕ) → r ≢ x → r ≢ y → within keys used r + edges_with keys r ≤ points_with n keys r
        others r nx ny =
            omega (
              arith,
              room r,
              apart key keys used r nx ny,
              apart key keys (firsts keys) r nx ny,
              apart key keys (points n) r nx ny,
              edges-in key keys r,
            )

        on : Dec (within keys used x + edges_with keys x < points_with n keys x) → (cs : List Bool) × FillsOver used (key ∷ keys) cs
        on (yes some) = put false (omega (arith, points-most n keys x)) (λ r. at r (which x y r)) rest
          where
            at : (r : ℕ) → Which x y r → within keys (a ∷ used) r + edges_with keys r ≤ points_with n keys r
            at r (only e) = absurd (m e)
            at r (left _ e) = rw e (omega (arith, within_more keys used a x, one_same x x refl))
            at r (right _ e) = rw e (omega (arith, both, points-most n keys x, within_more keys used a y, one-other x y m))
            at r (none _ nx ny) = omega (arith, others r nx ny, within_more keys used a r, one-other x r (λ z. nx (sym z)))
        on (no full) = put true (omega (arith, full, both, points-most n keys y)) (λ r. at r (which x y r)) rest
          where
            at : (r : ℕ) → Which x y r → within keys (b ∷ used) r + edges_with keys r ≤ points_with n keys r
            at r (only e) = absurd (m e)
            at r (left _ e) =
                rw e (omega (arith, both, points-most n keys y, within_more keys used b x, one-other y x (λ z. m (sym z))))
            at r (right _ e) = rw e (omega (arith, both, full, within_more keys used b y, one_same y y refl))
            at r (none _ nx ny) = omega (arith, others r nx ny, within_more keys used b r, one-other y r (λ z. ny (sym z)))

-- A key more, and its place no longer in use: what each label has, of edges with places in use and of points, is what one label or two had
-- before, or nothing.
pub data Sums (filled filled' size size' : ℕ → ℕ) (r : ℕ) : Type 0 where
  as_before : filled' r ≡ filled r → size' r ≡ size r → Sums filled filled' size size' r
  together : (x y : ℕ) → filled' r ≡ filled x + filled y → size' r ≡ size x + size y → Sums filled filled' size size' r
  nothing : filled' r ≡ 0 → size' r ≡ 0 → Sums filled filled' size size' r

pub key_back : (n : ℕ) (key : Key) (keys : List Key) (used : List ℕ) (choice : Bool) (r : ℕ)
    → Sums (λ s. within keys (place_by choice key ∷ used) s + edges_with keys s)
    (λ s. within (key ∷ keys) used s + edges_with (key ∷ keys) s)
    (points_with n keys) (points_with n (key ∷ keys)) r
key_back n key keys used choice r = go (which x y r)
  where
    x : ℕ
    x = label keys (place_by false key)

    y : ℕ
    y = label keys (place_by true key)

    taken : ℕ
    taken = place_by choice key

    go : Which x y r → Sums (λ s. within keys (taken ∷ used) s + edges_with keys s)
        (λ s. within (key ∷ keys) used s + edges_with (key ∷ keys) s) (points_with n keys) (points_with n (key ∷ keys)) r
    go (only e) =
        as_before
        (omega (
          arith,
          within_more keys used taken r,
          ap (λ (z : ℕ). one (eqb z r)) (taken-same keys key choice e),
          inside key keys used r e,
          inside key keys (firsts keys) r e,
          edges-in key keys r,
        ))
        (inside key keys (points n) r e)
    go (left m e) =
        together x y
        (rw e
        (omega (
          arith,
          within_more keys used taken x,
          within_more keys used taken y,
          taken-apart keys key choice m,
          join key keys used m,
          join key keys (firsts keys) m,
          edges-in key keys x,
          one_same x x refl,
        )))
        (rw e (join key keys (points n) m))
    go (right m e) =
        nothing
        (rw e (omega (arith, gone key keys used m, gone key keys (firsts keys) m, edges-in key keys y, one-other x y m)))
        (rw e (gone key keys (points n) m))
    go (none m a b) =
        as_before
        (omega (
          arith,
          within_more keys used taken r,
          taken-other keys key choice r a b,
          apart key keys used r a b,
          apart key keys (firsts keys) r a b,
          edges-in key keys r,
          one-other x r (λ z. a (sym z)),
        ))
        (apart key keys (points n) r a b)

-- So what holds of the keys behind one, with its place in use, holds of it and them.
room_back : (n : ℕ) (key : Key) (keys : List Key) (used : List ℕ) (choice : Bool) → Room n keys (place_by choice key ∷ used)
    → Room n (key ∷ keys) used
room_back n key keys used choice room r = go (key_back n key keys used choice r)
  where
    go : Sums (λ s. within keys (place_by choice key ∷ used) s + edges_with keys s)
        (λ s. within (key ∷ keys) used s + edges_with (key ∷ keys) s) (points_with n keys) (points_with n (key ∷ keys)) r
        → within (key ∷ keys) used r + edges_with (key ∷ keys) r ≤ points_with n (key ∷ keys) r
    go (as_before f p) = omega (arith, f, p, room r)
    go (together x y f p) = omega (arith, f, p, room x, room y)
    go (nothing f p) = omega (arith, f)

-- Where a sequence fills over different places in use, there is room.
pub fills-room : (n : ℕ) (keys : List Key) (used : List ℕ) (cs : List Bool) → distinct used ≡ true → Under n used
    → EachCandidate (λ x. x < n) keys → FillsOver used keys cs → Room n keys used
unfolding label how_many
fills-room n [] used cs d under below f r = go (occurs r used) refl
  where
    go : (t : Bool) → occurs r used ≡ t → how_many (λ v. eqb v r) used + 0 ≤ how_many (λ v. eqb v r) (points n)
    go true t = omega (arith, how_many-present used r d t, points-once n r (under r t))
    go false t = omega (arith, how_many-absent used r t)
fills-room n (key ∷ keys) used [] d under below f r = absurd (omega (arith, f.whole))
fills-room n (key ∷ keys) used (c ∷ cs) d under below f r =
    let (free, rest) = over-split f in
    let taken = place_by c key in
    room_back n key keys used c
    (fills-room n keys (taken ∷ used) cs (distinct_cons taken used free d)
    (under_more n taken used (below zero (omega arith) c) under) (below_rest n key keys below) rest) r

-- Keys on n places: some sequence fills exactly where no label has more edges than points.
pub fills-labels : (n : ℕ) (keys : List Key) (cs : List Bool) → EachCandidate (λ x. x < n) keys → Fills keys cs
    → (r : ℕ) → edges_with keys r ≤ points_with n keys r
unfolding distinct
fills-labels n keys cs below f r =
    omega (arith, within-empty keys r, fills-room n keys [] cs refl (under_none n) below (over-of-fills keys cs f) r)

pub labels-fill : (n : ℕ) (keys : List Key) → ((r : ℕ) → edges_with keys r ≤ points_with n keys r) → (cs : List Bool) × Fills keys cs
labels-fill n keys h =
    let (cs, f) = room-fills n keys [] (λ r. omega (arith, h r, within-empty keys r)) in
    (cs, fills-of-over keys cs f)
