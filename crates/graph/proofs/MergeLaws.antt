-- One key more: the parts that its places lie in become one, or it lies in one part. What that does to the numbers of places with a
-- label. Assumes nothing.
use Rattle.std.specs.Prelude.{ℕ, ◌+◌, ◌≤◌, ◌<◌, ◌≡◌, refl, ◌≢◌, true, List, [], ◌∷◌, map}
use Rattle.std.proofs.Math.Path.{sym, ap}
use Rattle.std.proofs.Common.{◌∙◌}
use Rattle.std.proofs.Math.Bool.{false}
use Rattle.std.proofs.Math.Decide.{ℕ_discrete, dec_lt}
use native.Mathlib.Omega.{arith}
use Rattle.std.proofs.Math.Dec.{eqb}
use borrow.Author.Tests.{ne_eqb}
use Rattle.filling.specs.Filling.{Key, place_by}
use Rattle.graph.specs.HowMany.{one, how_many}
use Rattle.graph.proofs.HowManyLaws.{one-false, one_same, one-other, how_many-sum, how_many-same, how_many-none, points_none}
use Rattle.graph.proofs.HowManyLaws.{points-change}
use Rattle.graph.specs.Parts.{points}
use Rattle.graph.specs.Label.{merged, label}
use Rattle.graph.proofs.ConnectedLaws.{merged-from, merged-other, merged-into}

-- How many of a list of places have the label r.
abbrev pub within : List Key → List ℕ → ℕ → ℕ
within keys places r = how_many (λ v. eqb (label keys v) r) places

-- The first places of keys, one for each.
abbrev pub firsts : List Key → List ℕ
firsts keys = map (place_by false) keys

-- The points and the edges with a label, of a graph with n points.
abbrev pub points_with : ℕ → List Key → ℕ → ℕ
points_with n keys r = within keys (points n) r

abbrev pub edges_with : List Key → ℕ → ℕ
edges_with keys r = within keys (firsts keys) r

module _ (key : Key) (keys : List Key) where
  -- The labels of its two places without it.
  abbrev x : ℕ
  x = label keys (place_by false key)

  abbrev y : ℕ
  y = label keys (place_by true key)

  -- It joins two parts: the first one's label has the places of both,
  pub join : (places : List ℕ) → x ≢ y → within (key ∷ keys) places x ≡ within keys places x + within keys places y
  unfolding label
  join places n = how_many-sum _ (λ v. eqb (label keys v) x) (λ v. eqb (label keys v) y) places (λ v. go v (ℕ_discrete (label keys v) y))
    where
      go : (v : ℕ) → Dec (label keys v ≡ y)
          → one (eqb (merged x y (label keys v)) x) ≡ one (eqb (label keys v) x) + one (eqb (label keys v) y)
      go v (yes e) =
          omega (
            arith,
            one_same (merged x y (label keys v)) x (merged-from x y (label keys v) e),
            one-other (label keys v) x (λ z. n (sym z ∙ e)),
            one_same (label keys v) y e,
          )
      go v (no m) =
          omega (arith, ap (λ (z : ℕ). one (eqb z x)) (merged-other x y (label keys v) m), one-other (label keys v) y m)

  -- the second one's has none,
  pub gone : (places : List ℕ) → x ≢ y → within (key ∷ keys) places y ≡ 0
  unfolding label
  gone places n = how_many-none _ places (λ v. go v (ℕ_discrete (label keys v) y))
    where
      go : (v : ℕ) → Dec (label keys v ≡ y) → eqb (merged x y (label keys v)) y ≡ false
      go v (yes e) = ne_eqb (merged x y (label keys v)) y (λ z. n (sym (merged-from x y (label keys v) e) ∙ z))
      go v (no m) = ne_eqb (merged x y (label keys v)) y (λ z. m (sym (merged-other x y (label keys v) m) ∙ z))

  -- and any other label has those that it had.
  pub apart : (places : List ℕ) (r : ℕ) → r ≢ x → r ≢ y → within (key ∷ keys) places r ≡ within keys places r
  unfolding label
  apart places r nx ny = how_many-same _ (λ v. eqb (label keys v) r) places (λ v. go v (ℕ_discrete (label keys v) y))
    where
      go : (v : ℕ) → Dec (label keys v ≡ y) → eqb (merged x y (label keys v)) r ≡ eqb (label keys v) r
      go v (yes e) =
          ne_eqb (merged x y (label keys v)) r (λ z. nx (sym z ∙ merged-from x y (label keys v) e))
          ∙ sym (ne_eqb (label keys v) r (λ z. ny (sym z ∙ e)))
      go v (no m) = ap (λ (z : ℕ). eqb z r) (merged-other x y (label keys v) m)

  -- It lies in one part: every label stays.
  pub stay : (v : ℕ) → x ≡ y → label (key ∷ keys) v ≡ label keys v
  unfolding label
  stay v e = go (ℕ_discrete (label keys v) y)
    where
      go : Dec (label keys v ≡ y) → merged x y (label keys v) ≡ label keys v
      go (yes z) = merged-from x y (label keys v) z ∙ e ∙ sym z
      go (no m) = merged-other x y (label keys v) m

  pub inside : (places : List ℕ) (r : ℕ) → x ≡ y → within (key ∷ keys) places r ≡ within keys places r
  inside places r e = how_many-same _ (λ v. eqb (label keys v) r) places (λ v. ap (λ (z : ℕ). eqb z r) (stay v e))

  -- The key itself has the label of its first place.
  pub edges-in : (r : ℕ) → edges_with (key ∷ keys) r ≡ one (eqb x r) + within (key ∷ keys) (firsts keys) r
  unfolding label how_many
  edges-in r = ap (λ (z : ℕ). one (eqb z r) + within (key ∷ keys) (firsts keys) r) (merged-into x y)

-- Which of two labels that are merged r is.
pub data Which (x y r : ℕ) : Type 0 where
  only : x ≡ y → Which x y r
  left : x ≢ y → r ≡ x → Which x y r
  right : x ≢ y → r ≡ y → Which x y r
  none : x ≢ y → r ≢ x → r ≢ y → Which x y r

pub which : (x y r : ℕ) → Which x y r
which x y r = go (ℕ_discrete x y) (ℕ_discrete r x) (ℕ_discrete r y)
  where
    go : Dec (x ≡ y) → Dec (r ≡ x) → Dec (r ≡ y) → Which x y r
    go (yes e) _ _ = only e
    go (no n) (yes a) _ = left n a
    go (no n) (no a) (yes b) = right n b
    go (no n) (no a) (no b) = none n a b

-- Of the points below n one is r, where r is below n.
pub points-out : (n r : ℕ) → n ≤ r → how_many (λ v. eqb v r) (points n) ≡ 0
points-out n r le = points_none (λ v. eqb v r) n (λ v lt. ne_eqb v r (λ e. omega arith))

pub points-once : (n r : ℕ) → r < n → how_many (λ v. eqb v r) (points n) ≡ 1
points-once n r lt =
    omega (
      arith,
      points-change (λ v. eqb v r) (λ _. false) n r lt (λ v m. ne_eqb v r m),
      one_same r r refl,
      one-false {b = false} refl,
      how_many-none (λ (_ : ℕ). false) (points n) (λ _. refl),
    )

-- Without keys each point is a part of its own.
alone-most : (n r : ℕ) → points_with n [] r ≤ 1
unfolding label
alone-most n r = go (dec_lt r n)
  where
    go : Dec (r < n) → how_many (λ v. eqb v r) (points n) ≤ 1
    go (yes lt) = omega (arith, points-once n r lt)
    go (no ge) = omega (arith, points-out n r (omega (arith, ge)))

-- A part has at most one point more than edges: it is connected.
pub points-most : (n : ℕ) (keys : List Key) (r : ℕ) → points_with n keys r ≤ edges_with keys r + 1
points-most n [] r = omega (arith, alone-most n r)
points-most n (key ∷ keys) r = go (which (label keys (place_by false key)) (label keys (place_by true key)) r) (points-most n keys)
  where
    x : ℕ
    x = label keys (place_by false key)

    y : ℕ
    y = label keys (place_by true key)

    go : Which x y r → ((r : ℕ) → points_with n keys r ≤ edges_with keys r + 1)
        → points_with n (key ∷ keys) r ≤ edges_with (key ∷ keys) r + 1
    go (only e) h = omega (arith, h r, inside key keys (points n) r e, inside key keys (firsts keys) r e, edges-in key keys r)
    go (left m e) h =
        rw e
        (omega (arith, h x, h y, join key keys (points n) m, join key keys (firsts keys) m, edges-in key keys x, one_same x x refl))
    go (right m e) h = rw e (omega (arith, gone key keys (points n) m))
    go (none m a b) h =
        omega (arith, h r, apart key keys (points n) r a b, apart key keys (firsts keys) r a b, edges-in key keys r)
