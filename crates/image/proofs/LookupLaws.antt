-- What a lookup's answer depends on, and what an answered number says, for any bytes at all. Assumes nothing.
use Rattle.std.specs.Prelude.{◌≡◌, refl, ◌⊎◌, Bool, true, false, cond, not, List, [], ◌∷◌, ℕ, suc, ◌-◌, ◌≤◌, ◌<◌, eqb, ltb, length}
use Rattle.std.proofs.Math.Path.{sym, ap}
use Rattle.std.proofs.Common.{◌∙◌, inl, inr, arith, ltb-false, eqb-true}
use Rattle.std.specs.Prelude.{None, Some, unwrap_or}
use Rattle.std.proofs.lemmas.Bool.{eqb-false, not-false}
use Rattle.lists.proofs.BoolLaws.{neither-of-or}
use Rattle.refusal.specs.Limits.{unwired}
use Rattle.refusal.specs.Outcome.{Outcome, answered}
use Rattle.lists.specs.First.{met_at, is_some}
use Rattle.lists.proofs.FirstLaws.{some-of-is_some}
use Rattle.refusal.specs.Checks.{Check, in_order, Pass}
use Rattle.refusal.proofs.ChecksLaws.{false-of-met_at, pass-append, agree_same, in_order-agree, in_order-append, in_order-answered}
use Rattle.hash.specs.Formula.{group_of}
use Rattle.hash.proofs.FormulaLaws.{place-below}
use Rattle.text.specs.Line.{line_at, image_header, group_line, slot_line}
use Rattle.image.specs.View.{View, view_of, count_in, groups_in, start_in, seed_in, end_in, slot_line_in, slot_in, faulty, candidate_in}
use Rattle.image.specs.Checking.{opening_checks}
use Rattle.image.specs.Lookup.{Found, number, unknown, group_checks, lookup_checks, at_slot, lookup_in_group, lookup_of}
use Rattle.image.specs.Fair.{Fair}
use Rattle.image.proofs.FaultLaws.{fair-of-faulty}
use Rattle.image.specs.LinesRead.{LinesRead, own_group, own_slot}
use Rattle.image.proofs.GroupLinesLaws.{same_start, same-seed, same_end, group-agrees}
use Rattle.image.proofs.UnwiredLaws.{by-wired, lookup-unwired, lookup-wired, unwired-unanswered}
use Rattle.image.specs.Holds.{HoldsTag, SlotHolds}

-- Views of one length with one line 0 open alike.
opening-agrees : (v w : View) → v.size ≡ w.size → v.header ≡ w.header → opening_checks v ≡ opening_checks w
unfolding opening_checks count_in groups_in
opening-agrees v w size header = rw (size, header)

-- Two views agree on a line: they read it alike, as line 0, as a group line and as a slot line.
record AgreeAt (v w : View) (k : ℕ) : Type 0 where
  header : k ≡ 0 → v.header ≡ w.header
  group : v.group_at k ≡ w.group_at k
  slot : v.slot_at k ≡ w.slot_at k

-- Two views of one length that agree on the lines that a lookup in the first comes to read, for a tag that is not 0.
module _ (v w : View) (t : ℕ) (wired : t ≡ unwired → ⊥) (same_size : v.size ≡ w.size) (read : LinesRead v t (AgreeAt v w)) where
  same-header : v.header ≡ w.header
  same-header = read.header.header refl

  same-groups : groups_in v ≡ groups_in w
  unfolding groups_in
  same-groups = rw same-header

  same_count : count_in v ≡ count_in w
  unfolding count_in
  same_count = rw same-header

  same-opening : opening_checks v ≡ opening_checks w
  same-opening = opening-agrees v w same_size same-header

  -- The tag's group, which is one in both, and its two slots looked at.
  abbrev own : ℕ
  own = own_group v t

  abbrev slots_of : View → Outcome Found
  slots_of x = at_slot x t (candidate_in x own 0 t) (at_slot x t (candidate_in x own 1 t) (answered unknown))

  -- The image opens: the tag's group line is read, and where it is well formed the next one.
  module _ (opens : Pass (opening_checks v)) where
    own_line : v.group_at (suc own) ≡ w.group_at (suc own)
    own_line = (read.own wired opens).group

    next-line : is_some (v.group_at (suc own)) ≡ true → suc own < groups_in v → v.group_at (suc (suc own)) ≡ w.group_at (suc (suc own))
    next-line well lt = (read.next wired opens well lt).group

    module _ (well : is_some (v.group_at (suc own)) ≡ true) where
      start-agrees : start_in v own ≡ start_in w own
      start-agrees = same_start v w own same-groups same_count own_line

      end-agrees : end_in v own ≡ end_in w own
      end-agrees = same_end v w own same-groups same_count own_line (next-line well)

      same-slot : (c : ℕ) → candidate_in v own c t ≡ candidate_in w own c t
      unfolding candidate_in
      same-slot c = cc (start-agrees, end-agrees, same-seed v w own same-groups same_count own_line)

      same_place : (c : ℕ) → slot_line_in v (candidate_in v own c t) ≡ slot_line_in w (candidate_in w own c t)
      unfolding slot_line_in
      same_place c = cc (same-groups, same-slot c)

      -- A slot looked at: equal lines, and what comes next only where the line is well formed and holds another tag.
      slot-agrees : (c : ℕ) (o p : Outcome Found) → AgreeAt v w (slot_line_in v (candidate_in v own c t))
          → ((u : ℕ) → v.slot_at (slot_line_in v (candidate_in v own c t)) ≡ Some u → (u ≡ t → ⊥) → o ≡ p)
          → at_slot v t (candidate_in v own c t) o ≡ at_slot w t (candidate_in w own c t) p
      unfolding at_slot slot_in
      slot-agrees c o p same next = in_order-agree _ _ _ _ (cc (line, same_place c), λ passes. held passes)
        where
          line : v.slot_at (slot_line_in v (candidate_in v own c t)) ≡ w.slot_at (slot_line_in w (candidate_in w own c t))
          line = same.slot ∙ rw (same_place c)

          held : met_at (slot_line_in v (candidate_in v own c t))
              (not (is_some (v.slot_at (slot_line_in v (candidate_in v own c t))))) ≡ None
              → cond (eqb (unwrap_or (v.slot_at (slot_line_in v (candidate_in v own c t))) 0) t)
              (answered (number (candidate_in v own c t))) o
              ≡ cond (eqb (unwrap_or (w.slot_at (slot_line_in w (candidate_in w own c t))) 0) t)
              (answered (number (candidate_in w own c t))) p
          held passes =
              let (u, reads) = some-of-is_some _ (not-false _ (false-of-met_at (slot_line_in v (candidate_in v own c t)) _ passes)) in
              rw (← line, ← same-slot c, reads) (go u reads (eqb u t) refl)
            where
              go : (u : ℕ) → v.slot_at (slot_line_in v (candidate_in v own c t)) ≡ Some u → (b : Bool) → eqb u t ≡ b
                  → cond (eqb u t) (answered (number (candidate_in v own c t))) o ≡ cond (eqb u t)
                  (answered (number (candidate_in v own c t))) p
              go u reads true e = rw e
              go u reads false e = rw e (next u reads (eqb-false u t e))

      -- Where no check refuses the slots are looked at, unless the group is empty.
      slots-agree : Pass (lookup_checks v own)
          → cond (eqb (start_in v own) (end_in v own)) (answered unknown) (slots_of v)
          ≡ cond (eqb (start_in w own) (end_in w own)) (answered unknown) (slots_of w)
      slots-agree passes = rw (← start-agrees, ← end-agrees) (go (eqb (start_in v own) (end_in v own)) refl)
        where
          go : (b : Bool) → eqb (start_in v own) (end_in v own) ≡ b
              → cond (eqb (start_in v own) (end_in v own)) (answered unknown) (slots_of v)
              ≡ cond (eqb (start_in v own) (end_in v own)) (answered unknown) (slots_of w)
          go true e = rw e
          go false e =
              let filled = eqb-false (start_in v own) (end_in v own) e in
              rw e (slot-agrees 0 _ _ (read.first_slot wired passes filled)
              (λ u reads other. slot-agrees 1 _ _ (read.second-slot wired passes filled u reads other) (λ _ _ _. refl)))

  lookup-agrees : lookup_in_group v t (own_group v t) ≡ lookup_in_group w t (own_group w t)
  unfolding lookup_in_group lookup_checks
  lookup-agrees =
      in_order-append (opening_checks v) _ _
      ∙ in_order-agree (opening_checks v) (opening_checks w) _ _ (rw (← same-opening) (agree_same (opening_checks v) _ behind))
      ∙ sym (in_order-append (opening_checks w) _ _)
      ∙ ap (λ (groups : ℕ). lookup_in_group w t (group_of groups t)) same-groups
    where
      behind : Pass (opening_checks v)
          → in_order (group_checks v own) (cond (eqb (start_in v own) (end_in v own)) (answered unknown) (slots_of v))
          ≡ in_order (group_checks w own) (cond (eqb (start_in w own) (end_in w own)) (answered unknown) (slots_of w))
      behind opens = in_order-agree (group_checks v own) (group_checks w own) _ _
          (group-agrees v w own same-groups same_count (own_line opens) _ (next-line opens)
          (λ well passes. slots-agree opens well (pass-append (opening_checks v) (group_checks v own) opens passes)))

-- "It depends on the image's length, line 0, those two group lines, those two slot lines and the tag, and on no other byte."
pub lookup-depends : (p q : List ℕ) (t : ℕ) → length p ≡ length q → LinesRead (view_of p) t (λ k. line_at k p ≡ line_at k q)
    → lookup_of p t ≡ lookup_of q t
unfolding view_of
lookup-depends p q t size read = by-wired t nobody (λ wired. lookup-wired p t wired ∙ in_group wired ∙ sym (lookup-wired q t wired))
  where
    agree : (k : ℕ) → line_at k p ≡ line_at k q → AgreeAt (view_of p) (view_of q) k
    agree k same = record { header = λ first. ap image_header (rw first at same); group = ap group_line same; slot = ap slot_line same }

    nobody : t ≡ unwired → lookup_of p t ≡ lookup_of q t
    nobody zero =
        let opening = opening-agrees (view_of p) (view_of q) size (ap image_header read.header) in
        rw zero (lookup-unwired p ∙ ap (λ (checks : List Check). in_order checks (answered unknown)) opening ∙ sym (lookup-unwired q))

    in_group : (t ≡ unwired → ⊥) → lookup_in_group (view_of p) t (own_group (view_of p) t) ≡ lookup_in_group (view_of q) t
        (own_group (view_of q) t)
    in_group wired = lookup-agrees (view_of p) (view_of q) t wired size record {
      header = agree 0 read.header;
      own = λ wired opens. agree _ (read.own wired opens);
      next = λ wired opens well more. agree _ (read.next wired opens well more);
      first_slot = λ wired passes filled. agree _ (read.first_slot wired passes filled);
      second-slot = λ wired passes filled u reads other. agree _ (read.second-slot wired passes filled u reads other);
    }

-- For tag 0 it depends on the length and line 0 alone: no group line and no slot line is read.
pub unwired-depends : (p q : List ℕ) → length p ≡ length q → line_at 0 p ≡ line_at 0 q → lookup_of p unwired ≡ lookup_of q unwired
unwired-depends p q size first = lookup-depends p q unwired size record {
  header = first;
  own = λ wired. absurd (wired refl);
  next = λ wired. absurd (wired refl);
  first_slot = λ wired. absurd (wired refl);
  second-slot = λ wired. absurd (wired refl);
}

-- A slot looked at answers j only where it is slot j and holds the tag, or where what comes next answers j.
slot-answers : (v : View) (t i j : ℕ) (next : Outcome Found) → i < count_in v → at_slot v t i next ≡ answered (number j)
    → HoldsTag v j t ⊎ (next ≡ answered (number j))
unfolding at_slot slot_in
slot-answers v t i j next inside e =
    let line = v.slot_at (slot_line_in v i) in
    let ((well, end), e') = in_order-answered ((12, met_at (slot_line_in v i) (not (is_some line))) ∷ []) _ e in
    let (u, reads) = some-of-is_some line (not-false (is_some line) (false-of-met_at (slot_line_in v i) (not (is_some line)) well)) in
    go u reads (eqb u t) refl (rw reads at e')
  where
    go : (u : ℕ) → v.slot_at (slot_line_in v i) ≡ Some u → (b : Bool) → eqb u t ≡ b
        → cond (eqb u t) (answered (number i)) next ≡ answered (number j) → HoldsTag v j t ⊎ (next ≡ answered (number j))
    go u reads true f e =
        let same : i ≡ j = (let g = rw f at e in cc) in
        inl (record { slot = rw same at inside; tag = rw (same, eqb-true u t f) at reads })
    go u reads false f e = inr (rw f at e)

view-any : (v : View) (t j : ℕ) → lookup_in_group v t (own_group v t) ≡ answered (number j) → HoldsTag v j t
unfolding lookup_in_group lookup_checks group_checks opening_checks candidate_in
view-any v t j e =
    let g = own_group v t in
    let ((a, (b, (c, (d, (f, (group, end)))))), e') = in_order-answered (lookup_checks v g) _ e in
    let (fine, ends) = neither-of-or (faulty g (start_in v g) (end_in v g)) (ltb (count_in v) (end_in v g)) (false-of-met_at g _ group) in
    go (fair-of-faulty g (start_in v g) (end_in v g) fine) (ltb-false (count_in v) (end_in v g) ends)
    (eqb (start_in v g) (end_in v g)) refl e'
  where
    g : ℕ
    g = own_group v t

    rest : Outcome Found
    rest = at_slot v t (own_slot v 0 t) (at_slot v t (own_slot v 1 t) (answered unknown))

    go : Fair g (start_in v g) (end_in v g) → end_in v g ≤ count_in v → (b : Bool) → eqb (start_in v g) (end_in v g) ≡ b
        → cond (eqb (start_in v g) (end_in v g)) (answered unknown) rest ≡ answered (number j) → HoldsTag v j t
    go fair ends true f e = absurd (let z : ◌≡◌ {A = ℕ} 0 1 = cc (rw f at e) in omega arith)
    go fair ends false f e = first_slot (slot-answers v t (own_slot v 0 t) j _ (inside 0) (rw f at e))
      where
        inside : (c : ℕ) → own_slot v c t < count_in v
        inside c =
            let filled = eqb-false (start_in v g) (end_in v g) f in
            let up = fair.ascends in
            omega (arith, place-below (end_in v g - start_in v g) (seed_in v g) c t (omega (arith, filled)))

        second-slot : HoldsTag v j t ⊎ (answered unknown ≡ answered (number j)) → HoldsTag v j t
        second-slot (inl h) = h
        second-slot (inr e) = absurd (let z : ◌≡◌ {A = ℕ} 0 1 = cc in omega arith)

        first_slot : HoldsTag v j t ⊎ (at_slot v t (own_slot v 1 t) (answered unknown) ≡ answered (number j)) → HoldsTag v j t
        first_slot (inl h) = h
        first_slot (inr e) = second-slot (slot-answers v t (own_slot v 1 t) j (answered unknown) (inside 1) e)

-- For any bytes, checked or not: a number that lookup answers is below N, and that slot holds the tag.
pub lookup-any : (image : List ℕ) (t j : ℕ) → lookup_of image t ≡ answered (number j) → SlotHolds image j t
lookup-any image t j e = by-wired t
    (λ zero. absurd (unwired-unanswered image j (rw zero at e)))
    (λ wired. view-any (view_of image) t j (sym (lookup-wired image t wired) ∙ e))
