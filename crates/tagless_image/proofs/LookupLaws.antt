-- What a lookup in an index without tags depends on, and how far its numbers go, for any bytes at all. Assumes nothing.
use Rattle.std.specs.Prelude.{◌≡◌, Bool, true, false, List, eqb, ltb, length}
use Rattle.std.proofs.Math.Path.{refl, sym}
use Rattle.std.proofs.Common.{◌∙◌, ap, arith, ltb-false, ne_eqb}
use Rattle.std.proofs.Math.Bool.{cond}
use Prim.Native.Nat.{ℕ, suc, ◌-◌, ◌≤◌, ◌<◌}
use Rattle.std.proofs.lemmas.Bool.{eqb-false}
use Rattle.lists.proofs.BoolLaws.{neither-of-or}
use Rattle.refusal.specs.Limits.{unwired}
use Rattle.refusal.specs.Outcome.{Outcome, answered}
use Rattle.lists.specs.First.{is_some}
use Rattle.refusal.specs.Checks.{in_order, Pass}
use Rattle.refusal.proofs.ChecksLaws.{false-of-met_at, passed, pass-split, agree_same, in_order-agree, in_order-append, in_order-answered}
use Rattle.hash.specs.Formula.{group_of}
use Rattle.hash.proofs.FormulaLaws.{place-below}
use Rattle.filling.specs.Word.{choice_number}
use Rattle.text.specs.Line.{line_at}
use Rattle.image.specs.View.{View, count_in, groups_in, start_in, seed_in, end_in, faulty, candidate_in}
use Rattle.image.specs.Lookup.{Found, number, unknown, group_checks}
use Rattle.image.specs.LinesRead.{own_group}
use Rattle.image.proofs.GroupLinesLaws.{same_start, same-seed, same_end, group-agrees}
use Rattle.image.specs.Fair.{Fair}
use Rattle.image.proofs.FaultLaws.{fair-of-faulty}
use Rattle.image.proofs.UnwiredLaws.{by-wired}
use Rattle.tagless_group.specs.Words.{choice_by}
use Rattle.tagless_image.specs.View.{group_line_at, stated_at, tagless_view, word_in}
use Rattle.tagless_image.specs.Checking.{tagless_opening}
use Rattle.tagless_image.specs.Lookup.{tagless_lookup_checks, number_by, tagless_in_group, tagless_lookup_of}
use Rattle.tagless_image.specs.LinesRead.{GroupLinesRead}

-- Lookup of 0, and of any other tag.
module _ (image : List ℕ) where
  pub lookup-unwired : tagless_lookup_of image unwired ≡ in_order (tagless_opening (tagless_view image)) (answered unknown)
  unfolding tagless_lookup_of
  lookup-unwired = refl

  pub lookup-wired : (t : ℕ) → (t ≡ unwired → ⊥) → tagless_lookup_of image t
      ≡ tagless_in_group (tagless_view image) (word_in image (own_group (tagless_view image) t)) t (own_group (tagless_view image) t)
  unfolding tagless_lookup_of
  lookup-wired t wired = rw (ne_eqb t unwired wired)

  -- Looking up 0 never gives a number.
  pub unwired-unanswered : (j : ℕ) → tagless_lookup_of image unwired ≡ answered (number j) → ⊥
  unwired-unanswered j e =
      let behind = (in_order-answered (tagless_opening (tagless_view image)) (answered unknown) (sym lookup-unwired ∙ e)).1 in
      let z : ◌≡◌ {A = ℕ} 0 1 = cc in
      omega arith

-- A number that is answered from a group is below N, whatever the lines state.
in-group-below : (v : View) (word t g : ℕ) {j : ℕ} → tagless_in_group v word t g ≡ answered (number j) → j < count_in v
unfolding tagless_in_group tagless_lookup_checks group_checks number_by candidate_in
in-group-below v word t g {j} e =
    let (passes, e') = in_order-answered (tagless_lookup_checks v g) _ e in
    let group = passed (group_checks v g) (pass-split (tagless_opening v) (group_checks v g) passes).1 13 in
    let (fine, ends) = neither-of-or (faulty g (start_in v g) (end_in v g)) (ltb (count_in v) (end_in v g)) (false-of-met_at g _ group) in
    go (fair-of-faulty g (start_in v g) (end_in v g) fine) (ltb-false (count_in v) (end_in v g) ends)
    (eqb (start_in v g) (end_in v g)) refl e'
  where
    choice : ℕ
    choice = choice_number (choice_by word (seed_in v g) t)

    go : Fair g (start_in v g) (end_in v g) → end_in v g ≤ count_in v → (b : Bool) → eqb (start_in v g) (end_in v g) ≡ b
        → cond (eqb (start_in v g) (end_in v g)) (answered unknown) (answered (number (candidate_in v g choice t))) ≡ answered (number j)
        → j < count_in v
    go fair ends true f e = absurd (let z : ◌≡◌ {A = ℕ} 0 1 = cc (rw f at e) in omega arith)
    go fair ends false f e =
        let same : candidate_in v g choice t ≡ j = (let h = rw f at e in cc) in
        let filled = eqb-false (start_in v g) (end_in v g) f in
        let up = fair.ascends in
        omega (arith, place-below (end_in v g - start_in v g) (seed_in v g) choice t (omega (arith, filled)), same)

-- "a stranger's number is below N": for any bytes, checked or not, every number that lookup answers is.
pub lookup-below : (image : List ℕ) (t j : ℕ) → tagless_lookup_of image t ≡ answered (number j) → j < count_in (tagless_view image)
lookup-below image t j e = by-wired t
    (λ zero. absurd (unwired-unanswered image j (rw zero at e)))
    (λ wired. in-group-below (tagless_view image) _ t _ (sym (lookup-wired image t wired) ∙ e))

-- Views of one length with one line 0 open alike.
opening-agrees : (v w : View) → v.size ≡ w.size → v.header ≡ w.header → tagless_opening v ≡ tagless_opening w
unfolding tagless_opening groups_in
opening-agrees v w size header = rw (size, header)

-- Two images of one length with one line 0, and alike in the group lines that a lookup in the first comes to read.
module _ (p q : List ℕ) (t : ℕ) (same_size : length p ≡ length q) (same_line : line_at 0 p ≡ line_at 0 q)
    (read : GroupLinesRead (tagless_view p) t (λ g. group_line_at g p ≡ group_line_at g q)) where
  abbrev v : View
  v = tagless_view p

  abbrev w : View
  w = tagless_view q

  same-header : v.header ≡ w.header
  unfolding tagless_view
  same-header = rw same_line

  same-groups : groups_in v ≡ groups_in w
  unfolding groups_in
  same-groups = rw same-header

  same_count : count_in v ≡ count_in w
  unfolding count_in
  same_count = rw same-header

  same-opening : tagless_opening v ≡ tagless_opening w
  unfolding tagless_view
  same-opening = opening-agrees v w same_size same-header

  -- A group line that is the same in both is read alike, its word too.
  stated-agrees : (g : ℕ) → group_line_at g p ≡ group_line_at g q → stated_at p (suc g) ≡ stated_at q (suc g)
  unfolding stated_at
  stated-agrees g same = rw same

  line-agrees : (g : ℕ) → group_line_at g p ≡ group_line_at g q → v.group_at (suc g) ≡ w.group_at (suc g)
  unfolding tagless_view
  line-agrees g same = rw (stated-agrees g same)

  -- The tag's group, which is one in both.
  abbrev own : ℕ
  own = own_group v t

  in-group-agrees : (t ≡ unwired → ⊥) → tagless_in_group v (word_in p own) t own ≡ tagless_in_group w (word_in q own) t own
  unfolding tagless_in_group tagless_lookup_checks number_by candidate_in word_in
  in-group-agrees wired =
      in_order-append (tagless_opening v) _ _
      ∙ in_order-agree (tagless_opening v) (tagless_opening w) _ _ (rw (← same-opening) (agree_same (tagless_opening v) _ behind))
      ∙ sym (in_order-append (tagless_opening w) _ _)
    where
      found : View → ℕ → Outcome Found
      found x word = cond (eqb (start_in x own) (end_in x own)) (answered unknown) (answered (number (number_by x word own t)))

      behind : Pass (tagless_opening v)
          → in_order (group_checks v own) (found v (word_in p own)) ≡ in_order (group_checks w own) (found w (word_in q own))
      behind opens =
          let line = line-agrees own (read.own wired opens) in
          let next : is_some (v.group_at (suc own)) ≡ true → suc own < groups_in v → v.group_at (suc (suc own))
          ≡ w.group_at (suc (suc own)) =
          λ well lt. line-agrees (suc own) (read.next wired opens well lt) in
          in_order-agree (group_checks v own) (group_checks w own) _ _
          (group-agrees v w own same-groups same_count line _ next
          (λ well passes.
          cc (
            same_start v w own same-groups same_count line,
            same-seed v w own same-groups same_count line,
            same_end v w own same-groups same_count line (next well),
            stated-agrees own (read.own wired opens),
          )))

  -- "lookup depends on the length, line 0, the two group lines and the tag, on no other byte."
  pub lookup-depends : tagless_lookup_of p t ≡ tagless_lookup_of q t
  lookup-depends = by-wired t
      (λ zero. rw zero (lookup-unwired p ∙ rw same-opening (sym (lookup-unwired q))))
      (λ wired.
      lookup-wired p t wired
      ∙ in-group-agrees wired
      ∙ ap (λ (groups : ℕ). tagless_in_group w (word_in q (group_of groups t)) t (group_of groups t)) same-groups
      ∙ sym (lookup-wired q t wired))
