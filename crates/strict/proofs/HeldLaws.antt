-- The slots of a group of a checked image: they hold different tags of the group, each at one of its places, so that the seed that
-- the image states serves them. Assumes nothing.
use Rattle.strict.specs.Servable.{Servable}
use Prim.Native.Nat.{ℕ, zero, suc, ◌+◌, ◌-◌, ◌*◌, ◌≤◌, ◌<◌}
use Rattle.std.specs.Prelude.{◌≡◌, refl, ◌⊎◌, Bool, true, false, List, [], ◌∷◌, length, Option, None, Some, unwrap_or}
use Rattle.std.proofs.Common.{sym, ◌∙◌, arith}
use Rattle.std.proofs.Math.Path.{ap}
use Rattle.std.proofs.Math.Logic.{inl, inr}
use Rattle.std.proofs.Math.Bool.{not-eq-not}
use Rattle.std.proofs.Math.ListN.{get_or}
use borrow.Author.Tests.{eqb-true, not-false}
use Rattle.refusal.specs.Limits.{seed_max, limit_max, tag_end, unwired}
use Rattle.refusal.specs.Outcome.{answered}
use Rattle.refusal.proofs.ChecksLaws.{passed, false-of-met}
use Rattle.lists.specs.First.{is_some}
use Rattle.lists.proofs.FirstLaws.{some-of-is_some}
use Rattle.lists.specs.Occurs.{occurs, distinct}
use Rattle.lists.proofs.OccursLaws.{IndexOf, get_or-occurs, occurs-get_or, get_or-distinct, distinct-get_or}
use Rattle.lists.proofs.UpToLaws.{up_to-length, up_to-at}
use Rattle.hash.specs.Formula.{place_of}
use Rattle.text.specs.Line.{line_length, line_at, pair_line, tag_line, image_header, group_line}
use Rattle.text.proofs.LineLaws.{image-header-only, group-only, slot-only}
use Rattle.filling.specs.Filling.{place_by, Fills}
use Rattle.filling.proofs.FillingLaws.{apart-fills}
use Rattle.filling.specs.Word.{choice_number}
use Rattle.sorting.specs.Sorted.{sorted}
use Rattle.sorting.proofs.SortedLaws.{sorted-length, sorted-occurs, sorted-ascending}
use Rattle.group.proofs.AscendingLaws.{ascending-distinct}
use Rattle.group.specs.Group.{group_under, least_seed}
use Rattle.group.proofs.GroupLaws.{candidate-place, group-size, least_seed-none}
use Rattle.image.specs.View.{View, view_of, count_in, groups_in, start_in, seed_in, end_in, slot_line_in, slot_in, candidate_in}
use Rattle.image.specs.Holds.{HoldsTag}
use Rattle.image.specs.Sheet.{image_length}
use Rattle.image.specs.Checking.{opening_checks, checking_of}
use Rattle.image.specs.Fair.{LiesIn, AllFair}
use Rattle.image.proofs.FaultLaws.{end-most, lies-once}
use Rattle.image.specs.LinesRead.{own_group}
use Rattle.image.proofs.CheckedLookupLaws.{Sound, slot_in-reads, fair, slot-lies, slot-own, holds-once, checked-wired, accepted-sound}
use Rattle.strict.specs.AsBuilt.{slots_in}

-- A choice for each of n indices, one after the other.
collected : (n : ℕ) (P : ℕ → Bool → Type 0) → ((i : ℕ) → i < n → (c : Bool) × P i c)
    → (cs : List Bool) × (length cs ≡ n) × ((i : ℕ) → i < n → P i (get_or cs i false))
collected zero P each = ([], refl, λ i lt. absurd (omega arith))
collected (suc n) P each =
    let (c, here) = each 0 (omega arith) in
    let (cs, whole, rest) = collected n (λ i. P (suc i)) (λ i lt. each (suc i) (omega arith)) in
    (c ∷ cs, ap suc whole, all c cs here rest)
  where
    all : (c : Bool) (cs : List Bool) → P 0 c → ((i : ℕ) → i < n → P (suc i) (get_or cs i false))
        → (i : ℕ) → i < suc n → P i (get_or (c ∷ cs) i false)
    all c cs here rest zero lt = here
    all c cs here rest (suc i) lt = rest i (omega arith)

module _ (image : List ℕ) (accepted : checking_of image ≡ answered 0) where
  abbrev v : View
  v = view_of image

  sound : Sound v
  sound = (accepted-sound image accepted).0

  pub many : 0 < groups_in v
  many = (accepted-sound image accepted).1

  pub all_fair : AllFair v
  all_fair = fair v sound many

  -- Its length and its line 0 are as the numbers say.
  header-reads : (n : ℕ) × (b : ℕ) × (image_header (line_at 0 image) ≡ Some (n, b))
  unfolding view_of opening_checks
  header-reads =
      let well = not-false (is_some v.header) (false-of-met _ (passed (opening_checks v) sound.opens 12)) in
      let ((n, b), reads) = some-of-is_some v.header well in
      (n, b, reads)

  pub header-stated : line_at 0 image ≡ pair_line (count_in v) (groups_in v)
  unfolding view_of count_in groups_in
  header-stated =
      let (n, b, reads) = header-reads in
      let count-is : count_in v ≡ n = ap (λ (o : Option (ℕ × ℕ)). (unwrap_or o (0, 0)).0) reads in
      let groups-is : groups_in v ≡ b = ap (λ (o : Option (ℕ × ℕ)). (unwrap_or o (0, 0)).1) reads in
      rw (count-is, groups-is) (image-header-only n b (line_at 0 image) reads).0

  pub image-long : length image ≡ line_length * (1 + groups_in v + count_in v)
  unfolding view_of opening_checks image_length
  image-long =
      let (short, (header, (long, end))) = sound.opens in
      eqb-true (length image) (image_length (groups_in v) (count_in v)) (not-false _ (false-of-met _ long))

  -- Every slot holds the tag that is read from it, and no two the same.
  pub holds : (j : ℕ) → j < count_in v → HoldsTag v j (slot_in v j)
  holds j lt =
      let (u, reads) = some-of-is_some (v.slot_at (slot_line_in v j)) (sound.slot-lines j lt) in
      record { slot = lt; tag = reads ∙ ap Some (sym (slot_in-reads v j reads)) }

  pub slots_apart : (i j : ℕ) → i < count_in v → j < count_in v → slot_in v i ≡ slot_in v j → i ≡ j
  slots_apart i j li lj e = holds-once v sound many (slot_in v j) i j (rw e at (holds i li)) (holds j lj)

  -- A slot that holds a tag lies in the tag's group.
  pub own-lies : (t j : ℕ) → HoldsTag v j t → LiesIn v j (own_group v t)
  own-lies t j h = slot-lies v sound many t j h

  module _ (g : ℕ) (lt : g < groups_in v) where
    abbrev size : ℕ
    size = end_in v g - start_in v g

    pub slots-size : length (slots_in v g) ≡ size
    unfolding slots_in
    slots-size = up_to-length size (λ i. slot_in v (start_in v g + i))

    pub slots_at_lem : (p : ℕ) → p < size → get_or (slots_in v g) p 0 ≡ slot_in v (start_in v g + p)
    unfolding slots_in
    slots_at_lem p below = up_to-at size (λ i. slot_in v (start_in v g + i)) 0 p below

    -- Slot p of the group is a slot of the image, and lies in the group.
    pub slot-inside : (p : ℕ) → p < size → LiesIn v (start_in v g + p) g
    slot-inside p below =
        record { group = lt; from = omega arith; below = omega (arith, (all_fair g lt).ascends) }

    pub slot-below : (p : ℕ) → p < size → start_in v g + p < count_in v
    slot-below p below = omega (arith, (slot-inside p below).below, end-most v all_fair g lt)

    -- The tag in it is one of the group's, at its first or its second place.
    pub slot-group : (p : ℕ) → p < size → own_group v (slot_in v (start_in v g + p)) ≡ g
    slot-group p below =
        let j = start_in v g + p in
        let t = slot_in v j in
        lies-once v all_fair j (own_group v t) g (own-lies t j (holds j (slot-below p below))) (slot-inside p below)

    slot-place : (p : ℕ) → p < size → let t = slot_in v (start_in v g + p) in
        (p ≡ place_of size (seed_in v g) 0 t) ⊎ (p ≡ place_of size (seed_in v g) 1 t)
    unfolding candidate_in
    slot-place p below =
        let j = start_in v g + p in
        let t = slot_in v j in
        go (rw (slot-group p below) at (slot-own v sound many t j (holds j (slot-below p below))))
      where
        go : (start_in v g + p ≡ candidate_in v g 0 (slot_in v (start_in v g + p)))
            ⊎ (start_in v g + p ≡ candidate_in v g 1 (slot_in v (start_in v g + p)))
            → (p ≡ place_of size (seed_in v g) 0 (slot_in v (start_in v g + p)))
            ⊎ (p ≡ place_of size (seed_in v g) 1 (slot_in v (start_in v g + p)))
        go (inl e) = inl (omega (arith, e))
        go (inr e) = inr (omega (arith, e))

    -- So the seed serves them: each tag chooses the place of the slot that it stands in.
    abbrev tags : List ℕ
    tags = sorted (slots_in v g)

    tags-size : length tags ≡ size
    tags-size = sorted-length (slots_in v g) ∙ slots-size

    pub slots-differ : distinct (slots_in v g) ≡ true
    slots-differ = get_or-distinct (slots_in v g) apart
      where
        apart : (i j : ℕ) → i < length (slots_in v g) → j < length (slots_in v g)
            → get_or (slots_in v g) i 0 ≡ get_or (slots_in v g) j 0 → i ≡ j
        apart i j li lj e =
            let bi = rw slots-size at li in
            let bj = rw slots-size at lj in
            let alike = sym (slots_at_lem i bi) ∙ e ∙ slots_at_lem j bj in
            let equal = slots_apart (start_in v g + i) (start_in v g + j) (slot-below i bi) (slot-below j bj) alike in
            omega (arith, equal)

    -- The choice of the tag with index i takes the slot that holds the tag.
    abbrev Stands : ℕ → Bool → Type 0
    Stands i choice = get_or (slots_in v g) (place_by choice (get_or (group_under tags (seed_in v g)) i (0, 0))) 0 ≡ get_or tags i 0

    stands : (i : ℕ) → i < size → (choice : Bool) × Stands i choice
    unfolding choice_number
    stands i lti = go (slot-place p below)
      where
        t : ℕ
        t = get_or tags i 0

        at : IndexOf t (slots_in v g)
        at = occurs-get_or (slots_in v g) t (sym (sorted-occurs t (slots_in v g)) ∙ get_or-occurs tags i (rw tags-size lti))

        p : ℕ
        p = at.index

        below : p < size
        below = rw slots-size at at.inside

        tag : slot_in v (start_in v g + p) ≡ t
        tag = sym (slots_at_lem p below) ∙ at.value

        takes : (choice : Bool) → p ≡ place_of size (seed_in v g) (choice_number choice) (slot_in v (start_in v g + p)) → Stands i choice
        takes choice e =
            let place = candidate-place (length tags) (seed_in v g) tags i choice (rw tags-size lti) in
            let same : place_of size (seed_in v g) (choice_number choice) (slot_in v (start_in v g + p))
            ≡ place_of (length tags) (seed_in v g) (choice_number choice) t = rw (tag, tags-size) in
            rw (place, ← same, ← e) at.value

        go : (p ≡ place_of size (seed_in v g) 0 (slot_in v (start_in v g + p)))
            ⊎ (p ≡ place_of size (seed_in v g) 1 (slot_in v (start_in v g + p)))
            → (choice : Bool) × Stands i choice
        go (inl e) = (false, takes false e)
        go (inr e) = (true, takes true e)

    pub stated-fills : (choices : List Bool) × Fills (group_under tags (seed_in v g)) choices
    stated-fills =
        let keys = group_under tags (seed_in v g) in
        let many-keys = group-size tags (seed_in v g) in
        let (cs, whole, each) = collected size Stands stands in (
          cs,
          apart-fills keys cs (whole ∙ sym tags-size ∙ sym many-keys) (λ i j li lj e.
              once cs each i j (rw (many-keys, tags-size) at li) (rw (many-keys, tags-size) at lj) e),
        )
      where
        once : (cs : List Bool) → ((i : ℕ) → i < size → Stands i (get_or cs i false)) → (i j : ℕ) → i < size → j < size
            → place_by (get_or cs i false) (get_or (group_under tags (seed_in v g)) i (0, 0))
            ≡ place_by (get_or cs j false) (get_or (group_under tags (seed_in v g)) j (0, 0)) → i ≡ j
        once cs each i j li lj e =
            let ascending = sorted-ascending (slots_in v g) slots-differ in
            distinct-get_or tags (ascending-distinct tags ascending) i j (rw tags-size li) (rw tags-size lj)
            (sym (each i li) ∙ rw e (each j lj))

  -- Its line states what is read from it, a seed in its range.
  pub group-stated : (g : ℕ) → g < groups_in v → (line_at (suc g) image ≡ pair_line (start_in v g) (seed_in v g)) × (seed_in v g ≤ seed_max)
  unfolding view_of start_in seed_in
  group-stated g lt =
      let ((start, seed), reads) = some-of-is_some (group_line (line_at (suc g) image)) (sound.group_lines g lt) in
      let (line, small, legal) = group-only start seed (line_at (suc g) image) reads in
      let start_is : start_in v g ≡ start = ap (λ (o : Option (ℕ × ℕ)). (unwrap_or o (0, 0)).0) reads in
      let seed-is : seed_in v g ≡ seed = ap (λ (o : Option (ℕ × ℕ)). (unwrap_or o (0, 0)).1) reads in
      rw (start_is, seed-is) (line, legal)

  -- So does the line of a slot.
  pub slot-stated : (j : ℕ) → j < count_in v → (line_at (slot_line_in v j) image ≡ tag_line (slot_in v j)) × (slot_in v j < tag_end)
  unfolding view_of
  slot-stated j lt = slot-only (slot_in v j) (line_at (slot_line_in v j) image) (holds j lt).tag

  pub servable : (g : ℕ) → g < groups_in v → Servable (seed_in v g) (slots_in v g)
  servable g lt =
      let (cs, fills) = stated-fills g lt in
      record {
        few = omega (arith, slots-size g lt, (all_fair g lt).small);
        differ = slots-differ g lt;
        wired = not-eq-not.0 zero;
        seed-legal = (group-stated g lt).1;
        choices = cs;
        fills = fills;
      }
    where
      zero : occurs unwired (slots_in v g) ≡ true → ⊥
      zero m =
          let at = occurs-get_or (slots_in v g) unwired m in
          let below = rw (slots-size g lt) at at.inside in
          let tag = sym (slots_at_lem g lt at.index below) ∙ at.value in
          checked-wired image accepted (start_in v g + at.index)
          (rw tag at (holds (start_in v g + at.index) (slot-below g lt at.index below)))

-- Building finds a seed for such tags.
pub seed-found : (seed : ℕ) (slots : List ℕ) → Servable seed slots → (s : ℕ) × (least_seed (sorted slots) limit_max ≡ Some s)
seed-found seed slots a = go (least_seed (sorted slots) limit_max) refl
  where
    go : (o : Option ℕ) → least_seed (sorted slots) limit_max ≡ o → (s : ℕ) × (least_seed (sorted slots) limit_max ≡ Some s)
    go None e = absurd (least_seed-none (sorted slots) limit_max e seed (omega (arith, a.seed-legal)) a.choices a.fills)
    go (Some s) e = (s, e)
