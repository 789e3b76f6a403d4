-- Condition 2, over the definitions: in an image that checking accepts, lookup finds exactly the tags that the slots hold.
-- Assumes nothing.
use Rattle.std.specs.Prelude.{◌≡◌, ◌⊎◌, ◌↔◌, true, cond, ◌&&◌, ◌||◌, List, ◌∷◌, Option, None, Some, unwrap_or}
use Rattle.std.proofs.Math.Path.{refl, sym}
use Rattle.std.proofs.Common.{◌∙◌, ap, inl, inr}
use Rattle.std.proofs.Math.Bool.{Bool, false, not, true≢false, or-true}
use Prim.Native.Nat.{ℕ, zero, suc, ◌+◌, ◌-◌, ◌≤◌, ◌<◌}
use native.Mathlib.Omega.{arith}
use Rattle.std.proofs.Math.Dec.{eqb, leb, ltb}
use borrow.Author.Tests.{ltb-true, ltb-false, lt-ltb, le-ltb, le-leb, eqb-true, eqb-false, eq-eqb, not-false}
use Rattle.refusal.specs.Limits.{tags_max, unwired}
use Rattle.lists.proofs.BoolLaws.{neither-of-or, either-of-or}
use Rattle.refusal.specs.Outcome.{Outcome, answered, refused}
use Rattle.lists.specs.First.{first, met_at, is_some}
use Rattle.lists.proofs.FirstLaws.{first_some, first-none, first_out, some-of-is_some, none-of-is_some}
use Rattle.refusal.specs.Checks.{Check, in_order, Pass}
use Rattle.refusal.proofs.ChecksLaws.{◌then◌, met_at-false, false-of-met, passed, pass-append, pass-split, in_order-pass, in_order-answered}
use Rattle.refusal.proofs.ChecksLaws.{Met, met-behind, met-alone, in_order-refused, in_order-append}
use Rattle.hash.proofs.FormulaLaws.{group-below, place-below}
use Rattle.text.specs.Line.{line_at, image_header}
use Rattle.text.proofs.LineLaws.{image-header-only}
use Rattle.image.specs.View.{View, view_of, count_in, groups_in, start_in, seed_in, end_in, slot_line_in, slot_in, faulty, candidate_in}
use Rattle.image.specs.Holds.{HoldsTag, SlotHolds}
use Rattle.image.specs.Checking.{opening_checks, malformed_in, group_of_slot, holds_unwired, misplaced, repeated, number_checks}
use Rattle.image.specs.Checking.{checking_checks, checking_of}
use Rattle.image.specs.Lookup.{Found, number, unknown, group_checks, lookup_checks, at_slot, lookup_in_group, lookup_of}
use Rattle.image.specs.LinesRead.{own_group, own_slot}
use Rattle.image.proofs.UnwiredLaws.{by-wired, lookup-unwired, lookup-wired}
use Rattle.image.specs.Fair.{LiesIn, AllFair}
use Rattle.image.proofs.FaultLaws.{fair-of-faulty, end-most, group_of_slot-lies}

-- What checking establishes of an image that it accepts.
pub record Sound (v : View) : Type 0 where
  pub opens : Pass (opening_checks v)
  pub group_lines : (g : ℕ) → g < groups_in v → is_some (v.group_at (suc g)) ≡ true
  pub slot-lines : (j : ℕ) → j < count_in v → is_some (v.slot_at (slot_line_in v j)) ≡ true
  pub wired : (j : ℕ) → j < count_in v → holds_unwired v j ≡ false
  pub not-faulty : (g : ℕ) → g < groups_in v → faulty g (start_in v g) (end_in v g) ≡ false
  pub placed : (j : ℕ) → j < count_in v → misplaced v j ≡ false
  pub once : (j : ℕ) → j < count_in v → repeated v j ≡ false

-- Where no line is malformed every slot line states a tag.
slots_read : (v : View) → first (malformed_in v) (1 + groups_in v + count_in v) ≡ None
    → (j : ℕ) → j < count_in v → is_some (v.slot_at (slot_line_in v j)) ≡ true
unfolding malformed_in slot_line_in
slots_read v lines j lt =
    let past : groups_in v ≤ groups_in v + j = omega arith in
    let e : 1 + groups_in v + j ≡ suc (groups_in v + j) = omega arith in
    let well = first-none (malformed_in v) (1 + groups_in v + count_in v) lines (suc (groups_in v + j)) (omega arith) in
    rw e (not-false (is_some (v.slot_at (suc (groups_in v + j)))) (rw (le-ltb (groups_in v + j) (groups_in v) past) at well))

pub sound-of-pass : (v : View) → Pass (checking_checks v) → Sound v
unfolding checking_checks number_checks malformed_in slot_line_in
sound-of-pass v passes =
    let (opens, (lines, numbers)) = pass-split (opening_checks v) _ passes in
    let well = first-none (malformed_in v) (1 + groups_in v + count_in v) lines in
    record {
      opens = opens;
      group_lines = λ g lt. not-false (is_some (v.group_at (suc g))) (rw (lt-ltb g (groups_in v) lt) at (well (suc g) (omega arith)));
      slot-lines = slots_read v lines;
      wired = first-none (holds_unwired v) (count_in v) (passed (number_checks v) numbers 17);
      not-faulty = first-none (λ g. faulty g (start_in v g) (end_in v g)) (groups_in v) (passed (number_checks v) numbers 13);
      placed = first-none (misplaced v) (count_in v) (passed (number_checks v) numbers 14);
      once = first-none (repeated v) (count_in v) (passed (number_checks v) numbers 15);
    }

-- Line 0 of an image that opens is well formed.
opens-header : (v : View) → Pass (opening_checks v) → is_some v.header ≡ true
unfolding opening_checks
opens-header v passes = not-false (is_some v.header) (false-of-met _ (passed (opening_checks v) passes 12))

-- And such an image is accepted.
pub pass-of-sound : (v : View) → Sound v → Pass (checking_checks v)
unfolding checking_checks number_checks malformed_in slot_line_in
pass-of-sound v s =
    pass-append (opening_checks v) _ s.opens
    (first_out (malformed_in v) (1 + groups_in v + count_in v) well
    then first_out (holds_unwired v) (count_in v) s.wired
    then first_out (λ g. faulty g (start_in v g) (end_in v g)) (groups_in v) s.not-faulty
    then first_out (misplaced v) (count_in v) s.placed
    then first_out (repeated v) (count_in v) s.once
    then tt)
  where
    well : (k : ℕ) → k < 1 + groups_in v + count_in v → malformed_in v k ≡ false
    well zero lt = rw (opens-header v s.opens)
    well (suc k) lt = go (ltb k (groups_in v)) refl
      where
        go : (b : Bool) → ltb k (groups_in v) ≡ b → malformed_in v (suc k) ≡ false
        go true e = rw (e, s.group_lines k (ltb-true k (groups_in v) e))
        go false e =
            let past : groups_in v ≤ k = ltb-false k (groups_in v) e in
            let line : 1 + groups_in v + (k - groups_in v) ≡ suc k = omega arith in
            rw e (rw (rw line at (s.slot-lines (k - groups_in v) (omega arith))))

-- A number taken from a well-formed slot line is the one that it states.
pub slot_in-reads : (v : View) (j : ℕ) {t : ℕ} → v.slot_at (slot_line_in v j) ≡ Some t → slot_in v j ≡ t
unfolding slot_in
slot_in-reads v j e = rw e

-- 17 comes from the slots alone, behind lines that are well formed.
met-unwired : (v : View) {j : ℕ} → Met (checking_checks v) 17 j
    → (first (malformed_in v) (1 + groups_in v + count_in v) ≡ None) × (first (holds_unwired v) (count_in v) ≡ Some j)
unfolding checking_checks opening_checks number_checks
met-unwired v {j} met =
    let checks : List Check = (12, first (malformed_in v) (1 + groups_in v + count_in v)) ∷ number_checks v in
    let ((lines, end), slots) = met-alone checks 17 refl (met-behind (opening_checks v) checks 17 j refl met).1 in
    (lines, slots)

-- The slot that 17 names states 0, and no lower one does: the 0 that stands for a malformed line is never taken for it.
pub unwired-named : (image : List ℕ) {j : ℕ} → checking_of image ≡ refused 17 j
    → SlotHolds image j unwired × ((i : ℕ) → i < j → SlotHolds image i unwired → ⊥)
unfolding checking_of holds_unwired
unwired-named image {j} e =
    let v = view_of image in
    let (lines, slots) = met-unwired v (in_order-refused (checking_checks v) 0 e) in
    let at = first_some (holds_unwired v) (count_in v) slots in
    let (u, reads) = some-of-is_some (v.slot_at (slot_line_in v j)) (slots_read v lines j at.below) in
    let zero : u ≡ unwired = sym (slot_in-reads v j reads) ∙ eqb-true (slot_in v j) unwired at.holds in (
      record { slot = at.below; tag = rw zero at reads },
      λ i lower holds. true≢false (sym (eq-eqb (slot_in v i) unwired (slot_in-reads v i holds.tag)) ∙ at.lowest i lower),
    )

-- Where the line of a slot is well formed, looking at it decides by its tag.
slot-looked : (v : View) (t j : ℕ) (next : Outcome Found) {u : ℕ} → v.slot_at (slot_line_in v j) ≡ Some u
    → at_slot v t j next ≡ cond (eqb u t) (answered (number j)) next
unfolding at_slot in_order met_at is_some slot_in
slot-looked v t j next e = rw e

-- Where a lookup ends: at a slot that holds the tag, or nowhere since no slot does.
pub data Looked (v : View) (t : ℕ) (outcome : Outcome Found) : Type 0 where
  found : (j : ℕ) → HoldsTag v j t → outcome ≡ answered (number j) → Looked v t outcome
  nowhere : ((j : ℕ) → HoldsTag v j t → ⊥) → outcome ≡ answered unknown → Looked v t outcome

-- A slot that is not misplaced holds a tag of its group, at one of the tag's places.
pub placed-own : (v : View) (j t : ℕ) → slot_in v j ≡ t → misplaced v j ≡ false
    → (own_group v t ≡ group_of_slot v j) × ((j ≡ candidate_in v (group_of_slot v j) 0 t) ⊎ (j ≡ candidate_in v (group_of_slot v j) 1 t))
unfolding misplaced
placed-own v j t e placed =
    let g = group_of_slot v j in
    let own = eqb (own_group v t) g in
    let at₀ = eqb j (candidate_in v g 0 t) in
    let at₁ = eqb j (candidate_in v g 1 t) in
    let (group, spots) = neither-of-or (not own) (not (at₀ || at₁)) (rw e at placed) in
    (eqb-true (own_group v t) g (not-false own group), go g (either-of-or at₀ at₁ (not-false (at₀ || at₁) spots)))
  where
    go : (g : ℕ) → (eqb j (candidate_in v g 0 t) ≡ true) ⊎ (eqb j (candidate_in v g 1 t) ≡ true)
        → (j ≡ candidate_in v g 0 t) ⊎ (j ≡ candidate_in v g 1 t)
    go g (inl h) = inl (eqb-true j (candidate_in v g 0 t) h)
    go g (inr h) = inr (eqb-true j (candidate_in v g 1 t) h)

-- And a slot with a tag of its group at one of the tag's places is not misplaced.
pub own-placed : (v : View) (j t : ℕ) → slot_in v j ≡ t → own_group v t ≡ group_of_slot v j
    → (j ≡ candidate_in v (group_of_slot v j) 0 t) ⊎ (j ≡ candidate_in v (group_of_slot v j) 1 t) → misplaced v j ≡ false
unfolding misplaced
own-placed v j t e group spots = rw (e, eq-eqb (own_group v t) (group_of_slot v j) group) (go (group_of_slot v j) spots)
  where
    go : (g : ℕ) → (j ≡ candidate_in v g 0 t) ⊎ (j ≡ candidate_in v g 1 t)
        → not (eqb j (candidate_in v g 0 t) || eqb j (candidate_in v g 1 t)) ≡ false
    go g (inl h) = rw (eq-eqb j (candidate_in v g 0 t) h)
    go g (inr h) = rw (eq-eqb j (candidate_in v g 1 t) h, or-true)

module _ (v : View) (sound : Sound v) (many : 0 < groups_in v) where
  pub fair : AllFair v
  fair g lt = fair-of-faulty g (start_in v g) (end_in v g) (sound.not-faulty g lt)

  module _ (t : ℕ) where
    own_below : own_group v t < groups_in v
    own_below = group-below (groups_in v) t many

    -- A slot that holds the tag lies in the tag's group, at one of its two places.
    pub slot-lies : (j : ℕ) → HoldsTag v j t → LiesIn v j (own_group v t)
    slot-lies j h =
        let (group, spots) = placed-own v j t (slot_in-reads v j h.tag) (sound.placed j h.slot) in
        rw group (group_of_slot-lies v fair j many h.slot)

    pub slot-own : (j : ℕ) → HoldsTag v j t → (j ≡ own_slot v 0 t) ⊎ (j ≡ own_slot v 1 t)
    slot-own j h =
        let (group, spots) = placed-own v j t (slot_in-reads v j h.tag) (sound.placed j h.slot) in
        rw group spots

    -- No two slots hold one tag.
    not-twice : (i j : ℕ) → HoldsTag v i t → HoldsTag v j t → i < j → ⊥
    unfolding repeated
    not-twice i j hi hj lt =
        let test : ℕ → Bool = λ i. leb (start_in v (group_of_slot v j)) i && eqb (slot_in v i) (slot_in v j) in
        let none-lower = first-none test j (none-of-is_some (first test j) (sound.once j hj.slot)) i lt in
        let (group, spots) = placed-own v j t (slot_in-reads v j hj.tag) (sound.placed j hj.slot) in
        let from : start_in v (group_of_slot v j) ≤ i = rw group at (slot-lies i hi).from in
        let same : slot_in v i ≡ slot_in v j = slot_in-reads v i hi.tag ∙ sym (slot_in-reads v j hj.tag) in
        true≢false (sym (rw (le-leb (start_in v (group_of_slot v j)) i from, eq-eqb (slot_in v i) (slot_in v j) same)) ∙ none-lower)

    pub holds-once : (i j : ℕ) → HoldsTag v i t → HoldsTag v j t → i ≡ j
    holds-once i j hi hj = go (ltb i j) (ltb j i) refl refl
      where
        go : (p q : Bool) → ltb i j ≡ p → ltb j i ≡ q → i ≡ j
        go true q e f = absurd (not-twice i j hi hj (ltb-true i j e))
        go false true e f = absurd (not-twice j i hj hi (ltb-true j i f))
        go false false e f = omega (arith, ltb-false i j e, ltb-false j i f)

    -- The checks of a lookup pass.
    next-line : (ltb (suc (own_group v t)) (groups_in v) && not (is_some (v.group_at (suc (suc (own_group v t)))))) ≡ false
    next-line = go (ltb (suc (own_group v t)) (groups_in v)) refl
      where
        go : (b : Bool) → ltb (suc (own_group v t)) (groups_in v) ≡ b
            → (ltb (suc (own_group v t)) (groups_in v) && not (is_some (v.group_at (suc (suc (own_group v t)))))) ≡ false
        go true e = rw (e, sound.group_lines (suc (own_group v t)) (ltb-true (suc (own_group v t)) (groups_in v) e))
        go false e = rw e

    lookup-passes : (o : Outcome Found) → in_order (lookup_checks v (own_group v t)) o ≡ o
    unfolding lookup_checks group_checks
    lookup-passes o =
        let g = own_group v t in
        let line : not (is_some (v.group_at (suc g))) ≡ false = rw (sound.group_lines g own_below) in
        let group : (faulty g (start_in v g) (end_in v g) || ltb (count_in v) (end_in v g)) ≡ false =
        rw (sound.not-faulty g own_below, le-ltb (count_in v) (end_in v g) (end-most v fair g own_below)) in
        in_order-append (opening_checks v) _ o
        ∙ in_order-pass (opening_checks v) _ sound.opens
        ∙ in_order-pass _ o (met_at-false (suc g) line then met_at-false (suc (suc g)) next-line then met_at-false g group then tt)

    -- In a group that is not empty both slots of the tag are slots of the image, and each holds some tag.
    slot-inside : (c : ℕ) → (start_in v (own_group v t) ≡ end_in v (own_group v t) → ⊥) → own_slot v c t < count_in v
    unfolding candidate_in
    slot-inside c filled =
        let g = own_group v t in
        let up = (fair g own_below).ascends in
        omega (
          arith,
          end-most v fair g own_below,
          place-below (end_in v g - start_in v g) (seed_in v g) c t (omega (arith, filled)),
        )

    slot-some : (j : ℕ) → j < count_in v → (u : ℕ) × (v.slot_at (slot_line_in v j) ≡ Some u)
    slot-some j lt = some-of-is_some (v.slot_at (slot_line_in v j)) (sound.slot-lines j lt)

    pub lookup-ends : Looked v t (lookup_in_group v t (own_group v t))
    unfolding lookup_in_group
    lookup-ends = go (eqb (start_in v g) (end_in v g)) refl
      where
        g : ℕ
        g = own_group v t

        rest : Outcome Found
        rest = at_slot v t (own_slot v 0 t) (at_slot v t (own_slot v 1 t) (answered unknown))

        outcome : Outcome Found
        outcome = in_order (lookup_checks v g) (cond (eqb (start_in v g) (end_in v g)) (answered unknown) rest)

        go : (b : Bool) → eqb (start_in v g) (end_in v g) ≡ b → Looked v t outcome
        go true e =
            let empty = eqb-true (start_in v g) (end_in v g) e in
            nowhere (λ j h. let lies = slot-lies j h in omega (arith, lies.from, lies.below)) (lookup-passes _ ∙ rw e)
        go false e =
            let filled = eqb-false (start_in v g) (end_in v g) e in
            let (u₀, reads₀) = slot-some (own_slot v 0 t) (slot-inside 0 filled) in
            let (u₁, reads₁) = slot-some (own_slot v 1 t) (slot-inside 1 filled) in
            let ends : outcome ≡ cond (eqb u₀ t) (answered (number (own_slot v 0 t)))
            (cond (eqb u₁ t) (answered (number (own_slot v 1 t))) (answered unknown)) =
            lookup-passes _
            ∙ rw e (rw (slot-looked v t (own_slot v 0 t) _ reads₀, slot-looked v t (own_slot v 1 t) (answered unknown) reads₁)) in
            at_slots u₀ u₁ reads₀ reads₁ (slot-inside 0 filled) (slot-inside 1 filled) (eqb u₀ t) (eqb u₁ t) refl refl ends
          where
            at_slots : (u₀ u₁ : ℕ) → v.slot_at (slot_line_in v (own_slot v 0 t)) ≡ Some u₀ → v.slot_at
                (slot_line_in v (own_slot v 1 t)) ≡ Some u₁
                → own_slot v 0 t < count_in v → own_slot v 1 t < count_in v
                → (p q : Bool) → eqb u₀ t ≡ p → eqb u₁ t ≡ q
                → outcome ≡ cond (eqb u₀ t) (answered (number (own_slot v 0 t)))
                (cond (eqb u₁ t) (answered (number (own_slot v 1 t))) (answered unknown))
                → Looked v t outcome
            at_slots u₀ u₁ r₀ r₁ l₀ l₁ true q e f ends =
                found (own_slot v 0 t) (record { slot = l₀; tag = rw (eqb-true u₀ t e) at r₀ }) (ends ∙ rw e)
            at_slots u₀ u₁ r₀ r₁ l₀ l₁ false true e f ends =
                found (own_slot v 1 t) (record { slot = l₁; tag = rw (eqb-true u₁ t f) at r₁ }) (ends ∙ rw (e, f))
            at_slots u₀ u₁ r₀ r₁ l₀ l₁ false false e f ends = nowhere (λ j h. off j h (slot-own j h)) (ends ∙ rw (e, f))
              where
                off : (j : ℕ) → HoldsTag v j t → (j ≡ own_slot v 0 t) ⊎ (j ≡ own_slot v 1 t) → ⊥
                off j h (inl same) = eqb-false u₀ t e (cc (rw same at h.tag, r₀))
                off j h (inr same) = eqb-false u₁ t f (cc (rw same at h.tag, r₁))

-- A view of bytes whose header is well formed has at least one group.
groups-some : (image : List ℕ) → is_some (view_of image).header ≡ true → 0 < groups_in (view_of image)
unfolding view_of groups_in
groups-some image e =
    let ((n, b), reads) = some-of-is_some (image_header (line_at 0 image)) e in
    let range = image-header-only n b (line_at 0 image) reads in
    rw reads range.2

-- A view of bytes has at most 4,096 slots.
pub count_most : (image : List ℕ) → count_in (view_of image) ≤ tags_max
unfolding count_in view_of
count_most image = go (image_header (line_at 0 image)) refl
  where
    go : (o : Option (ℕ × ℕ)) → image_header (line_at 0 image) ≡ o → (unwrap_or o (0, 0)).0 ≤ tags_max
    go None e = omega arith
    go (Some (n, b)) e = (image-header-only n b (line_at 0 image) e).1

-- What an image that is accepted is, and it has a group.
pub accepted-sound : (image : List ℕ) {a : ℕ} → checking_of image ≡ answered a → Sound (view_of image) × (0 < groups_in (view_of image))
unfolding checking_of
accepted-sound image accepted =
    let sound = sound-of-pass (view_of image) (in_order-answered (checking_checks (view_of image)) (answered 0) accepted).0 in
    (sound, groups-some image (opens-header (view_of image) sound.opens))

-- No slot of a sound image holds 0.
sound-wired : (v : View) → Sound v → (j : ℕ) → HoldsTag v j unwired → ⊥
unfolding holds_unwired
sound-wired v sound j h =
    true≢false (sym (eq-eqb (slot_in v j) unwired (slot_in-reads v j h.tag)) ∙ sound.wired j h.slot)

-- "Tag 0 belongs to nobody": no image that holds it is accepted.
pub checked-wired : (image : List ℕ) {a : ℕ} → checking_of image ≡ answered a → (j : ℕ) → SlotHolds image j unwired → ⊥
checked-wired image accepted = sound-wired (view_of image) (accepted-sound image accepted).0

-- Looking up 0 in a sound image answers unknown.
pub sound-unwired : (image : List ℕ) → Sound (view_of image) → lookup_of image unwired ≡ answered unknown
sound-unwired image sound = lookup-unwired image ∙ in_order-pass (opening_checks (view_of image)) _ sound.opens

-- Where the lookup of a tag, 0 or another, ends in a sound image.
pub image-ends : (image : List ℕ) → Sound (view_of image) → 0 < groups_in (view_of image) → (t : ℕ)
    → Looked (view_of image) t (lookup_of image t)
image-ends image sound many t = by-wired t
    (λ zero. rw zero (nowhere (sound-wired (view_of image) sound) (sound-unwired image sound)))
    (λ wired. rw (lookup-wired image t wired) (lookup-ends (view_of image) sound many t))

-- "Looking up a tag in a checked image gives the number that the image states for it, or 'unknown' if the image has no such tag."
pub record LooksUp (image : List ℕ) (t : ℕ) : Type 0 where
  pub finds : (j : ℕ) → (lookup_of image t ≡ answered (number j)) ↔ SlotHolds image j t
  pub misses : (lookup_of image t ≡ answered unknown) ↔ ((j : ℕ) → SlotHolds image j t → ⊥)

pub checked-lookup : (image : List ℕ) {a : ℕ} → checking_of image ≡ answered a → (t : ℕ) → LooksUp image t
checked-lookup image accepted t =
    let (sound, many) = accepted-sound image accepted in
    go sound many (image-ends image sound many t)
  where
    go : Sound (view_of image) → 0 < groups_in (view_of image) → Looked (view_of image) t (lookup_of image t) → LooksUp image t
    go sound many (found j h e) = record {
      finds = λ i. (
        λ f. let same : j ≡ i = cc in rw (← same) h,
        λ k. e ∙ ap (λ (x : ℕ). answered (number x)) (holds-once (view_of image) sound many t j i h k),
      );
      misses = (λ f. absurd (let z : ◌≡◌ {A = ℕ} 0 1 = cc in omega arith), λ k. absurd (k j h));
    }
    go sound many (nowhere none-holds e) = record {
      finds = λ i. (λ f. absurd (let z : ◌≡◌ {A = ℕ} 0 1 = cc in omega arith), λ k. absurd (none-holds i k));
      misses = (λ f. none-holds, λ k. e);
    }
