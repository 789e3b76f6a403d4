-- Each step of a lookup, by what the lines read as. Assumes nothing.
use Rattle.std.specs.Prelude.{◌≡◌, true, false, ◌||◌, List, ltb, Option, None, Some, option_map}
use Rattle.std.proofs.Math.Path.{refl, ap}
use Rattle.std.proofs.Common.{◌∙◌}
use Prim.Native.Nat.{ℕ, zero, suc, ◌+◌, ◌-◌, ◌≤◌, ◌<◌}
use native.Mathlib.Omega.{arith}
use borrow.Author.Tests.{eq-eqb, ne_eqb}
use Rattle.refusal.specs.Limits.{unwired}
use Rattle.refusal.specs.Outcome.{Outcome, answered, refused}
use Rattle.lists.specs.First.{met_at, is_some}
use Rattle.refusal.specs.Checks.{in_order}
use Rattle.refusal.proofs.ChecksLaws.{in_order-append}
use Rattle.hash.specs.Formula.{group_of, place_of}
use Rattle.text.specs.Line.{line_at, group_line, slot_line}
use Rattle.image.specs.View.{view_of, count_in, groups_in, slot_line_in, slot_in, faulty, candidate_in}
use Rattle.image.specs.Checking.{opening_checks}
use Rattle.image.specs.Lookup.{Found, number, unknown, lookup_checks, at_slot, lookup_in_group, lookup_of}
use Rattle.image.proofs.UnwiredLaws.{by-wired, lookup-unwired, lookup-wired}
use Rattle.opening.specs.Opening.{opening_of, Opens}
use Rattle.opening.specs.OpeningLaws.{opening-refused, opening-passes, opening-answered}
use Rattle.lookup.specs.Steps.{end_of, slots_of, slots_from, group_outcome}
use Rattle.lookup.specs.GroupLaws.{end-at-count, end-at-next, end_is, start_is, seed-is}
use Rattle.lookup.specs.GroupLaws.{own-refused, next-refused, fault-refused, group-passes}

module _ (image : List ℕ) where
  -- Where a group ends.
  pub end-of-last : {count groups : ℕ} → Opens image count groups → (g : ℕ) → suc g ≡ groups → end_of (view_of image) g ≡ Some count
  end-of-last opens g last = rw (← opens.count-is) (end-at-count (view_of image) g (omega (arith, opens.groups-is)))

  pub end-of-next : {count groups : ℕ} → Opens image count groups → (g : ℕ)
      → suc g < groups → (o : Option (ℕ × ℕ)) → group_line (line_at (suc (suc g)) image) ≡ o
      → end_of (view_of image) g ≡ option_map (λ h. h.0) o
  unfolding view_of
  end-of-next opens g lt o e = end-at-next (view_of image) g (omega (arith, opens.groups-is)) e

  -- A slot looked at.
  module _ (groups t j : ℕ) (same : groups_in (view_of image) ≡ groups) (next : Outcome Found) where
    line_of : slot_line_in (view_of image) j ≡ 1 + groups + j
    unfolding slot_line_in
    line_of = rw same

    pub slot-malformed : slot_line (line_at (1 + groups + j) image) ≡ None → at_slot (view_of image) t j next ≡ refused 12 (1 + groups + j)
    unfolding at_slot in_order met_at is_some view_of
    slot-malformed e = rw (line_of, e)

    pub slot-holds : slot_line (line_at (1 + groups + j) image) ≡ Some t → at_slot (view_of image) t j next ≡ answered (number j)
    unfolding at_slot in_order met_at is_some slot_in view_of
    slot-holds e = rw (line_of, e, eq-eqb t t refl)

    pub slot-other : {u : ℕ} → slot_line (line_at (1 + groups + j) image) ≡ Some u → (u ≡ t → ⊥) → at_slot (view_of image) t j next ≡ next
    unfolding at_slot in_order met_at is_some slot_in view_of
    slot-other {u} e other = rw (line_of, e, ne_eqb u t other)

  -- The slots of an empty group, and of another.
  module _ (start end seed t : ℕ) where
    pub slots-empty : start ≡ end → slots_of (view_of image) start end seed t ≡ answered unknown
    unfolding slots_of
    slots-empty e = rw (eq-eqb start end e)

    -- In another, the slots of both choices.
    pub slots_filled : (start ≡ end → ⊥)
        → slots_of (view_of image) start end seed t ≡ slots_from (view_of image) start (end - start) seed t 0
    unfolding slots_of slots_from
    slots_filled filled = rw (ne_eqb start end filled)

  -- One choice, and what is left then.
  pub slots-turn : (start n seed t choice : ℕ) → choice < 2
      → slots_from (view_of image) start n seed t choice
      ≡ at_slot (view_of image) t (start + place_of n seed choice t) (slots_from (view_of image) start n seed t (choice + 1))
  unfolding slots_from
  slots-turn start n seed t zero lt = refl
  slots-turn start n seed t (suc zero) lt = refl
  slots-turn start n seed t (suc (suc choice)) lt = absurd (omega arith)

  pub slots-done : (start n seed t choice : ℕ) → 2 ≤ choice → slots_from (view_of image) start n seed t choice ≡ answered unknown
  unfolding slots_from
  slots-done start n seed t zero le = absurd (omega arith)
  slots-done start n seed t (suc zero) le = absurd (omega arith)
  slots-done start n seed t (suc (suc choice)) le = refl

  -- The group's lines, its fault, its slots.
  module _ (t g line : ℕ) (at : line ≡ suc g) where
    pub own-malformed : group_line (line_at line image) ≡ None → group_outcome (view_of image) t g ≡ refused 12 line
    unfolding group_outcome view_of
    own-malformed e = rw at (own-refused (view_of image) g _ (rw at at e))

    module _ (start seed : ℕ) (own' : group_line (line_at line image) ≡ Some (start, seed)) where
      own : (view_of image).group_at (suc g) ≡ Some (start, seed)
      unfolding view_of
      own = rw at at own'

      pub next-malformed : end_of (view_of image) g ≡ None → group_outcome (view_of image) t g ≡ refused 12 (line + 1)
      unfolding group_outcome
      next-malformed e = let after : line + 1 ≡ suc (suc g) = omega arith in rw after (next-refused (view_of image) g _ own e)

      module _ (end : ℕ) (ends : end_of (view_of image) g ≡ Some end) where
        -- The group is faulty, ends past N, or its slots are looked at.
        pub group-faulty : (faulty g start end || ltb (count_in (view_of image)) end) ≡ true
            → group_outcome (view_of image) t g ≡ refused 13 g
        unfolding group_outcome
        group-faulty e = fault-refused (view_of image) g _ own ends e

        pub group-slots : faulty g start end ≡ false → end ≤ count_in (view_of image)
            → group_outcome (view_of image) t g ≡ slots_of (view_of image) start end seed t
        unfolding group_outcome
        group-slots fair within =
            group-passes (view_of image) g _ own ends fair within
            ∙ cc (start_is (view_of image) g own, end_is (view_of image) g ends, seed-is (view_of image) g own)

  -- The opening, and what stands behind it: nothing for tag 0, and the group of any other.
  pub lookup-unopened : (t : ℕ) {reason place : ℕ} → opening_of image ≡ refused reason place → lookup_of image t ≡ refused reason place
  unfolding lookup_in_group lookup_checks
  lookup-unopened t e = by-wired t
      (λ zero. rw zero (lookup-unwired image ∙ opening-refused image e _))
      (λ wired. lookup-wired image t wired ∙ in_order-append (opening_checks (view_of image)) _ _ ∙ opening-refused image e _)

  pub lookup-nobody : {counts : ℕ × ℕ} → opening_of image ≡ answered counts → lookup_of image unwired ≡ answered unknown
  lookup-nobody e = lookup-unwired image ∙ opening-passes image e _

  pub lookup-opened : {count groups : ℕ} → opening_of image ≡ answered (count, groups) → (t : ℕ) → (t ≡ unwired → ⊥)
      → lookup_of image t ≡ group_outcome (view_of image) t (group_of groups t)
  unfolding lookup_in_group lookup_checks group_outcome slots_of candidate_in
  lookup-opened e t wired =
      lookup-wired image t wired
      ∙ in_order-append (opening_checks (view_of image)) _ _
      ∙ opening-passes image e _
      ∙ ap (λ (b : ℕ). group_outcome (view_of image) t (group_of b t)) (opening-answered image e).groups-is
