-- The list of the tags that a checked image holds: its groups are the image's, and building with the image's B and the greatest L
-- answers for it. Assumes nothing.
use Prim.Native.Nat.{ℕ, zero, suc, ◌+◌, ◌-◌, ◌≤◌, ◌<◌}
use Rattle.std.specs.Prelude.{◌≡◌, refl, Bool, false, List, length, Option, None, Some, unwrap_or}
use Rattle.std.proofs.Common.{sym, ◌∙◌, arith, eqb-true}
use Rattle.std.proofs.Math.Path.{ap}
use Rattle.std.proofs.Math.Bool.{true, not-eq-not}
use Rattle.std.proofs.Math.Dec.{eqb}
use Rattle.std.proofs.Math.ListN.{get_or}
use Rattle.refusal.specs.Limits.{tag_end, groups_max, limit_max, unwired}
use Rattle.refusal.specs.Outcome.{answered}
use Rattle.lists.specs.First.{first}
use Rattle.lists.proofs.FirstLaws.{first_out, is_some-of-some}
use Rattle.lists.specs.Occurs.{occurs, distinct}
use Rattle.lists.proofs.OccursLaws.{get_or-occurs, occurs-get_or, get_or-distinct}
use Rattle.lists.specs.UpTo.{up_to}
use Rattle.lists.proofs.UpToLaws.{up_to-length, up_to-at}
use Rattle.hash.specs.Formula.{group_of}
use Rattle.text.specs.Line.{line_at, image_header}
use Rattle.text.proofs.LineLaws.{image-header-only}
use Rattle.sorting.specs.Sorted.{sorted}
use Rattle.sorting.proofs.SortedLaws.{sorted-length, sorted-occurs, sorted-ascending, ascending-unique}
use Rattle.group.specs.Ascending.{Ascending}
use Rattle.group.proofs.UnwiredLaws.{absent-wired}
use Rattle.image.specs.View.{View, view_of, count_in, groups_in, start_in, seed_in, end_in, slot_in}
use Rattle.image.specs.Holds.{SlotHolds}
use Rattle.image.proofs.FaultLaws.{end-next}
use Rattle.image.specs.Checking.{checking_of}
use Rattle.image.proofs.CheckedLookupLaws.{slot_in-reads, count_most, checked-wired}
use Rattle.numbering.specs.Members.{members, start_of}
use Rattle.numbering.proofs.MembersLaws.{occurs-select, members-own, members-ascending, start-zero, start-suc}
use Rattle.numbering.specs.Planning.{planning_of, seedless}
use Rattle.numbering.proofs.PlanningLaws.{planning-answered}
use Rattle.condition3.specs.Condition3.{EarlierChecks}
use Rattle.condition3_theorem.specs.Condition3Theorem.{pass-of-earlier}
use Rattle.strict.specs.AsBuilt.{slots_in}
use Rattle.strict.proofs.HeldLaws.{many, all_fair, own-lies, holds, slots_apart, slots-size, slots_at_lem, slot-below, slot-group}
use Rattle.strict.proofs.HeldLaws.{slots-differ, slot-stated, servable, seed-found}

-- Two tests that say yes to the same.
pub alike : (a b : Bool) → (a ≡ true → b ≡ true) → (b ≡ true → a ≡ true) → a ≡ b
alike true b to from = sym (to refl)
alike false true to from = from refl
alike false false to from = refl

-- The B of an image that opens is in its range.
header-range : (image : List ℕ) → 0 < groups_in (view_of image) → (1 ≤ groups_in (view_of image)) × (groups_in (view_of image) ≤ groups_max)
unfolding view_of groups_in
header-range image some-group = (some-group, go (image_header (line_at 0 image)) refl)
  where
    go : (o : Option (ℕ × ℕ)) → image_header (line_at 0 image) ≡ o → (unwrap_or o (0, 0)).1 ≤ groups_max
    go None e = omega arith
    go (Some (n, b)) e = (image-header-only n b (line_at 0 image) e).3

module _ (image : List ℕ) (accepted : checking_of image ≡ answered 0) where
  abbrev v : View
  v = view_of image

  abbrev groups : ℕ
  groups = groups_in v

  -- The tags that the image holds, lowest first.
  abbrev pub held_tags : List ℕ
  held_tags = sorted (up_to (count_in v) (slot_in v))

  all-size : length (up_to (count_in v) (slot_in v)) ≡ count_in v
  all-size = up_to-length (count_in v) (slot_in v)

  pub held-length : length held_tags ≡ count_in v
  held-length = sorted-length (up_to (count_in v) (slot_in v)) ∙ all-size

  all-differ : distinct (up_to (count_in v) (slot_in v)) ≡ true
  all-differ = get_or-distinct (up_to (count_in v) (slot_in v)) apart
    where
      apart : (i j : ℕ) → i < length (up_to (count_in v) (slot_in v)) → j < length (up_to (count_in v) (slot_in v))
          → get_or (up_to (count_in v) (slot_in v)) i 0 ≡ get_or (up_to (count_in v) (slot_in v)) j 0 → i ≡ j
      apart i j li lj e =
          let bi = rw all-size at li in
          let bj = rw all-size at lj in
          slots_apart image accepted i j bi bj
          (sym (up_to-at (count_in v) (slot_in v) 0 i bi) ∙ e ∙ up_to-at (count_in v) (slot_in v) 0 j bj)

  pub held-ascending : Ascending held_tags
  held-ascending = sorted-ascending (up_to (count_in v) (slot_in v)) all-differ

  -- A tag is in the list exactly where some slot holds it.
  pub held-slot : (t : ℕ) → occurs t held_tags ≡ true → (j : ℕ) × SlotHolds image j t
  held-slot t m =
      let at = occurs-get_or (up_to (count_in v) (slot_in v)) t (sym (sorted-occurs t (up_to (count_in v) (slot_in v))) ∙ m) in
      let below = rw all-size at at.inside in
      let tag = sym (up_to-at (count_in v) (slot_in v) 0 at.index below) ∙ at.value in
      (at.index, rw tag at (holds image accepted at.index below))

  pub slot_held : (t j : ℕ) → SlotHolds image j t → occurs t held_tags ≡ true
  slot_held t j h =
      let tag = up_to-at (count_in v) (slot_in v) 0 j h.slot ∙ slot_in-reads v j h.tag in
      sorted-occurs t (up_to (count_in v) (slot_in v))
      ∙ rw tag at (get_or-occurs (up_to (count_in v) (slot_in v)) j (rw all-size h.slot))

  -- It is a list of 32-bit tags, none of them 0.
  pub held-words : (t : ℕ) → occurs t held_tags ≡ true → t < tag_end
  held-words t m =
      let (j, h) = held-slot t m in
      rw (slot_in-reads v j h.tag) at (slot-stated image accepted j h.slot).1

  held-wired : occurs unwired held_tags ≡ false
  held-wired = not-eq-not.0 (λ m. let (j, h) = held-slot unwired m in checked-wired image accepted j h)

  -- The tags of group g are those that stand in its slots,
  pub held-members : (g : ℕ) → g < groups → members groups g held_tags ≡ sorted (slots_in v g)
  unfolding members
  held-members g lt =
      ascending-unique (members groups g held_tags) (sorted (slots_in v g)) (members-ascending groups g held_tags held-ascending)
      (sorted-ascending (slots_in v g) (slots-differ image accepted g lt))
      (λ t. alike (occurs t (members groups g held_tags)) (occurs t (sorted (slots_in v g))) (to t) (from t))
    where
      to : (t : ℕ) → occurs t (members groups g held_tags) ≡ true → occurs t (sorted (slots_in v g)) ≡ true
      to t m =
          let (there, own) = occurs-select (λ u. eqb (group_of groups u) g) held_tags t m in
          let (j, h) = held-slot t there in
          let lies = rw (eqb-true (group_of groups t) g own) at (own-lies image accepted t j h) in
          let p : ℕ = j - start_in v g in
          let spot : start_in v g + p ≡ j = omega (arith, lies.from) in
          let below : p < end_in v g - start_in v g = omega (arith, lies.from, lies.below) in
          let size = slots-size image accepted g lt in
          let tag : get_or (slots_in v g) p 0 ≡ t =
          slots_at_lem image accepted g lt p below ∙ ap (slot_in v) spot ∙ slot_in-reads v j h.tag in
          sorted-occurs t (slots_in v g) ∙ rw tag at (get_or-occurs (slots_in v g) p (rw size below))

      from : (t : ℕ) → occurs t (sorted (slots_in v g)) ≡ true → occurs t (members groups g held_tags) ≡ true
      from t m =
          let at = occurs-get_or (slots_in v g) t (sym (sorted-occurs t (slots_in v g)) ∙ m) in
          let p : ℕ = at.index in
          let below = rw (slots-size image accepted g lt) at at.inside in
          let j : ℕ = start_in v g + p in
          let tag = sym (slots_at_lem image accepted g lt p below) ∙ at.value in
          let held = rw tag at (holds image accepted j (slot-below image accepted g lt p below)) in
          let own = rw tag at (slot-group image accepted g lt p below) in
          rw own at (members-own groups held_tags t (slot_held t j held))

  -- and group g starts where the image says.
  pub held_start : (g : ℕ) → g < groups → start_of groups g held_tags ≡ start_in v g
  held_start zero lt = start-zero groups held_tags ∙ sym ((all_fair image accepted 0 lt).zero-first refl)
  held_start (suc g) lt =
      let before : g < groups = omega arith in
      let own = ap length (held-members g before) ∙ sorted-length (slots_in v g) ∙ slots-size image accepted g before in
      omega (
        arith,
        start-suc groups g held_tags,
        held_start g before,
        own,
        (all_fair image accepted g before).ascends,
        end-next v g lt,
      )

  -- The checks before 7 pass,
  groups-legal : (1 ≤ groups) × (groups ≤ groups_max)
  groups-legal = header-range image (many image accepted)

  pub held-earlier : EarlierChecks held_tags groups limit_max
  held-earlier = record {
    groups-legal = groups-legal;
    limit-legal = (omega arith, omega arith);
    count-legal = omega (arith, held-length, count_most image);
    ascending = held-ascending;
    wired = absent-wired held_tags held-wired;
    groups-small = λ g lt.
        omega (arith, ap length (held-members g lt), sorted-length (slots_in v g), (servable image accepted g lt).few);
  }

  -- every group has a seed, since the one that the image states serves,
  pub held-seeded : first (seedless groups held_tags limit_max) groups ≡ None
  held-seeded = first_out (seedless groups held_tags limit_max) groups (λ g lt.
      let (s, found) = seed-found (seed_in v g) (slots_in v g) (servable image accepted g lt) in
      rw (held-members g lt, is_some-of-some found))

  -- so planning answers for the list.
  pub held-planned : planning_of held_tags groups limit_max ≡ answered groups
  held-planned = planning-answered held_tags groups limit_max (pass-of-earlier held_tags groups limit_max held-earlier) held-seeded
