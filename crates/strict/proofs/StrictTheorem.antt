-- The strict check as it is defined owes what its condition says, for all bytes. Assumes nothing.
use Rattle.std.specs.Prelude.{ℕ, ◌+◌, ◌-◌, ◌≤◌, ◌<◌, ◌≡◌, ◌↔◌, Bool, true, false, cond, List, [], ◌∷◌, length, get_or, drop}
use Rattle.std.proofs.Math.Path.{refl, sym, ap}
use Rattle.std.proofs.Common.{◌∙◌, subst, arith, take_at}
use Rattle.std.proofs.Math.Bool.{true≢false}
use Rattle.refusal.specs.Limits.{tag_end, limit_max}
use Rattle.refusal.specs.Outcome.{answered, refused}
use Rattle.refusal.specs.Checks.{in_order}
use Rattle.refusal.proofs.ChecksLaws.{in_order-append, in_order-pass, in_order-answered, in_order-refused, refused-in_order, met-alone}
use Rattle.refusal.proofs.ChecksLaws.{pass-split}
use Rattle.lists.specs.First.{first}
use Rattle.lists.proofs.FirstLaws.{first_some, first-none, first_found, first_out}
use Rattle.lists.specs.Occurs.{occurs}
use Rattle.group.specs.Ascending.{Ascending}
use Rattle.sorting.specs.Sorted.{sorted}
use Rattle.sorting.proofs.SortedLaws.{sorted-length, ascending-unique}
use Rattle.image.specs.View.{View, view_of, count_in, groups_in, start_in, seed_in, end_in, slot_in}
use Rattle.image.specs.Holds.{SlotHolds}
use Rattle.image.proofs.FaultLaws.{group_of_slot-lies}
use Rattle.image.specs.Checking.{group_of_slot, checking_checks, checking_of}
use Rattle.image.proofs.CheckedLookupLaws.{checked-lookup}
use Rattle.image.specs.Lookup.{number, unknown, lookup_of}
use Rattle.numbering.specs.Members.{members}
use Rattle.numbering.proofs.MembersLaws.{start-suc}
use Rattle.numbering.specs.Number.{number_of}
use Rattle.numbering.specs.Planning.{planning_of, seed_taken}
use Rattle.numbering.proofs.PlanningLaws.{planning-says}
use Rattle.numbering.specs.Building.{building_of, choices_taken, image_of}
use Rattle.numbering.proofs.BuildingLaws.{building-answered, buffer-written, answered-says}
use Rattle.numbering.proofs.WritingLaws.{image-length}
use Rattle.condition3_theorem.specs.Condition3Theorem.{earlier-of-pass, looked-up, image-written}
use Rattle.strict.specs.AsBuilt.{seed_given, slots_given, slots_in, not_as_built}
use Rattle.strict.proofs.AsBuiltLaws.{as-given, given-of}
use Rattle.strict.specs.StrictCheck.{strict_checks, strict_check_of}
use Rattle.strict_condition.specs.Condition.{Builds, Ours, Rebuilt, group_lines, LowestApart, StrictCondition}
use Rattle.strict.proofs.HeldLaws.{many, all_fair, slots-size, slots_at_lem}
use Rattle.strict.proofs.RebuiltLaws.{held_tags, held-length, held-ascending, held-slot, slot_held, held-words, held-members}
use Rattle.strict.proofs.RebuiltLaws.{held_start, held-planned, alike}
use Rattle.strict.proofs.LinesLaws.{bytes-of-numbers, lines-of-numbers, numbers-of-lines}
use Rattle.strict.proofs.WrittenGroupsLaws.{written-checked, written_count, written-groups, written_start, written-end, written-seed}
use Rattle.strict.proofs.WrittenGroupsLaws.{written-slots}

-- Where planning answers for a list, building writes its image in every buffer that is long enough,
builds-planned : (tags : List ℕ) (groups limit : ℕ) → ((t : ℕ) → occurs t tags ≡ true → t < tag_end)
    → planning_of tags groups limit ≡ answered groups → Builds tags groups limit (image_of groups tags limit)
builds-planned tags groups limit words planned =
    let (passes, every, is) = planning-says tags groups limit planned in
    let long = image-length groups tags (seed_taken groups tags limit) in
    let answers : (before : List ℕ) → length (image_of groups tags limit) ≤ length before
    → building_of tags groups limit (length before) ≡ answered (length (image_of groups tags limit)) = λ before fits.
    rw long (building-answered tags groups limit (length before) passes every (rw long at fits)) in
    record {
      words = words;
      accepted = answers;
      writes = λ before fits. buffer-written tags groups limit before (answers before fits);
    }

-- and what building so writes is that image.
planned-of-builds : {tags image : List ℕ} {groups limit : ℕ} → Builds tags groups limit image
    → planning_of tags groups limit ≡ answered groups
planned-of-builds {tags} {image} {groups} {limit} b = (answered-says tags groups limit (length image) (b.accepted image (omega arith))).0

image-of-builds : {tags image : List ℕ} {groups limit : ℕ} → Builds tags groups limit image → image ≡ image_of groups tags limit
image-of-builds {tags} {image} {groups} {limit} b =
    sym (take_at image (drop (length image) image) (length image) refl)
    ∙ rw (← b.writes image (omega arith)) (image-written tags groups limit image (length image) (b.accepted image (omega arith)))

-- Building answers for ascending lists only.
planned-ascending : (tags : List ℕ) (groups limit : ℕ) → planning_of tags groups limit ≡ answered groups → Ascending tags
planned-ascending tags groups limit planned = (earlier-of-pass tags groups limit (planning-says tags groups limit planned).0).ascending

-- An ascending list with the tags that a checked image holds is the list of them.
held-only : (image : List ℕ) (accepted : checking_of image ≡ answered 0) (tags : List ℕ) → Ascending tags
    → ((t : ℕ) → (occurs t tags ≡ true) ↔ ((j : ℕ) × SlotHolds image j t)) → held_tags image accepted ≡ tags
held-only image accepted tags ascending holding =
    ascending-unique (held_tags image accepted) tags (held-ascending image accepted) ascending (λ t.
    alike (occurs t (held_tags image accepted)) (occurs t tags) (λ m. (holding t).1 (held-slot image accepted t m))
    (λ m. let (j, h) = (holding t).0 m in slot_held image accepted t j h))

-- Every group of an image that building writes is as built.
module _ (tags : List ℕ) (groups limit : ℕ) (words : (t : ℕ) → occurs t tags ≡ true → t < tag_end)
    (planned : planning_of tags groups limit ≡ answered groups) where
  abbrev image : List ℕ
  image = image_of groups tags limit

  checked : checking_of image ≡ answered 0
  checked = written-checked tags groups limit words planned

  -- The image holds the list's tags, by what lookup says of them.
  holding : (t : ℕ) → (occurs t tags ≡ true) ↔ ((j : ℕ) × SlotHolds image j t)
  holding t = (to, from)
    where
      own : ℕ
      own = number_of groups tags (seed_taken groups tags limit) (choices_taken groups tags limit) t

      found : lookup_of image t ≡ answered (cond (occurs t tags) (number own) unknown)
      found =
          let answer = (builds-planned tags groups limit words planned).accepted image (omega arith) in
          looked-up tags groups limit (length image) words answer t

      to : occurs t tags ≡ true → (j : ℕ) × SlotHolds image j t
      to m = (own, ((checked-lookup image checked t).finds own).0 (rw m at found))

      from : (j : ℕ) × SlotHolds image j t → occurs t tags ≡ true
      from (j, h) = go (occurs t tags) refl
        where
          go : (b : Bool) → occurs t tags ≡ b → occurs t tags ≡ true
          go true m = m
          go false m =
              let unfound : lookup_of image t ≡ answered unknown = rw m at found in
              absurd ((checked-lookup image checked t).misses.0 unfound j h)

  pub all-as-built : (g : ℕ) → g < groups → not_as_built (view_of image) g ≡ false
  unfolding not_as_built
  all-as-built g lt =
      let v = view_of image in
      let list = held-only image checked tags (planned-ascending tags groups limit planned) holding in
      let many-groups = written-groups tags groups limit words planned in
      let its-tags : sorted (slots_in v g) ≡ members groups g tags =
      sym (held-members image checked g (rw many-groups lt)) ∙ rw (list, many-groups) in
      as-given (seed_in v g) (slots_in v g)
      (written-seed tags groups limit words planned g lt ∙ ap seed_given (sym its-tags))
      (written-slots tags groups limit words planned g lt ∙ ap slots_given (sym its-tags))

-- An image that checking accepts, beside the one that building writes for its tags.
module _ (image : List ℕ) (accepted : checking_of image ≡ answered 0) where
  abbrev v : View
  v = view_of image

  abbrev groups : ℕ
  groups = groups_in v

  abbrev tags : List ℕ
  tags = held_tags image accepted

  abbrev again : List ℕ
  again = image_of groups tags limit_max

  abbrev w : View
  w = view_of again

  words : (t : ℕ) → occurs t tags ≡ true → t < tag_end
  words = held-words image accepted

  planned : planning_of tags groups limit_max ≡ answered groups
  planned = held-planned image accepted

  pub again-built : Rebuilt image
  again-built = record {
    tags = tags;
    held = λ t. (held-slot image accepted t, λ (j, h). slot_held image accepted t j h);
    bytes = again;
    builds = builds-planned tags groups limit_max words planned;
  }

  again-checked : checking_of again ≡ answered 0
  again-checked = written-checked tags groups limit_max words planned

  -- Both have the same slots in each group.
  same-groups : groups_in v ≡ groups_in w
  same-groups = sym (written-groups tags groups limit_max words planned)

  same_start : (g : ℕ) → g < groups → start_in v g ≡ start_in w g
  same_start g lt = sym (written_start tags groups limit_max words planned g lt ∙ held_start image accepted g lt)

  same_end : (g : ℕ) → g < groups → end_in v g ≡ end_in w g
  same_end g lt =
      omega (
        arith,
        written-end tags groups limit_max words planned g lt,
        start-suc groups g tags,
        held_start image accepted g lt,
        ap length (held-members image accepted g lt),
        sorted-length (slots_in v g),
        slots-size image accepted g lt,
        (all_fair image accepted g lt).ascends,
      )

  again-seed : (g : ℕ) → g < groups → seed_in w g ≡ seed_given (sorted (slots_in v g))
  again-seed g lt = written-seed tags groups limit_max words planned g lt ∙ ap seed_given (held-members image accepted g lt)

  again-slots : (g : ℕ) → g < groups → slots_in w g ≡ slots_given (sorted (slots_in v g))
  again-slots g lt = written-slots tags groups limit_max words planned g lt ∙ ap slots_given (held-members image accepted g lt)

  -- A group is as built exactly where its numbers, and so its lines, are those of that image.
  numbers-as-built : (g : ℕ) → g < groups → not_as_built v g ≡ false → (seed_in v g ≡ seed_in w g) × (slots_in v g ≡ slots_in w g)
  unfolding not_as_built
  numbers-as-built g lt e =
      let (seed, slots) = given-of (seed_in v g) (slots_in v g) e in
      (seed ∙ sym (again-seed g lt), slots ∙ sym (again-slots g lt))

  lines-as-built : (g : ℕ) → g < groups → not_as_built v g ≡ false → group_lines image g ≡ group_lines again g
  lines-as-built g lt e =
      let (seeds, slots) = numbers-as-built g lt e in
      lines-of-numbers image again accepted again-checked g lt same-groups (same_start g lt) (same_end g lt) seeds slots

  as-built-lines : (g : ℕ) → g < groups → group_lines image g ≡ group_lines again g → not_as_built v g ≡ false
  unfolding not_as_built
  as-built-lines g lt e =
      let (seed, slots) =
      numbers-of-lines image again accepted again-checked g lt same-groups (same_start g lt) (same_end g lt) e in
      as-given (seed_in v g) (slots_in v g) (seed ∙ again-seed g lt) (slots ∙ again-slots g lt)

  -- Where every group is as built, the image is that image.
  slots-as-built : ((g : ℕ) → g < groups → not_as_built v g ≡ false) → (j : ℕ) → j < count_in v → slot_in v j ≡ slot_in w j
  slots-as-built each j lt =
      let g = group_of_slot v j in
      let lies = group_of_slot-lies v (all_fair image accepted) j (many image accepted) lt in
      let below = lies.group in
      let p : ℕ = j - start_in v g in
      let spot : start_in v g + p ≡ j = omega (arith, lies.from) in
      let spot' : start_in w g + p ≡ j = omega (arith, spot, same_start g below) in
      let inside : p < end_in v g - start_in v g = omega (arith, lies.from, lies.below) in
      let inside' : p < end_in w g - start_in w g = omega (arith, inside, same_start g below, same_end g below) in
      ap (slot_in v) (sym spot)
      ∙ sym (slots_at_lem image accepted g below p inside)
      ∙ ap (λ (slots : List ℕ). get_or slots p 0) (numbers-as-built g below (each g below)).1
      ∙ slots_at_lem again again-checked g (rw same-groups at below) p inside'
      ∙ ap (slot_in w) spot'

  image-again : ((g : ℕ) → g < groups → not_as_built v g ≡ false) → image ≡ again
  image-again each =
      bytes-of-numbers image again accepted again-checked
      (sym (written_count tags groups limit_max words planned ∙ held-length image accepted)) same-groups same_start
      (λ g lt. (numbers-as-built g lt (each g lt)).0) (slots-as-built each)

  pub ours-as-built : ((g : ℕ) → g < groups → not_as_built v g ≡ false) → Ours image
  ours-as-built each = record {
    tags = tags;
    groups = groups;
    limit = limit_max;
    builds = subst (λ (bytes : List ℕ). Builds tags groups limit_max bytes) (sym (image-again each))
        (builds-planned tags groups limit_max words planned);
  }

  -- Behind an accepted checking 19 decides.
  pub nineteen-decides : strict_check_of image ≡ in_order ((19, first (not_as_built v) groups) ∷ []) (answered 0)
  unfolding strict_check_of strict_checks checking_of
  nineteen-decides =
      in_order-append (checking_checks v) _ _
      ∙ in_order-pass (checking_checks v) _ (in_order-answered (checking_checks v) (answered 0) accepted).0

  -- Of any image that building writes for these tags with this B and L = 65,536: it is that one.
  rebuilt-only : (other : Rebuilt image) → other.bytes ≡ again
  rebuilt-only other =
      let ascending = planned-ascending other.tags groups limit_max (planned-of-builds other.builds) in
      let list = held-only image accepted other.tags ascending other.held in
      image-of-builds other.builds ∙ ap (λ (own : List ℕ). image_of groups own limit_max) (sym list)

  lowest-apart : (g : ℕ) → (strict_check_of image ≡ refused 19 g) ↔ LowestApart image again g
  unfolding in_order
  lowest-apart g = (to, from)
    where
      to : strict_check_of image ≡ refused 19 g → LowestApart image again g
      to e =
          let met = in_order-refused ((19, first (not_as_built v) groups) ∷ []) 0 (sym nineteen-decides ∙ e) in
          let at = first_some (not_as_built v) groups (met-alone ((19, first (not_as_built v) groups) ∷ []) 19 refl met).1 in
          record {
            group = at.below;
            apart = λ lines. true≢false (sym at.holds ∙ as-built-lines g at.below lines);
            lower = λ h lt. lines-as-built h (omega (arith, at.below)) (at.lowest h lt);
          }

      from : LowestApart image again g → strict_check_of image ≡ refused 19 g
      from low =
          let differs-here = go (not_as_built v g) refl in
          let found = first_found (not_as_built v) groups g low.group differs-here
          (λ h lt. as-built-lines h (omega (arith, low.group)) (low.lower h lt)) in
          nineteen-decides ∙ rw found
        where
          go : (b : Bool) → not_as_built v g ≡ b → not_as_built v g ≡ true
          go true e = e
          go false e = absurd (low.apart (lines-as-built g low.group e))

-- An image of a list is accepted.
accepted-ours : (image : List ℕ) → Ours image → strict_check_of image ≡ answered 0
unfolding in_order
accepted-ours image ours =
    let b = ours.builds in
    let planned = planned-of-builds b in
    let is = image-of-builds b in
    let built = image_of ours.groups ours.tags ours.limit in
    let checked = written-checked ours.tags ours.groups ours.limit b.words planned in
    let many-groups = written-groups ours.tags ours.groups ours.limit b.words planned in
    let none-differs = first_out (not_as_built (view_of built)) (groups_in (view_of built)) (λ g lt.
    all-as-built ours.tags ours.groups ours.limit b.words planned g (rw many-groups at lt)) in
    rw is (nineteen-decides built checked ∙ rw none-differs)

-- An accepted image is one of a list: of the tags that it holds, with its own B.
ours-accepted : (image : List ℕ) → strict_check_of image ≡ answered 0 → Ours image
unfolding strict_check_of strict_checks checking_of
ours-accepted image e =
    let v = view_of image in
    let (passes, end) = in_order-answered (strict_checks v) (answered 0) e in
    let (checks, (every, last)) = pass-split (checking_checks v) _ passes in
    let accepted : checking_of image ≡ answered 0 = in_order-pass (checking_checks v) (answered 0) checks in
    ours-as-built image accepted (first-none (not_as_built v) (groups_in v) every)

-- Checking's refusals come first.
pub refused-first : (image : List ℕ) (reason place : ℕ) → checking_of image ≡ refused reason place
    → strict_check_of image ≡ refused reason place
unfolding strict_check_of strict_checks checking_of
refused-first image reason place e =
    in_order-append (checking_checks (view_of image)) _ _
    ∙ refused-in_order (checking_checks (view_of image)) _ (in_order-refused (checking_checks (view_of image)) 0 e)

-- The theorem, for all bytes.
pub strict-condition : (image : List ℕ) → StrictCondition image (strict_check_of image)
strict-condition image = record {
  ours = (ours-accepted image, accepted-ours image);
  checked-first = refused-first image;
  rebuilt = again-built image;
  lowest = λ accepted other g. rw (rebuilt-only image accepted other) (lowest-apart image accepted g);
}
