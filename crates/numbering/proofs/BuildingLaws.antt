-- The ways in which building ends, in the order of the checks of its two calls, and what it leaves in the buffer. Assumes nothing.
use Rattle.std.proofs.Math.Path.{◌≡◌, refl, sym}
use Rattle.std.proofs.Common.{◌∙◌, arith}
use Rattle.std.specs.Prelude.{Bool, length, drop, None, Some}
use Rattle.std.proofs.Math.Bool.{true, false}
use mathlib.Core.List.{List, [], ◌∷◌, ◌++◌}
use Prim.Native.Nat.{ℕ, ◌≤◌, ◌<◌}
use Rattle.std.proofs.Math.Dec.{ltb}
use borrow.Author.Tests.{ltb-true, ltb-false, lt-ltb, le-ltb}
use Rattle.refusal.specs.Outcome.{Outcome, answered, refused}
use Rattle.refusal.proofs.OutcomeLaws.{followed-answered, followed-refused, left-answered, left-refused}
use Rattle.lists.specs.First.{first, met_at}
use Rattle.refusal.specs.Checks.{Check, met, in_order, Pass}
use Rattle.refusal.specs.ChecksBefore.{checks_before}
use Rattle.refusal.proofs.ChecksLaws.{met-true, met-false, false-of-met, met_by, pass-split, met-alone}
use Rattle.refusal.proofs.ChecksLaws.{in_order-pass, in_order-append, in_order-answered, in_order-refused, refused-in_order}
use Rattle.image.specs.Sheet.{image_length, longest_image}
use Rattle.image.proofs.SheetLaws.{image-longest}
use Rattle.numbering.specs.Planning.{seedless, earlier_checks, planning_checks, planning_of, plan_after}
use Rattle.numbering.proofs.PlanningLaws.{planning-refused, planning-seedless, planning-answered, planning-says}
use Rattle.numbering.proofs.PlanningLaws.{plan-yielded, earlier-groups, earlier-count}
use Rattle.numbering.specs.Writing.{room_check, writing_of, written, buffer_written}
use Rattle.numbering.proofs.WritingLaws.{writing-yielded, image-yielded}
use Rattle.numbering.specs.Building.{building_of, buffer_after, image_of}

module _ (tags : List ℕ) (groups limit : ℕ) where
  abbrev earlier : List Check
  earlier = earlier_checks tags groups limit

  -- Planning's refusal is building's,
  pub building-unplanned : (room : ℕ) {number place : ℕ} → planning_of tags groups limit ≡ refused number place
      → building_of tags groups limit room ≡ refused number place
  unfolding building_of
  building-unplanned room e = followed-refused _ e

  -- and behind a planning that yields a plan it is writing,
  pub building-as-written : (room : ℕ) {planned : ℕ} → planning_of tags groups limit ≡ answered planned
      → building_of tags groups limit room ≡ writing_of tags (plan_after tags groups limit) room
  unfolding building_of
  building-as-written room e = followed-answered _ e

  pub buffer-as-written : (before : List ℕ) {planned : ℕ} → planning_of tags groups limit ≡ answered planned
      → buffer_after tags groups limit before ≡ buffer_written tags (plan_after tags groups limit) before
  unfolding buffer_after
  buffer-as-written before e = left-answered _ _ e

  -- where 9 decides.
  pub building-planned : (room : ℕ) {planned : ℕ} → planning_of tags groups limit ≡ answered planned
      → building_of tags groups limit room ≡ in_order (room_check groups tags room ∷ []) (answered (image_length groups (length tags)))
  building-planned room e =
      let (passes, every, is) = planning-says tags groups limit e in
      building-as-written room e ∙ rw (plan-yielded tags groups limit e) (writing-yielded tags groups limit passes every room)

  -- So writing with the same list and the plan as it was yielded never answers 8, 2, 5, 6, 17, 10 or 18: its one refusal is 9.
  pub nine-alone : (room : ℕ) {planned number place : ℕ} → planning_of tags groups limit ≡ answered planned
      → writing_of tags (plan_after tags groups limit) room ≡ refused number place
      → (number ≡ 9) × (room < image_length groups (length tags))
  unfolding in_order met met_at
  nine-alone room {planned} {number} {place} e told =
      go (ltb room (image_length groups (length tags))) refl (sym (sym (building-as-written room e) ∙ building-planned room e) ∙ told)
    where
      go : (b : Bool) → ltb room (image_length groups (length tags)) ≡ b
          → in_order ((9, met b) ∷ []) (answered (image_length groups (length tags))) ≡ refused number place
          → (number ≡ 9) × (room < image_length groups (length tags))
      go true short refusal = (cc, ltb-true room _ short)
      go false fits refusal = absurd (let z : ◌≡◌ {A = ℕ} 0 1 = cc in omega arith)

  -- "Where both 9 and 10 or 7 would be due, planning's is met first": 8, 4, 5, 6, 17, 10, 7, 9.
  pub building-in-order : (room : ℕ) → building_of tags groups limit room
      ≡ in_order (planning_checks tags groups limit ++ room_check groups tags room ∷ []) (answered (image_length groups (length tags)))
  unfolding planning_of
  building-in-order room = go (planning_of tags groups limit) refl
    where
      size : Outcome ℕ
      size = answered (image_length groups (length tags))

      go : (o : Outcome ℕ) → planning_of tags groups limit ≡ o
          → building_of tags groups limit room ≡ in_order (planning_checks tags groups limit ++ room_check groups tags room ∷ []) size
      go (answered planned) e =
          building-planned room e
          ∙ sym (in_order-append (planning_checks tags groups limit) _ size
          ∙ in_order-pass (planning_checks tags groups limit) _ (in_order-answered (planning_checks tags groups limit) _ e).0)
      go (refused number place) e =
          building-unplanned room e
          ∙ sym (in_order-append (planning_checks tags groups limit) _ size
          ∙ refused-in_order (planning_checks tags groups limit) _ (in_order-refused (planning_checks tags groups limit) groups e))

  module _ (room : ℕ) where
    -- A check before 7 that is met where those before it pass is building's refusal;
    pub building-refused : (number : ℕ) {place : ℕ} → Pass (checks_before number earlier) → met_by earlier number ≡ Some place
        → building_of tags groups limit room ≡ refused number place
    building-refused number passes e = building-unplanned room (planning-refused tags groups limit number passes e)

    -- where they pass, 7 is next, and then 9.
    module _ (passes : Pass earlier) where
      pub building-seedless : {g : ℕ} → first (seedless groups tags limit) groups ≡ Some g
          → building_of tags groups limit room ≡ refused 7 g
      building-seedless e = building-unplanned room (planning-seedless tags groups limit passes e)

      module _ (every : first (seedless groups tags limit) groups ≡ None) where
        pub building-answered : image_length groups (length tags) ≤ room
            → building_of tags groups limit room ≡ answered (image_length groups (length tags))
        unfolding in_order
        building-answered fits =
            building-planned room (planning-answered tags groups limit passes every) ∙ rw (met-false (le-ltb room _ fits))

        pub building-short : room < image_length groups (length tags) → building_of tags groups limit room ≡ refused 9 0
        unfolding in_order
        building-short short =
            building-planned room (planning-answered tags groups limit passes every) ∙ rw (met-true (lt-ltb room _ short))

    -- A refusal 7 is planning's, since no other check has its number.
    pub building-seven : {g : ℕ} → building_of tags groups limit room ≡ refused 7 g → first (seedless groups tags limit) groups ≡ Some g
    unfolding planning_checks earlier_checks
    building-seven e =
        let whole = planning_checks tags groups limit ++ room_check groups tags room ∷ [] in
        let met = in_order-refused whole (image_length groups (length tags)) (sym (building-in-order room) ∙ e) in
        (met-alone whole 7 refl met).1

    -- An answer says that planning yielded a plan and the image fits, and it is the image's length.
    pub answered-says : {size : ℕ} → building_of tags groups limit room ≡ answered size
        → (planning_of tags groups limit ≡ answered groups) × (image_length groups (length tags) ≤ room)
        × (image_length groups (length tags) ≡ size)
    unfolding planning_of
    answered-says e =
        let told = sym (building-in-order room) ∙ e in
        let (passes, answer) = in_order-answered (planning_checks tags groups limit ++ room_check groups tags room ∷ []) _ told in
        let (front, back) = pass-split (planning_checks tags groups limit) _ passes in
        (in_order-pass (planning_checks tags groups limit) _ front, ltb-false room _ (false-of-met _ back.0), cc)

-- The buffer: the image under the seeds taken, at the beginning of a buffer that building answers for.
pub buffer-after : (tags : List ℕ) (groups limit : ℕ) (before : List ℕ)
    → buffer_after tags groups limit before ≡ written (building_of tags groups limit (length before)) (image_of groups tags limit) before
unfolding buffer_after buffer_written written
buffer-after tags groups limit before = go (planning_of tags groups limit) refl
  where
    go : (o : Outcome ℕ) → planning_of tags groups limit ≡ o
        → buffer_after tags groups limit before ≡ written (building_of tags groups limit (length before))
        (image_of groups tags limit) before
    go (answered planned) e =
        let (passes, every, is) = planning-says tags groups limit e in
        buffer-as-written tags groups limit before e
        ∙ sym (rw (
          building-as-written tags groups limit (length before) e,
          plan-yielded tags groups limit e,
          image-yielded tags groups limit passes every,
        ))
    go (refused number place) e = left-refused _ _ e ∙ sym (left-refused _ _ (building-unplanned tags groups limit (length before) e))

-- A refusal leaves the buffer as it was; otherwise the image stands at its beginning.
module _ (tags : List ℕ) (groups limit : ℕ) (before : List ℕ) where
  pub buffer-kept : {number place : ℕ} → building_of tags groups limit (length before) ≡ refused number place
      → buffer_after tags groups limit before ≡ before
  unfolding written
  buffer-kept e = buffer-after tags groups limit before ∙ left-refused _ _ e

  pub buffer-written : {size : ℕ} → building_of tags groups limit (length before) ≡ answered size
      → buffer_after tags groups limit before ≡ image_of groups tags limit ++ drop (length (image_of groups tags limit)) before
  unfolding written
  buffer-written e = buffer-after tags groups limit before ∙ left-answered _ _ e

-- The length that building answers is that of the image.
pub answered-size : (tags : List ℕ) (groups limit room : ℕ) {size : ℕ} → building_of tags groups limit room ≡ answered size
    → size ≡ image_length groups (length tags)
answered-size tags groups limit room e = sym (answered-says tags groups limit room e).2

-- It is that of an image of at most 4,096 tags in at most 512 groups.
pub answered-most : (tags : List ℕ) (groups limit room : ℕ) {size : ℕ} → building_of tags groups limit room ≡ answered size
    → size ≤ longest_image
answered-most tags groups limit room e =
    let (planned, fits, size) = answered-says tags groups limit room e in
    let passes = (planning-says tags groups limit planned).0 in
    rw (answered-size tags groups limit room e)
    (image-longest groups (length tags) (earlier-groups tags groups limit passes).1 (earlier-count tags groups limit passes))

-- In every buffer that is long enough for the longest image building comes to the same: 9 never comes.
pub building-roomy : (tags : List ℕ) (groups limit room : ℕ) → longest_image ≤ room
    → building_of tags groups limit room ≡ building_of tags groups limit longest_image
building-roomy tags groups limit room enough = go (planning_of tags groups limit) refl
  where
    go : (o : Outcome ℕ) → planning_of tags groups limit ≡ o
        → building_of tags groups limit room ≡ building_of tags groups limit longest_image
    go (answered planned) e =
        let (passes, every, is) = planning-says tags groups limit e in
        let longest =
        image-longest groups (length tags) (earlier-groups tags groups limit passes).1 (earlier-count tags groups limit passes) in
        building-answered tags groups limit room passes every (omega arith)
        ∙ sym (building-answered tags groups limit longest_image passes every longest)
    go (refused number place) e =
        building-unplanned tags groups limit room e ∙ sym (building-unplanned tags groups limit longest_image e)
