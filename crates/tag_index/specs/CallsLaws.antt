-- The 64-bit answers keep apart all outcomes that the calls can come to: each of them fits. Assumes nothing.
use Rattle.std.specs.Prelude.{◌≡◌, refl, not, List, [], ◌∷◌, ℕ, ◌<◌, eqb}
use Rattle.std.proofs.Common.{arith}
use Rattle.refusal.specs.Limits.{tag_end, unwired}
use Rattle.refusal.specs.Outcome.{Outcome, answered, refused, answered_by}
use Rattle.refusal.proofs.OutcomeLaws.{answered-of-followed}
use Rattle.lists.specs.First.{met_at, is_some}
use Rattle.refusal.proofs.ChecksLaws.{in_order-answered}
use Rattle.refusal.proofs.PlaceLaws.{Numbered, numbered-checks, numbered-followed, numbered-cond}
use Rattle.hash.specs.Formula.{group_of}
use Rattle.image.specs.View.{View, view_of, groups_in, start_in, end_in, slot_line_in, slot_in}
use Rattle.image.specs.Checking.{opening_checks, number_checks, checking_checks, checking_of}
use Rattle.image.specs.Lookup.{Found, number, unknown, group_checks, lookup_checks, at_slot, lookup_in_group, lookup_of}
use Rattle.image.proofs.SheetLaws.{longest-is}
use Rattle.image.proofs.CheckedLookupLaws.{count_most}
use Rattle.image.proofs.LookupLaws.{lookup-any}
use Rattle.numbering.specs.Planning.{earlier_checks, planning_checks, planning_of}
use Rattle.numbering.proofs.PlanningLaws.{planning-says, earlier-groups}
use Rattle.numbering.specs.Writing.{writing_checks, writing_of}
use Rattle.numbering.proofs.WritingLaws.{written-most}
use Rattle.numbering.specs.Building.{building_of}
use Rattle.numbering.proofs.BuildingLaws.{answered-most}
use Rattle.numbering.specs.FromText.{list_from_text, planning_from_text, writing_from_text, building_from_text}
use Rattle.from_text.specs.PlaceLaws.{text_lines, plan-text-place, write-text-place, from-text-place, list-numbered}
use Rattle.answer64.specs.Answer64.{found_number}
use Rattle.answer64.proofs.Answer64Laws.{Fits, fits-of, answers-apart, SlotFound, found-fits, found-apart}
use Rattle.tag_index.specs.Calls.{plan_answer, write_answer, build_answer, check_answer, lookup_answer}
use Rattle.opening.specs.PlaceLaws.{image_lines, checking-place, lookup-place}

-- Every refusal of planning, of writing and of building from a text has a number, B is at most 512, and a length at most 50,699.
planning-numbered : (tags : List ℕ) (groups limit : ℕ) → Numbered (planning_of tags groups limit)
unfolding planning_of planning_checks earlier_checks
planning-numbered tags groups limit = numbered-checks (planning_checks tags groups limit) _ refl tt

writing-numbered : (tags plan : List ℕ) (room : ℕ) → Numbered (writing_of tags plan room)
unfolding writing_of writing_checks
writing-numbered tags plan room = numbered-checks (writing_checks tags plan room) _ refl tt

-- So every outcome of planning from a text fits,
pub plan-fits : (text : List ℕ) → Fits (planning_from_text text)
unfolding planning_from_text
plan-fits text =
    fits-of text_lines (planning_from_text text) (omega arith) (plan-text-place text)
    (numbered-followed (list_from_text text) _ (list-numbered text)
    (λ listed. planning-numbered listed.tags listed.groups listed.limit))
    small
  where
    small : (n : ℕ) → planning_from_text text ≡ answered n → n < tag_end
    small n e =
        let (listed, read, told) = answered-of-followed (list_from_text text) _ e in
        let (passes, every, is) = planning-says listed.tags listed.groups listed.limit told in
        omega (arith, is, earlier-groups listed.tags listed.groups listed.limit passes)

-- every outcome of writing,
pub write-fits : (text plan : List ℕ) (room : ℕ) → Fits (writing_from_text text plan room)
unfolding writing_from_text
write-fits text plan room =
    fits-of text_lines (writing_from_text text plan room) (omega arith) (write-text-place text plan room)
    (numbered-followed (list_from_text text) _ (list-numbered text) (λ listed. writing-numbered listed.tags plan room))
    small
  where
    small : (n : ℕ) → writing_from_text text plan room ≡ answered n → n < tag_end
    small n e =
        let (listed, read, told) = answered-of-followed (list_from_text text) _ e in
        omega (arith, written-most listed.tags plan room told, longest-is)

-- every outcome of building,
pub build-fits : (text : List ℕ) (room : ℕ) → Fits (building_from_text text room)
unfolding building_from_text building_of
build-fits text room =
    fits-of text_lines (building_from_text text room) (omega arith) (from-text-place text room)
    (numbered-followed (list_from_text text) _ (list-numbered text)
    (λ listed.
    numbered-followed (planning_of listed.tags listed.groups listed.limit) _
    (planning-numbered listed.tags listed.groups listed.limit) (λ planned. writing-numbered listed.tags _ room)))
    small
  where
    small : (n : ℕ) → building_from_text text room ≡ answered n → n < tag_end
    small n e =
        let (listed, read, told) = answered-of-followed (list_from_text text) _ e in
        omega (arith, answered-most listed.tags listed.groups listed.limit room told, longest-is)

-- every outcome of checking,
pub check-fits : (image : List ℕ) → Fits (checking_of image)
unfolding checking_of checking_checks number_checks opening_checks
check-fits image =
    fits-of image_lines (checking_of image) (omega arith) (checking-place image)
    (numbered-checks (checking_checks (view_of image)) (answered 0) refl tt)
    (λ n e. let told = (in_order-answered (checking_checks (view_of image)) (answered 0) e).1 in let z : 0 ≡ n = cc in omega arith)

-- and every outcome of lookup: a number is that of a slot, and unknown is no slot's.
slots-numbered : (v : View) (t j : ℕ) (next : Outcome Found) → Numbered next → Numbered (at_slot v t j next)
unfolding at_slot
slots-numbered v t j next h =
    numbered-checks ((12, met_at (slot_line_in v j) (not (is_some (v.slot_at (slot_line_in v j))))) ∷ [])
    _ refl (numbered-cond (eqb (slot_in v j) t) (answered (number j)) next tt h)

lookup-numbered : (image : List ℕ) (t : ℕ) → Numbered (lookup_of image t)
unfolding lookup_of lookup_in_group lookup_checks group_checks opening_checks
lookup-numbered image t =
    let v = view_of image in
    let g = group_of (groups_in v) t in
    numbered-cond (eqb t unwired) _ _ (numbered-checks (opening_checks v) (answered unknown) refl tt)
    (numbered-checks (lookup_checks v g) _ refl
    (numbered-cond (eqb (start_in v g) (end_in v g)) (answered unknown) _ tt
    (slots-numbered v t _ _ (slots-numbered v t _ (answered unknown) tt))))

lookup-slot : (image : List ℕ) (t : ℕ) → SlotFound (lookup_of image t)
lookup-slot image t = go (lookup_of image t) refl
  where
    go : (o : Outcome Found) → lookup_of image t ≡ o → SlotFound o
    go (answered (number j)) e = omega (arith, (lookup-any image t j e).slot, count_most image)
    go (answered unknown) e = tt
    go (refused reason place) e = tt

pub lookup-fits : (image : List ℕ) (t : ℕ) → Fits (answered_by found_number (lookup_of image t))
lookup-fits image t =
    found-fits image_lines (lookup_of image t) (omega arith) (lookup-slot image t) (lookup-place image t) (lookup-numbered image t)

-- Calls with one answer came to one outcome: planning,
pub plan-apart : (text text' : List ℕ) → plan_answer text ≡ plan_answer text' → planning_from_text text ≡ planning_from_text text'
unfolding plan_answer
plan-apart text text' = answers-apart _ _ (plan-fits text) (plan-fits text')

-- writing,
pub write-apart : (text text' plan plan' : List ℕ) (room room' : ℕ) → write_answer text plan room ≡ write_answer text' plan' room'
    → writing_from_text text plan room ≡ writing_from_text text' plan' room'
unfolding write_answer
write-apart text text' plan plan' room room' = answers-apart _ _ (write-fits text plan room) (write-fits text' plan' room')

-- building,
pub build-apart : (text text' : List ℕ) (room room' : ℕ) → build_answer text room ≡ build_answer text' room'
    → building_from_text text room ≡ building_from_text text' room'
unfolding build_answer
build-apart text text' room room' = answers-apart _ _ (build-fits text room) (build-fits text' room')

-- checking,
pub check-apart : (image image' : List ℕ) → check_answer image ≡ check_answer image' → checking_of image ≡ checking_of image'
unfolding check_answer
check-apart image image' = answers-apart _ _ (check-fits image) (check-fits image')

-- and lookup.
pub lookup-apart : (image image' : List ℕ) (t t' : ℕ)
    → lookup_answer image t ≡ lookup_answer image' t' → lookup_of image t ≡ lookup_of image' t'
unfolding lookup_answer
lookup-apart image image' t t' e =
    found-apart (lookup_of image t) (lookup_of image' t') (lookup-slot image t) (lookup-slot image' t')
    (answers-apart _ _ (lookup-fits image t) (lookup-fits image' t') e)
