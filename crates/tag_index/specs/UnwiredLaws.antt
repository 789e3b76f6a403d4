-- "Tag 0 belongs to nobody", over the C boundary: a list text that states it and an image that holds it are refused, and looking it
-- up gives no number. An answer from 2^32 on is a refusal. Assumes nothing.
use Rattle.std.specs.Prelude.{◌≡◌, refl, true, List, ℕ, ◌≤◌, ◌<◌}
use Rattle.std.proofs.Common.{sym, ◌∙◌, arith}
use Rattle.refusal.specs.Limits.{tag_end, unwired}
use Rattle.refusal.specs.Outcome.{Outcome, answered, refused, answered_by}
use Rattle.refusal.proofs.OutcomeLaws.{followed-answered}
use Rattle.lists.specs.Occurs.{occurs}
use Rattle.lists.proofs.OccursLaws.{occurs-not}
use Rattle.list.specs.Reading.{Listed}
use Rattle.image.specs.Checking.{checking_of}
use Rattle.image.specs.Holds.{SlotHolds}
use Rattle.image.specs.Lookup.{Found, number, unknown, lookup_of}
use Rattle.image.proofs.CheckedLookupLaws.{checked-wired}
use Rattle.image.proofs.UnwiredLaws.{unwired-unanswered}
use Rattle.numbering.specs.FromText.{list_from_text, planning_from_text, writing_from_text, building_from_text}
use Rattle.numbering.proofs.UnwiredLaws.{planning-wired, writing-wired, from-text-wired}
use Rattle.answer64.specs.Answer64.{answer64, found_number}
use Rattle.answer64.proofs.Answer64Laws.{Fits}
use Rattle.tag_index.specs.Calls.{plan_answer, write_answer, build_answer, check_answer, lookup_answer}
use Rattle.tag_index.specs.CallsLaws.{plan-fits, write-fits, build-fits, check-fits, lookup-fits}

-- An outcome that is no answer is a refusal.
refusal-above : (o : Outcome ℕ) → Fits o → ((n : ℕ) → o ≡ answered n → ⊥) → tag_end ≤ answer64 o
unfolding answer64
refusal-above (answered n) fits never = absurd (never n refl)
refusal-above (refused reason place) (some-reason, below) never = omega arith

pub plan-unwired : (text : List ℕ) {listed : Listed} → list_from_text text ≡ answered listed
    → occurs unwired listed.tags ≡ true → tag_end ≤ plan_answer text
unfolding plan_answer planning_from_text
plan-unwired text {listed} read there =
    refusal-above (planning_from_text text) (plan-fits text)
    (λ planned e.
    occurs-not unwired listed.tags there
    (planning-wired listed.tags listed.groups listed.limit (sym (followed-answered _ read) ∙ e)))

pub write-unwired : (text plan : List ℕ) (room : ℕ) {listed : Listed} → list_from_text text ≡ answered listed
    → occurs unwired listed.tags ≡ true → tag_end ≤ write_answer text plan room
unfolding write_answer writing_from_text
write-unwired text plan room {listed} read there =
    refusal-above (writing_from_text text plan room) (write-fits text plan room)
    (λ size e. occurs-not unwired listed.tags there (writing-wired listed.tags plan room (sym (followed-answered _ read) ∙ e)))

pub build-unwired : (text : List ℕ) (room : ℕ) {listed : Listed} → list_from_text text ≡ answered listed
    → occurs unwired listed.tags ≡ true → tag_end ≤ build_answer text room
unfolding build_answer
build-unwired text room {listed} read there =
    refusal-above (building_from_text text room) (build-fits text room)
    (λ size e. occurs-not unwired listed.tags there (from-text-wired text room read e))

pub check-unwired : (image : List ℕ) (j : ℕ) → SlotHolds image j unwired → tag_end ≤ check_answer image
unfolding check_answer
check-unwired image j holds = refusal-above (checking_of image) (check-fits image) (λ n e. checked-wired image e j holds)

pub lookup-unwired : (image : List ℕ) → lookup_answer image unwired < tag_end → lookup_answer image unwired ≡ found_number unknown
unfolding lookup_answer answered_by answer64
lookup-unwired image = go (lookup_of image unwired) refl (lookup-fits image unwired)
  where
    go : (o : Outcome Found) → lookup_of image unwired ≡ o → Fits (answered_by found_number o)
        → answer64 (answered_by found_number o) < tag_end → answer64 (answered_by found_number o) ≡ found_number unknown
    go (answered (number j)) e fits below = absurd (unwired-unanswered image j e)
    go (answered unknown) e fits below = refl
    go (refused reason place) e fits below = absurd (let some = fits.0 in omega arith)
