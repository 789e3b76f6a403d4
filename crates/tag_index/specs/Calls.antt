-- What each call over the C boundary answers. Assumes nothing.
use Rattle.std.specs.Prelude.{ℕ, List}
use Rattle.refusal.specs.Outcome.{answered_by}
use Rattle.image.specs.Checking.{checking_of}
use Rattle.image.specs.Lookup.{lookup_of}
use Rattle.numbering.specs.FromText.{planning_from_text, writing_from_text, building_from_text}
use Rattle.answer64.specs.Answer64.{answer64, found_number}

-- The calls. Planning takes a list text and answers B; writing takes a list text, a plan and a buffer of `room` bytes, building a list
-- text and such a buffer, and both answer the length.
unfoldable pub plan_answer : List ℕ → ℕ
plan_answer text = answer64 (planning_from_text text)

unfoldable pub write_answer : List ℕ → List ℕ → ℕ → ℕ
write_answer text plan room = answer64 (writing_from_text text plan room)

unfoldable pub build_answer : List ℕ → ℕ → ℕ
build_answer text room = answer64 (building_from_text text room)

unfoldable pub check_answer : List ℕ → ℕ
check_answer image = answer64 (checking_of image)

unfoldable pub lookup_answer : List ℕ → ℕ → ℕ
lookup_answer image tag = answer64 (answered_by found_number (lookup_of image tag))
