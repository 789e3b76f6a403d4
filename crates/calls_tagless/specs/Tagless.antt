-- The calls of an index without tags over the C boundary: what each answers, and what is owed of the number answered. Document 02, §5.
-- Assumes nothing.
use Rattle.std.specs.Prelude.{◌≡◌, List, ℕ, ◌<◌, length}
use Rattle.refusal.specs.Outcome.{answered, answered_by}
use Rattle.image.specs.View.{count_in}
use Rattle.tagless_image.specs.View.{tagless_view}
use Rattle.tagless_image.specs.Checking.{tagless_checking_of}
use Rattle.tagless_image.specs.Lookup.{tagless_lookup_of}
use Rattle.tagless_lookup.specs.Checked.{Numberless}
use Rattle.tagless.specs.FromText.{tagless_from_text}
use Rattle.tagless_from_text.specs.Condition.{TextTaglessCondition}
use Rattle.answer64.specs.Answer64.{answer64, outcome64, found_number}

-- Building takes a list text and a buffer of `room` bytes and answers the length, checking 0, lookup the number or 4,294,967,295.
unfoldable pub tagless_build_answer : List ℕ → ℕ → ℕ
tagless_build_answer text room = answer64 (tagless_from_text text room)

unfoldable pub tagless_check_answer : List ℕ → ℕ
tagless_check_answer image = answer64 (tagless_checking_of image)

unfoldable pub tagless_lookup_answer : List ℕ → ℕ → ℕ
tagless_lookup_answer image tag = answer64 (answered_by found_number (tagless_lookup_of image tag))

-- The condition, for the list that a text states: of the 64-bit number r that building answers, and of the bytes left.
abbrev pub TaglessBuildCondition : List ℕ → List ℕ → ℕ → List ℕ → Type 0
TaglessBuildCondition text before r after = TextTaglessCondition text (length before) (outcome64 r) after

-- In a checked image, of the number r that lookup answers: below N, and 4,294,967,295 for tag 0 and in an empty group.
pub record TaglessAnswerCondition2 (image : List ℕ) (t r : ℕ) : Type 0 where
  pub finds : {a : ℕ} → tagless_checking_of image ≡ answered a → (Numberless image t → ⊥) → r < count_in (tagless_view image)
  pub misses : {a : ℕ} → tagless_checking_of image ≡ answered a → Numberless image t → r ≡ 4294967295
