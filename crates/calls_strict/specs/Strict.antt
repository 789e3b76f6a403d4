-- The strict check over the C boundary: what it answers, and what is owed of the answer. Document 02, §7. Assumes nothing.
use Rattle.std.specs.Prelude.{List, ℕ}
use Rattle.strict.specs.StrictCheck.{strict_check_of}
use Rattle.strict_condition.specs.Condition.{StrictCondition}
use Rattle.answer64.specs.Answer64.{answer64, outcome64}

-- 0 for an image that is accepted.
unfoldable pub strict_check_answer : List ℕ → ℕ
strict_check_answer image = answer64 (strict_check_of image)

-- The condition, of the 64-bit number r that is answered.
abbrev pub StrictAnswerCondition : List ℕ → ℕ → Type 0
StrictAnswerCondition image r = StrictCondition image (outcome64 r)
