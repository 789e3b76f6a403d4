-- Counting parts over the C boundary: what it answers, how a caller takes that apart, and what is owed of it. Document 02, §8. Assumes
-- nothing.
use Rattle.std.specs.Prelude.{ℕ, ◌+◌, ◌*◌, ◌/◌, ◌%◌, List, eqb}
use Rattle.refusal.specs.Outcome.{Outcome, answered_by}
use Rattle.graph.specs.HowMany.{one}
use Rattle.graph.specs.Parts.{Parts}
use Rattle.parts_condition.specs.Condition.{PartsCondition}
use Rattle.counting.specs.Counting.{counting_of}
use Rattle.answer64.specs.Answer64.{answer64, outcome64}

-- "2 × the number of parts, plus 1 if the seed serves"
unfoldable pub parts_number : Parts → ℕ
parts_number parts = 2 * parts.number + one parts.serves

unfoldable pub parts_answer : List ℕ → ℕ → ℕ
parts_answer tags seed = answer64 (answered_by parts_number (counting_of tags seed))

-- How a caller takes the answer apart: where it is no refusal, the seed serves if it is odd, and half of it is the number of parts.
unfoldable pub parts_in : ℕ → Parts
parts_in r = record { serves = eqb (r % 2) 1; number = r / 2 }

unfoldable pub parts64 : ℕ → Outcome Parts
parts64 r = answered_by parts_in (outcome64 r)

-- The condition, of the 64-bit number r that is answered.
abbrev pub PartsAnswerCondition : List ℕ → ℕ → ℕ → Type 0
PartsAnswerCondition tags seed r = PartsCondition tags seed (parts64 r)
