-- Condition 3, over the C boundary. Assumes nothing.
use Rattle.std.specs.Prelude.{List, ℕ, length}
use Rattle.from_text.specs.Condition3.{TextPlanningCondition3, TextWritingCondition3, TextCondition3}
use Rattle.answer64.specs.Answer64.{outcome64}

-- Condition 3, for the list that a text states. Planning's part: of the 64-bit number r that the call answers, and of the plan;
abbrev pub PlanCondition3 : List ℕ → ℕ → List ℕ → Type 0
PlanCondition3 text r plan = TextPlanningCondition3 text (outcome64 r) plan

-- writing's part: of r, and of the bytes left in the image;
abbrev pub WriteCondition3 : List ℕ → List ℕ → ℕ → List ℕ → Type 0
WriteCondition3 text plan r after = TextWritingCondition3 text plan (outcome64 r) after

-- and the whole, for building.
abbrev pub BuildCondition3 : List ℕ → List ℕ → ℕ → List ℕ → Type 0
BuildCondition3 text before r after = TextCondition3 text (length before) (outcome64 r) after
