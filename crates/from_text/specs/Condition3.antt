-- Condition 3, for planning, writing and building from a list text. Assumes nothing.
use Rattle.std.specs.Prelude.{◌≡◌, List, ℕ}
use Rattle.refusal.specs.Outcome.{Outcome, answered}
use Rattle.list.specs.Reading.{Listed}
use Rattle.numbering.specs.FromText.{list_from_text, plan_from_text}
use Rattle.condition3.specs.Condition3.{PlanningCondition3, WritingCondition3, Condition3}

-- What holds of the list that a text states. A text that is refused states none.
abbrev pub OfList : List ℕ → (Listed → Type 0) → Type 0
OfList text holds = (listed : Listed) → list_from_text text ≡ answered listed → holds listed

-- Planning's part, of its answer and the yielded plan;
abbrev pub TextPlanningCondition3 : List ℕ → Outcome ℕ → List ℕ → Type 0
TextPlanningCondition3 text outcome plan =
    OfList text (λ listed. PlanningCondition3 listed.tags listed.groups listed.limit outcome plan)

-- writing's part, whatever plan it is given;
abbrev pub TextWritingCondition3 : List ℕ → List ℕ → Outcome ℕ → List ℕ → Type 0
TextWritingCondition3 text plan outcome after = OfList text (λ listed. WritingCondition3 listed.tags plan outcome after)

-- and the whole, of building's answer for a buffer of `room` bytes, and of the bytes left. The plan is the one that planning yields.
abbrev pub TextCondition3 : List ℕ → ℕ → Outcome ℕ → List ℕ → Type 0
TextCondition3 text room outcome after =
    OfList text (λ listed. Condition3 listed.tags listed.groups listed.limit room (plan_from_text text) outcome after)
