-- Placing a group over the C boundary: what it answers and leaves in the cell, and what is owed of both. Assumes nothing.
use Rattle.std.specs.Prelude.{ℕ, List, [], ◌∷◌, get_or}
use Rattle.refusal.specs.Outcome.{Outcome, answered, refused, answered_by}
use Rattle.group.specs.Placing.{Placement, placing_of}
use Rattle.placing.specs.Condition3.{GroupCondition3}
use Rattle.answer64.specs.Answer64.{answer64, outcome64}

-- Placing answers the seed, and leaves the choice word in the one cell that it is lent; "a refusal leaves lent cells as they were".
unfoldable pub place_answer : List ℕ → ℕ → ℕ
place_answer tags limit = answer64 (answered_by (λ (placed : Placement). placed.seed) (placing_of tags limit))

unfoldable pub cell_with : Outcome Placement → List ℕ → List ℕ
cell_with (answered placed) before = placed.word ∷ []
cell_with (refused reason place) before = before

unfoldable pub word_after : List ℕ → ℕ → List ℕ → List ℕ
word_after tags limit before = cell_with (placing_of tags limit) before

-- How a caller takes placing's answer apart: where it is no refusal it is the seed, and the cell has the choice word.
unfoldable pub placed64 : ℕ → List ℕ → Outcome Placement
placed64 r cell = answered_by (λ seed. record { seed = seed; word = get_or cell 0 0 }) (outcome64 r)

-- Condition 3 of one group: of the 64-bit number r that the call answers, and of the cell as it is left.
abbrev pub PlaceCondition3 : List ℕ → ℕ → ℕ → List ℕ → Type 0
PlaceCondition3 tags limit r after = GroupCondition3 tags limit (placed64 r after)
