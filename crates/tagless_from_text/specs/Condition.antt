-- The condition of an index without tags, for building from a list text. Assumes nothing.
use Rattle.std.specs.Prelude.{List, ℕ}
use Rattle.refusal.specs.Outcome.{Outcome}
use Rattle.from_text.specs.Condition3.{OfList}
use Rattle.tagless_condition.specs.Condition.{TaglessCondition}

-- It holds of the list that the text states, of building's answer for a buffer of `room` bytes, and of the bytes left.
abbrev pub TextTaglessCondition : List ℕ → ℕ → Outcome ℕ → List ℕ → Type 0
TextTaglessCondition text room outcome after =
    OfList text (λ listed. TaglessCondition listed.tags listed.groups listed.limit room outcome after)
