-- What the code's answers mean. Assumes nothing.
use Rattle.std.specs.Prelude.{Result, Ok, Err}
use Rattle.refusal.specs.Outcome.{Outcome, answered}
use Rattle.refusal.specs.Reason.{refusal_of}
use Rattle.refusal.specs.declared.Refusal.{Refusal}
use Rattle.graph.specs.Parts.{Parts}
use Rattle.parts.specs.declared.Parts.{Parts as Counted}

-- Whether the seed serves, with the number of parts.
abbrev pub parts_meaning : Counted → Parts
parts_meaning counted = record { serves = counted.serves; number = counted.number }

-- The same, or the refusal.
abbrev pub parts_outcome : Result Counted Refusal → Outcome Parts
parts_outcome (Ok counted) = answered (parts_meaning counted)
parts_outcome (Err refusal) = refusal_of refusal
