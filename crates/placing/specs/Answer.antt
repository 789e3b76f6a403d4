-- What the code's answers mean. Assumes nothing.
use Rattle.std.specs.Prelude.{Result, Ok, Err}
use Rattle.refusal.specs.Outcome.{Outcome, answered}
use Rattle.refusal.specs.Reason.{refusal_of}
use Rattle.refusal.specs.declared.Refusal.{Refusal}
use Rattle.group.specs.Placing.{Placement}
use Rattle.placing.specs.declared.Placed.{Placed}

-- The seed and the choice word, or the refusal.
abbrev pub placing_outcome : Result Placed Refusal → Outcome Placement
placing_outcome (Ok placed) = answered (record { seed = placed.seed; word = placed.word })
placing_outcome (Err refusal) = refusal_of refusal
