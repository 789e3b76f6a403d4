-- What the code's answers mean. Assumes nothing.
use Rattle.std.specs.Prelude.{Result, Ok, Err}
use Rattle.refusal.specs.Outcome.{Outcome, answered}
use Rattle.refusal.specs.Reason.{refusal_of}
use Rattle.refusal.specs.declared.Refusal.{Refusal}

-- The outcome of an operation, from what its code answers.
abbrev pub outcome : {A : Type 0} → Result A Refusal → Outcome A
outcome (Ok a) = answered a
outcome (Err refusal) = refusal_of refusal
