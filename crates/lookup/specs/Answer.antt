-- What the code's answers mean. Assumes nothing.
use Rattle.refusal.specs.Outcome.{Outcome, answered}
use Rattle.refusal.specs.Reason.{refusal_of}
use Rattle.image.specs.Lookup.{Found, number, unknown}
use Rattle.lookup.specs.declared.LookupAnswer.{LookupAnswer}
use Rattle.lookup.specs.declared.LookupAnswer.TheVariants.{Number, Unknown, Refused}

-- "the answer is a number, unknown, or a refusal carrying its reason and place"
abbrev pub lookup_outcome : LookupAnswer → Outcome Found
lookup_outcome (Number j) = answered (number j)
lookup_outcome Unknown = answered unknown
lookup_outcome (Refused refusal) = refusal_of refusal
