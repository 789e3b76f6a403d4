-- `answer64::worked::malformed_line_3` meets its contract, from the promise of `refusal_answer`: 12 and 3, by computation.
-- Assumes nothing.
use Rattle.answer64.specs.Answer64.{answer64}
use Rattle.answer64.proofs.worked.malformed_line_3.Goals as goal

pub returns : goal.returns
unfolding answer64
returns c = record { answer = c.refusal_answer.ensures.answer }
