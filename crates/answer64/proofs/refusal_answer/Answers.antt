-- `answer64::refusal_answer` meets its contract: a number and a place of 32 bits each fit 64. Assumes nothing.
use native.Mathlib.Omega.{arith}
use Rattle.answer64.specs.Answer64.{answer64}
use Rattle.answer64.proofs.refusal_answer.Goals as goal

pub returns : goal.returns
unfolding answer64
returns c = record { answer = omega (arith, c.from.ensures) }
