-- `bits::choice_at` meets its contract: the lowest bit of the shifted word is bit i. Assumes nothing.
use Rattle.bits.specs.WordBitsLaws.{choice-shifted}
use Rattle.bits.proofs.choice_at.Goals as goal

pub returns : goal.returns
returns c = record { answer = choice-shifted c.args.word c.args.i }
