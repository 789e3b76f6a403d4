-- `bits::toggled` meets its contract: an exclusive `or` with 2^i toggles bit i. Assumes nothing.
use Rattle.bits.specs.BitLaws.{one_shifted}
use Rattle.bits.specs.WordBitsLaws.{toggle-xor}
use Rattle.bits.proofs.toggled.Goals as goal

pub returns : goal.returns
returns c = record { answer = cc (one_shifted c.args.i c.requires, toggle-xor c.args.word c.args.i) }
