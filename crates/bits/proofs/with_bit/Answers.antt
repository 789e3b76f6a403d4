-- `bits::with_bit` meets its contract: 1 shifted by p < 32 is 2^p, and `or` with it sets bit p. Assumes nothing.
use Rattle.bits.specs.BitLaws.{set_bit-or, one_shifted}
use Rattle.bits.proofs.with_bit.Goals as goal

pub returns : goal.returns
returns c = record { answer = rw (one_shifted c.args.p c.requires) (set_bit-or c.args.word c.args.p) }
