-- `parity::parity` meets its contract: the ones of the two words' `and` are counted modulo 2. Assumes nothing.
use mathlib.Core.Path.{refl}
use Rattle.parity.specs.Parity.{parity}
use Rattle.parity.proofs.parity.Goals as goal

pub returns : goal.returns
unfolding parity
returns c = record { answer = refl }
