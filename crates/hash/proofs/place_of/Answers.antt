-- `hash::place_of` meets its contract: it hashes by the multiplier of the seed and the choice. Assumes nothing.
use Rattle.hash.specs.Formula.{place_of}
use Rattle.hash.proofs.place_of.Goals as goal

pub returns : goal.returns
unfolding place_of
returns c = record { answer = cc }
