-- `hash::hashed` meets its contract: the high part of the wrapped product is what its callees answer. Assumes nothing.
use Rattle.hash.specs.Formula.{hashed}
use Rattle.hash.proofs.hashed.Goals as goal

pub returns : goal.returns
unfolding hashed
returns c = record { answer = cc }
