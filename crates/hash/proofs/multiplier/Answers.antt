-- `hash::multiplier` meets its contract: the factor 4s + 2c + 1 fits 32 bits, since a seed is at most 65,535. Assumes nothing.
use borrow.Author.Rules.{rules}
use Rattle.hash.specs.Formula.{multiplier}
use Rattle.hash.proofs.multiplier.Goals as goal

pub returns : goal.returns
unfolding multiplier
returns c = record { answer = search rules }
