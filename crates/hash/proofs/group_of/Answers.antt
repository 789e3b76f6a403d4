-- `hash::group_of` meets its contract: it hashes by K. Assumes nothing.
use borrow.Author.Rules.{rules}
use Rattle.hash.specs.Formula.{group_of}
use Rattle.hash.proofs.group_of.Goals as goal

pub returns : goal.returns
unfolding group_of
returns c = record { answer = search rules }
