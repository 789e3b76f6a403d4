-- What the loops of `strict_checking::first_not_as_built` keep true. Assumes nothing.
use Rattle.lists.proofs.SearchLaws.{Searched}
use Rattle.strict_checking.specs.Groups.{differs_at}
use Rattle.strict_checking.proofs.first_not_as_built.Given as goal

abbrev pub invariant-loop-g : goal.invariant-loop-g
invariant-loop-g l = Searched (differs_at l.starts l.seeds l.tags) 0 l.groups l.g
