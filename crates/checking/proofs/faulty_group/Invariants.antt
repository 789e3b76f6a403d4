-- What the loops of `checking::faulty_group` keep true. Assumes nothing.
use Rattle.lists.proofs.SearchLaws.{Searched}
use Rattle.checking.specs.Steps.{faulty_at}
use Rattle.checking.proofs.faulty_group.Given as goal

abbrev pub invariant-loop-g : goal.invariant-loop-g
invariant-loop-g l = Searched (faulty_at l.starts) 0 l.groups l.g
