-- What the loops of `arrange::arrange` keep true. Assumes nothing.
use Rattle.arrange.proofs.Slots.{Filled}
use Rattle.arrange.proofs.arrange.Given as goal

abbrev pub invariant-loop-g : goal.invariant-loop-g
invariant-loop-g l = Filled l.ordered l.ends l.seeds l.groups l.initial.slots l.slots l.start l.g
