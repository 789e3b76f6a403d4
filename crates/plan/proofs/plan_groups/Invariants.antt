-- What the loops of `plan::plan_groups` keep true. Assumes nothing.
use Rattle.plan.proofs.Search.{FoundUpTo}
use Rattle.plan.proofs.plan_groups.Given as goal

abbrev pub invariant-loop-g : goal.invariant-loop-g
invariant-loop-g l = FoundUpTo l.groups l.ordered l.ends l.limit l.initial.seeds l.seeds l.start l.g
