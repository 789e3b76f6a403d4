-- What the loops of `tagless_plan::word_groups` keep true. Assumes nothing.
use Rattle.tagless_plan.proofs.Search.{FoundUpTo}
use Rattle.tagless_plan.proofs.word_groups.Given as goal

abbrev pub invariant-loop-g : goal.invariant-loop-g
invariant-loop-g l =
    FoundUpTo l.groups l.ordered l.ends l.limit l.initial.seeds l.initial.words l.seeds l.words l.start l.g
