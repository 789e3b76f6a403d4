-- What the loops of `tally::part_count` keep true. Assumes nothing.
use Rattle.tally.specs.Tally.{positive}
use Rattle.tally.specs.TallyLaws.{Tallied}
use Rattle.tally.proofs.part_count.Given as goal

abbrev pub invariant-loop-count : goal.invariant-loop-count
invariant-loop-count l = Tallied (positive l.counts) (λ u. u) l.n l.number l.count-index
