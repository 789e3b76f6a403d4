-- What the loops of `tally::count_points` keep true. Assumes nothing.
use Rattle.tally.specs.Tally.{labelled}
use Rattle.tally.specs.TallyLaws.{Counted}
use Rattle.tally.proofs.count_points.Given as goal

abbrev pub invariant-loop-place : goal.invariant-loop-place
invariant-loop-place l = Counted (labelled l.labels) (λ u. u) l.n l.counts l.place
