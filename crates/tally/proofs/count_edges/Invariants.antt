-- What the loops of `tally::count_edges` keep true. Assumes nothing.
use Rattle.places.specs.Array.{key_at}
use Rattle.tally.specs.Tally.{both_labelled}
use Rattle.tally.specs.TallyLaws.{Counted}
use Rattle.tally.proofs.count_edges.Given as goal

abbrev pub invariant-loop-i : goal.invariant-loop-i
invariant-loop-i l = Counted (both_labelled l.labels) (key_at l.places) l.n l.counts l.i
