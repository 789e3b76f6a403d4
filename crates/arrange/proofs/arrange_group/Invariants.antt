-- What the loops of `arrange::arrange_group` keep true. Assumes nothing.
use lib.ListN.{length}
use Rattle.arrange.proofs.Cells.{Arranged}
use Rattle.arrange.proofs.arrange_group.Given as goal

abbrev pub invariant-loop-i : goal.invariant-loop-i
invariant-loop-i l = Arranged l.part l.seed (length l.initial.cells) l.cells l.i
