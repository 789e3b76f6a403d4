-- What the loops of `digits::write_digits_from` keep true. Assumes nothing.
use lib.ListN.{length}
use Rattle.digits.proofs.Writing.{Writes}
use Rattle.digits.proofs.write_digits_from.Given as goal

abbrev pub invariant-loop-i : goal.invariant-loop-i
invariant-loop-i l = Writes l.first (length l.initial.s) l.n l.i l.rest l.s
