-- What the loops of `lines::read_tag_lines` keep true. Assumes nothing.
use Rattle.lines.proofs.Examined.{Examined}
use Rattle.lines.proofs.read_tag_lines.Given as goal

abbrev pub invariant-loop-k : goal.invariant-loop-k
invariant-loop-k l = Examined l.bytes l.from l.end l.initial.cells l.cells l.k
