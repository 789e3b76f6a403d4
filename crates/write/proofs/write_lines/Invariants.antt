-- What the loops of `write::write_lines` keep true. Assumes nothing.
use Rattle.write.proofs.Lines.{LinesWritten}
use Rattle.write.proofs.write_lines.Given as goal

abbrev pub invariant-loop-k : goal.invariant-loop-k
invariant-loop-k l = LinesWritten l.ends l.seeds l.slots l.groups l.count l.initial.buffer l.buffer l.k
