-- What the loops of `tagless_write::write_lines` keep true. Assumes nothing.
use Rattle.tagless_write.specs.Stated.{stated_sheet}
use Rattle.tagless_write.proofs.Lines.{LinesWritten}
use Rattle.tagless_write.proofs.write_lines.Given as goal

abbrev pub invariant-loop-g : goal.invariant-loop-g
invariant-loop-g l = LinesWritten (stated_sheet l.ends l.seeds l.words l.groups l.count) l.initial.buffer l.buffer l.g
