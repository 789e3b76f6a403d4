-- `lines::read_slot_line` meets its contract: a slot's line is a line of one tag. Assumes nothing.
use Rattle.text.specs.Line.{slot_line}
use Rattle.lines.proofs.read_slot_line.Goals as goal

pub returns : goal.returns
unfolding slot_line
returns c = record { answer = c.read_tag.ensures.answer }
