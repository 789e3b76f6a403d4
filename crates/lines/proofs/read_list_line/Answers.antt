-- `lines::read_list_line` meets its contract: a later line of a list is a line of one tag. Assumes nothing.
use Rattle.text.specs.Line.{list_line}
use Rattle.lines.proofs.read_list_line.Goals as goal

pub returns : goal.returns
unfolding list_line
returns c = record { answer = c.read_tag.ensures.answer }
