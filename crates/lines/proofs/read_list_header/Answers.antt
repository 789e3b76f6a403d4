-- `lines::read_list_header` meets its contract: a list's header is a line of two numbers, in any range. Assumes nothing.
use Rattle.text.specs.Line.{list_header}
use Rattle.lines.proofs.read_list_header.Goals as goal

pub returns : goal.returns
unfolding list_header
returns c = record { answer = c.read_pair.ensures.answer }
