-- `lines::write_figure` meets its contract: a figure is digits from the number's first column on. Assumes nothing.
use Rattle.text.proofs.FigureLaws.{figure-from}
use Rattle.lines.proofs.write_figure.Goals as goal

pub returns : goal.returns
returns c = record { bytes = rw (figure-from, ← c.first_column-first.ensures.answer) c.write_digits_from.ensures.bytes }
