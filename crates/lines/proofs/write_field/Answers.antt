-- `lines::write_field` meets its contract: the figure is written into the field's part, and the part put back. Assumes nothing.
use Rattle.text.specs.Figure.{figure}
use Rattle.text.proofs.FigureLaws.{figure-length}
use Rattle.text.proofs.PartLaws.{part_length, part-written}
use Rattle.lines.proofs.write_field.Goals as goal

pub returns : goal.returns
returns c =
    let args = c.args in
    let bytes = args.buffer.now in
    record {
      bytes = rw (c.write_figure.ensures.bytes, part_length bytes args.at args.width c.requires)
          (part-written bytes args.at args.width (figure args.width args.n) (figure-length args.width args.n));
    }
