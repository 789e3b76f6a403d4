-- `lines::write_pair_line` meets its contract: two figures and the line feed, each written behind the last, are the line. Assumes nothing.
use mathlib.Core.List.{◌++◌}
use Prim.Native.Nat.{◌+◌}
use native.Mathlib.Omega.{arith}
use lib.ListN.{length-set, length-append}
use Rattle.lists.proofs.WrittenLaws.{written_next, written_byte}
use Rattle.text.specs.Figure.{figure}
use Rattle.text.proofs.FigureLaws.{figure-length}
use Rattle.text.specs.Line.{pair_line}
use Rattle.lines.proofs.write_pair_line.Goals as goal

pub shape_of-buffer : goal.shape_of-buffer
shape_of-buffer c = simp length-set (omega arith)

pub returns : goal.returns
unfolding pair_line
returns c =
    let args = c.args in
    let bytes = args.buffer.now in
    let a = figure 5 args.a in
    let b = figure 5 args.b in
    record {
      bytes = rw (
        c.write_field-2.ensures.bytes,
        c.write_field.ensures.bytes,
        written_next args.at (args.at + 5) a b bytes (rw figure-length) (omega arith),
      )
          (written_byte args.at (args.at + 10) (a ++ b) bytes 10 (simp (length-append, figure-length)) (omega arith));
    }
