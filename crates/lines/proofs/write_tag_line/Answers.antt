-- `lines::write_tag_line` meets its contract: the figure and the line feed behind it are the line. Assumes nothing.
use Prim.Native.Nat.{◌+◌}
use native.Mathlib.Omega.{arith}
use Rattle.lists.proofs.WrittenLaws.{written_byte}
use Rattle.text.specs.Figure.{figure}
use Rattle.text.proofs.FigureLaws.{figure-length}
use Rattle.text.specs.Line.{tag_line}
use Rattle.lines.proofs.write_tag_line.Goals as goal

pub returns : goal.returns
unfolding tag_line
returns c =
    let args = c.args in
    record {
      bytes = rw c.write_tag.ensures.bytes
          (written_byte args.at (args.at + 10) (figure 10 args.t) args.buffer.now 10 (rw figure-length) (omega arith));
    }
