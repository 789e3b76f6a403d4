-- `word_line::write_word_line` meets its contract: two figures and a tag's line, each written behind the last, are the line.
-- Assumes nothing.
use mathlib.Core.Path.{◌≡◌}
use mathlib.Core.List.{◌++◌}
use Prim.Native.Nat.{◌+◌}
use native.Mathlib.Omega.{arith}
use lib.ListN.{length, length-append}
use Rattle.lists.proofs.WrittenLaws.{written_next}
use Rattle.text.specs.Figure.{figure}
use Rattle.text.proofs.FigureLaws.{figure-length}
use Rattle.text.specs.Line.{tag_line}
use Rattle.word_line.proofs.WordLineLaws.{word_line-parts}
use Rattle.word_line.proofs.write_word_line.Goals as goal

pub returns : goal.returns
returns c =
    let args = c.args in
    let bytes = args.buffer.now in
    let start = figure 5 args.start in
    let seed = figure 5 args.seed in
    let long : length (start ++ seed) ≡ 10 = simp (length-append, figure-length) in
    record {
      bytes = rw (
        c.write_tag_line.ensures.bytes,
        c.write_field-2.ensures.bytes,
        c.write_field.ensures.bytes,
        written_next args.at (args.at + 5) start seed bytes (rw figure-length) (omega arith),
        written_next args.at (args.at + 10) (start ++ seed) (tag_line args.word) bytes (omega arith) (omega arith),
        ← word_line-parts args.start args.seed args.word,
      );
    }
