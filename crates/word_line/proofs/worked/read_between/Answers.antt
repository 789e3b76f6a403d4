-- `word_line::worked::read_between` meets its contract: by the two promises the line read is the line written. Assumes nothing.
use mathlib.Core.Path.{◌≡◌, refl, ◌∙◌}
use mathlib.Core.List.{List}
use Prim.Native.Nat.{ℕ}
use native.Mathlib.Omega.{arith}
use lib.ListN.{length, take, drop}
use Rattle.lists.specs.Written.{written_at}
use Rattle.lists.proofs.WrittenLaws.{written-length}
use Rattle.word_line.specs.WordLine.{word_line_length, word_line}
use Rattle.word_line.proofs.WordLineLaws.{word_line-length, word-line}
use Rattle.word_line.proofs.Kept.{kept_there, kept-behind, kept-before}
use Rattle.word_line.proofs.worked.read_between.Goals as goal

-- The middle one of three lines is there after the first and the last were written.
between : (start seed word : ℕ) (text : List ℕ) {first second third : List ℕ} → length text ≡ 63
    → first ≡ written_at 21 (word_line start seed word) text
    → second ≡ written_at 0 (word_line 0 0 0) first
    → third ≡ written_at 42 (word_line 0 0 0) second
    → take word_line_length (drop 21 third) ≡ word_line start seed word
between start seed word text {first} {second} {third} long a b c =
    let line = word_line start seed word in
    let other = word_line 0 0 0 in
    let size = word_line-length start seed word in
    let other-size = word_line-length 0 0 0 in
    let m : length first ≡ 63 = rw a (written-length 21 line text (omega arith) ∙ long) in
    let n : length second ≡ 63 = rw b (written-length 0 other first (omega arith) ∙ m) in
    rw (
      c,
      kept-before word_line_length 21 42 other second (omega arith) (omega arith),
      b,
      kept-behind 21 0 other first (omega arith) (omega arith),
      a,
    )
    (kept_there 21 line text size (omega arith))

pub returns : goal.returns
returns c =
    let args = c.args in
    record {
      answer = c.read_word_line.ensures.answer
          ∙ rw (between args.start args.seed args.word _ refl c.write_word_line.ensures.bytes c.write_word_line-2.ensures.bytes
          c.write_word_line-3.ensures.bytes)
          (word-line args.start args.seed args.word c.requires.0 c.requires.1 (omega arith));
    }
