-- `lines::write_tag` meets its contract: a tag whose first digit goes to one of the first three columns is digits from there on, eight
-- of them behind the first two columns. Assumes nothing.
use mathlib.Core.Path.{◌≡◌}
use mathlib.Core.List.{List}
use Prim.Native.Nat.{ℕ, ◌+◌, ◌-◌, ◌/◌, ◌%◌, ◌≤◌}
use native.Mathlib.Omega.{arith}
use lib.ListN.{length}
use borrow.Rule.Slice.PartMut.{put_mid}
use Rattle.lists.specs.Written.{written_at}
use Rattle.lists.proofs.WrittenLaws.{written_next}
use Rattle.digits.specs.Digits.{digits, digits_from}
use Rattle.digits.proofs.DigitsLaws.{digits_from-length, eight-behind}
use Rattle.digits.specs.Width.{width_of}
use Rattle.text.specs.Figure.{figure}
use Rattle.text.proofs.FigureLaws.{figure-from}
use Rattle.text.proofs.PartLaws.{part_length, part-written}
use Rattle.lines.proofs.write_tag.Goals as goal

first_two : (at : ℕ) {length : ℕ} → at + 10 ≤ length → at + 2 ≤ length
first_two at room = omega arith

-- Two columns and eight behind them are the tag's figure.
tag-written : (bytes : List ℕ) (at t first : ℕ) → at + 10 ≤ length bytes → first ≡ 10 - width_of t → first ≤ 2
    → written_at (at + 2) (digits 8 (t % 100000000)) (put_mid at (at + 2 - at) bytes (digits_from first 2 (t / 100000000)))
    ≡ written_at at (figure 10 t) bytes
tag-written bytes at t first room is le =
    let piece = digits_from first 2 (t / 100000000) in
    let long = digits_from-length first 2 (t / 100000000) in
    rw (part-written bytes at 2 piece long, figure-from 10 t, ← is, eight-behind first 2 t le)
    (written_next at (at + 2) piece (digits 8 (t % 100000000)) bytes (omega (arith, long)) (omega arith))

pub returns : goal.returns
returns c =
    let args = c.args in
    let bytes = args.buffer.now in
    record {
      bytes = rw (
        c.write_eight_digits.ensures.bytes,
        c.write_digits_from.ensures.bytes,
        part_length bytes args.at 2 (first_two args.at c.requires),
      )
          (tag-written bytes args.at args.t _ c.requires c.first_column-first.ensures.answer c.if-first-gt2.false);
    }
