-- What the loops of `text::read_field` keep true. Assumes nothing.
use Rattle.std.proofs.Common.{◌≡◌, take}
use Rattle.std.specs.Prelude.{Some}
use Rattle.columns.specs.Columns.{leading_from}
use Rattle.text.proofs.read_field.Given as goal

abbrev pub invariant-loop-byte : goal.invariant-loop-byte
invariant-loop-byte l = leading_from 0 (take l.byte-index l.leading) ≡ Some l.v
