-- `text::end_digit` meets its contract: the two bytes side by side are their sum. Assumes nothing.
use Rattle.std.proofs.Common.{◌∙◌, arith}
use lib.Bits.{or_shifted_r}
use Rattle.text.proofs.end_digit.Goals as goal

pub returns : goal.returns
returns c =
    let a = c.args in
    record { answer = c.wrapping_sub_u16.ensures.value ∙ or_shifted_r a.feed 8 a.byte (omega arith) ∙ omega arith }
