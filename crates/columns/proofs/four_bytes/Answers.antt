-- `columns::four_bytes` meets its contract: the bytes, each 256 times the one before. Assumes nothing.
use Rattle.digits.specs.Digits.{packed}
use Rattle.columns.proofs.Bytes.{four-bytes-at}
use Rattle.columns.proofs.four_bytes.Goals as goal

pub returns : goal.returns
unfolding packed
returns c =
    let a = c.args in
    record { answer = rw (four-bytes-at a.s.now a.at c.requires) c.four.ensures.answer; below = c.four.ensures.below }
