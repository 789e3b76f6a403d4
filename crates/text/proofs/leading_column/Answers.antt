-- `text::leading_column` meets its contract: each branch is one of the ways in which a column is read. Assumes nothing.
use Rattle.std.proofs.Common.{sym, ◌∙◌}
use Rattle.text.proofs.Leading.{column-no-digit, column-other, column-same}
use Rattle.text.proofs.leading_column.Goals as goal

pub returns-then-low-ge10 : goal.returns-then-low-ge10
returns-then-low-ge10 c = let a = c.args in record { answer = column-no-digit a.v a.byte c.if-low-ge10.true }

pub returns-then-byte-column_byte : goal.returns-then-byte-column_byte
returns-then-byte-column_byte c =
    let a = c.args in
    record { answer = column-other a.v a.byte (λ e. c.if-byte-column_byte.true (e ∙ sym c.column_byte.ensures.answer)) c.if-low-ge10.false }

pub returns : goal.returns
returns c =
    let a = c.args in
    record { answer = column-same a.v a.byte (c.if-byte-column_byte.false ∙ c.column_byte.ensures.answer) c.if-low-ge10.false }
