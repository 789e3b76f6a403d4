-- `text::column_byte` meets its contract: a space where nothing has come, and else the digit. Assumes nothing.
use Rattle.std.proofs.Common.{eq-eqb, ne_eqb}
use Rattle.columns.specs.Columns.{column_of}
use Rattle.text.proofs.column_byte.Goals as goal

pub returns-then-n-eq0 : goal.returns-then-n-eq0
unfolding column_of
returns-then-n-eq0 c = record { answer = rw (eq-eqb c.args.n 0 c.if-n-eq0.true) }

pub returns-else-n-eq0 : goal.returns-else-n-eq0
unfolding column_of
returns-else-n-eq0 c = record { answer = rw (ne_eqb c.args.n 0 c.if-n-eq0.false) }
