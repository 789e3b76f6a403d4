-- `lines::read_group_line` meets its contract: the test is that of the definition's range. Assumes nothing.
use native.Mathlib.Omega.{arith}
use Rattle.refusal.specs.Limits.{seed_max}
use borrow.Author.Tests.{le-leb, lt-leb}
use Rattle.text.specs.Line.{group_line, within}
use Rattle.lines.proofs.read_group_line.Goals as goal

pub returns-in_err-start : goal.returns-in_err-start
unfolding group_line within
returns-in_err-start c = record { answer = rw (c.from_residual.ensures, ← c.in_err-start.ensures.answer) }

pub returns-then-seed-gt-SEED_MAX : goal.returns-then-seed-gt-SEED_MAX
unfolding group_line within
returns-then-seed-gt-SEED_MAX c = record {
  answer =
      rw (← c.in_ok-start.ensures.answer, lt-leb c.in_ok-start.seed seed_max (omega arith));
}

pub returns : goal.returns
unfolding group_line within
returns c = record { answer = rw (← c.in_ok-start.ensures.answer, le-leb c.in_ok-start.seed seed_max (omega arith)) }
