-- `word_line::fields_at` meets its contract: the two fields are read, and the seed's range is asked for. Assumes nothing.
use native.Mathlib.Omega.{arith}
use borrow.Author.Tests.{le-leb, lt-leb}
use Rattle.refusal.specs.Limits.{seed_max}
use Rattle.text.specs.Line.{within}
use Rattle.word_line.proofs.fields_at.Goals as goal

pub returns-in_err-start : goal.returns-in_err-start
unfolding within
returns-in_err-start c = record { answer = rw (c.from_residual.ensures, ← c.in_err-start.ensures.answer) }

pub returns-then-seed-gt-SEED_MAX : goal.returns-then-seed-gt-SEED_MAX
unfolding within
returns-then-seed-gt-SEED_MAX c =
    record {
      answer = rw (
        ← c.in_ok-start.ensures.answer,
        lt-leb c.in_ok-start.seed seed_max (omega arith),
      );
    }

pub returns : goal.returns
unfolding within
returns c =
    record {
      answer = rw (
        ← c.in_ok-start.ensures.answer,
        le-leb c.in_ok-start.seed seed_max (omega arith),
      );
    }
