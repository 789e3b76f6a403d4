-- `lines::read_image_header` meets its contract: the tests are those of the definition's range, in its order. Assumes nothing.
use native.Mathlib.Omega.{arith}
use borrow.Author.Tests.{le-leb, lt-leb}
use Rattle.refusal.specs.Limits.{tags_max, groups_max}
use Rattle.text.specs.Line.{image_header, within}
use Rattle.lines.proofs.read_image_header.Goals as goal

pub returns-in_err-n : goal.returns-in_err-n
unfolding image_header within
returns-in_err-n c = record { answer = rw (c.from_residual.ensures, ← c.in_err-n.ensures.answer) }

pub returns-then-n-gt-TAGS_MAX : goal.returns-then-n-gt-TAGS_MAX
unfolding image_header within
returns-then-n-gt-TAGS_MAX c = record { answer = rw (← c.in_ok-n.ensures.answer, lt-leb c.in_ok-n.n tags_max (omega arith)) }

pub returns-then-b-lt1 : goal.returns-then-b-lt1
unfolding image_header within
returns-then-b-lt1 c = record {
  answer =
      rw (← c.in_ok-n.ensures.answer, le-leb c.in_ok-n.n tags_max (omega arith), lt-leb 1 c.in_ok-n.b (omega arith));
}

pub returns-then-b-gt-GROUPS_MAX : goal.returns-then-b-gt-GROUPS_MAX
unfolding image_header within
returns-then-b-gt-GROUPS_MAX c = record {
  answer =
      rw (
        ← c.in_ok-n.ensures.answer,
        le-leb c.in_ok-n.n tags_max (omega arith),
        le-leb 1 c.in_ok-n.b (omega arith),
        lt-leb c.in_ok-n.b groups_max (omega arith),
      );
}

pub returns : goal.returns
unfolding image_header within
returns c = record {
  answer =
      rw (
        ← c.in_ok-n.ensures.answer,
        le-leb c.in_ok-n.n tags_max (omega arith),
        le-leb 1 c.in_ok-n.b (omega arith),
        le-leb c.in_ok-n.b groups_max (omega arith),
      );
}
