-- `opening::faulty` meets its contract: each branch is one of the ways in which a group is faulty, or none is left.
-- Assumes nothing.
use mathlib.Core.Path.{sym}
use native.Mathlib.Omega.{arith}
use Rattle.image.proofs.FaultLaws.{faulty-falls, faulty-large, faulty-first, faulty-of-fair}
use Rattle.opening.proofs.faulty.Goals as goal

pub returns-then-next-start : goal.returns-then-next-start
returns-then-next-start c = let a = c.args in record { answer = sym (faulty-falls a.g a.start a.next c.if-next-start.true) }

pub returns-then-next-start-gt-GROUP_MAX : goal.returns-then-next-start-gt-GROUP_MAX
returns-then-next-start-gt-GROUP_MAX c = let a = c.args in record { answer = sym (faulty-large a.g a.start a.next (omega arith)) }

pub returns-then-g-ne0 : goal.returns-then-g-ne0
returns-then-g-ne0 c =
    let a = c.args in
    record {
      answer = sym (faulty-of-fair a.g a.start a.next
          (record { zero-first = λ z. absurd (c.if-g-ne0.true z); ascends = omega arith; small = omega arith }));
    }

pub returns : goal.returns
returns c =
    let a = c.args in
    record { answer = rw c.if-g-ne0.false (sym (faulty-first a.start a.next (omega arith) (omega arith))) }
