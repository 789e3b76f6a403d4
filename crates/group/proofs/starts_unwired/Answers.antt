-- `group::starts_unwired` meets its contract: an empty list has no first tag, and of another the first tag is compared. Assumes nothing.
use mathlib.Core.Path.{sym}
use native.Mathlib.Omega.{arith}
use Rattle.group.proofs.UnwiredLaws.{starts_none, starts_with}
use Rattle.group.proofs.starts_unwired.Goals as goal

pub returns-then-tags-eq0 : goal.returns-then-tags-eq0
returns-then-tags-eq0 c = record { answer = sym (starts_none _ c.if-tags-eq0.true) }

pub returns : goal.returns
returns c = record { answer = sym (starts_with _ (omega (arith, c.if-tags-eq0.false))) }
