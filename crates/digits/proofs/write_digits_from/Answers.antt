-- `digits::write_digits_from` meets its contract: the columns from `i` on are written, and `rest` has the digits that are left.
-- Assumes nothing.
use mathlib.Core.Logic.{inl, inr}
use native.Mathlib.Omega.{arith}
use Rattle.digits.proofs.Writing.{writes_start, writes-turn, writes_end}
use Rattle.digits.proofs.write_digits_from.Goals as goal
use Rattle.digits.proofs.write_digits_from.Goals.{then-first-i, else-first-i}

pub loop-i-init : goal.loop-i-init
loop-i-init c = let args = c.args in writes_start args.first args.n args.s.now

-- No sum is more than a byte.
pub overflow_add-s : goal.overflow_add-s
overflow_add-s c = elim c.if-first-i.branch [ then-first-i w ↦ omega arith | else-first-i w ↦ omega arith ]

pub loop-i-preserved : goal.loop-i-preserved
loop-i-preserved c =
    writes-turn _ _ _ _ _ c.loop-i.s _ c.loop-i.invariant c.loop-i-test.true
    (elim c.if-first-i.branch [ then-first-i w ↦ inl (omega arith, w.zero-is) | else-first-i w ↦ inr (omega arith, w.zero-is) ])

pub shape_of-s : goal.shape_of-s
shape_of-s c = c.loop-i.invariant.long

pub returns : goal.returns
returns c = record { bytes = rw (writes_end _ _ _ _ _ c.loop-i.s c.loop-i.invariant c.loop-i-test.false) }
