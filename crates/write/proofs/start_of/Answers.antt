-- `write::start_of` meets its contract: the first group begins at 0. Assumes nothing.
use native.Mathlib.Omega.{arith}
use Prim.Native.Nat.{◌-◌}
use Rattle.write.specs.StatedLaws.{start_first, start-later}
use Rattle.write.proofs.start_of.Goals as goal

pub returns-then-g-eq0 : goal.returns-then-g-eq0
returns-then-g-eq0 c = record { answer = start_first _ c.if-g-eq0.true }

pub overflow_cast-result : goal.overflow_cast-result
overflow_cast-result c =
    record { fits = omega (arith, c.requires.1 (c.args.g - 1) (omega arith)) }

pub returns : goal.returns
returns c = record { answer = start-later c.args.ends.now c.args.g c.if-g-eq0.false }
