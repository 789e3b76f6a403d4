-- `digits::width_of` meets its contract: the range of each width begins with a power of ten and ends one below the next. Assumes
-- nothing.
use native.Mathlib.Omega.{arith}
use Rattle.digits.proofs.WidthLaws.{width-case}
use Rattle.digits.proofs.width_of.Goals as goal

pub returns-in-0-to-9 : goal.returns-in-0-to-9
returns-in-0-to-9 c = record { answer = omega (arith, width-case c.args.n 0 (λ h. omega arith) (omega arith)) }

pub returns-in-10-to-99 : goal.returns-in-10-to-99
returns-in-10-to-99 c = record { answer = omega (arith, width-case c.args.n 1 (λ h. omega arith) (omega arith)) }

pub returns-in-100-to-999 : goal.returns-in-100-to-999
returns-in-100-to-999 c = record { answer = omega (arith, width-case c.args.n 2 (λ h. omega arith) (omega arith)) }

pub returns-in-1000-to-9999 : goal.returns-in-1000-to-9999
returns-in-1000-to-9999 c = record { answer = omega (arith, width-case c.args.n 3 (λ h. omega arith) (omega arith)) }

pub returns-in-10000-to-99999 : goal.returns-in-10000-to-99999
returns-in-10000-to-99999 c = record { answer = omega (arith, width-case c.args.n 4 (λ h. omega arith) (omega arith)) }

pub returns-in-100000-to-999999 : goal.returns-in-100000-to-999999
returns-in-100000-to-999999 c = record { answer = omega (arith, width-case c.args.n 5 (λ h. omega arith) (omega arith)) }

pub returns-in-1000000-to-9999999 : goal.returns-in-1000000-to-9999999
returns-in-1000000-to-9999999 c = record { answer = omega (arith, width-case c.args.n 6 (λ h. omega arith) (omega arith)) }

pub returns-in-10000000-to-99999999 : goal.returns-in-10000000-to-99999999
returns-in-10000000-to-99999999 c = record { answer = omega (arith, width-case c.args.n 7 (λ h. omega arith) (omega arith)) }

pub returns-in-100000000-to-999999999 : goal.returns-in-100000000-to-999999999
returns-in-100000000-to-999999999 c = record { answer = omega (arith, width-case c.args.n 8 (λ h. omega arith) (omega arith)) }

pub returns-in-1000000000-to-4294967295 : goal.returns-in-1000000000-to-4294967295
returns-in-1000000000-to-4294967295 c = record { answer = omega (arith, width-case c.args.n 9 (λ h. omega arith) (omega arith)) }
