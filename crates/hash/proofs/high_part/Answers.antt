-- `hash::high_part` meets its contract: the product of two 32-bit numbers fits 64 bits, so that its high part fits 32.
-- Assumes nothing.
use borrow.Author.Rules.{rules}
use native.Mathlib.Omega.{arith}
use Rattle.hash.specs.Formula.{high_part}
use Rattle.hash.proofs.FormulaLaws.{product-fits}
use Rattle.hash.proofs.high_part.Goals as goal

pub overflow_mul-result : goal.overflow_mul-result
overflow_mul-result c = record { fits = product-fits 32 (search rules) (search rules) }

pub overflow_cast-result-3 : goal.overflow_cast-result-3
overflow_cast-result-3 c = omega (arith, product-fits 32 {a = c.args.h} {b = c.args.n} (search rules) (search rules))

pub returns : goal.returns
unfolding high_part
returns c = record { answer = search rules }
