-- `hash::wrapping_multiply` meets its contract: the product of two 32-bit numbers fits 64 bits, and the remainder fits 32.
-- Assumes nothing.
use borrow.Author.Rules.{rules}
use Rattle.hash.specs.Formula.{product}
use Rattle.hash.proofs.FormulaLaws.{product-fits}
use Rattle.hash.proofs.wrapping_multiply.Goals as goal

pub overflow_mul-result : goal.overflow_mul-result
overflow_mul-result c = record { fits = product-fits 32 (search rules) (search rules) }

pub returns : goal.returns
unfolding product
returns c = record { answer = search rules }
