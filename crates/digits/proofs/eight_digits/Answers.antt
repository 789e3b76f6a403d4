-- `digits::eight_digits` meets its contract: the tens of all pairs, and what they leave of the pairs, are the digits.
-- Assumes nothing.
use borrow.Author.Rules.{rules}
use Rattle.digits.proofs.Tens.{computed}
use Rattle.digits.proofs.eight_digits.Goals as goal

pub overflow_mul-result : goal.overflow_mul-result
overflow_mul-result c = let k = computed c.args.n c.requires in search (rules, k.below)

pub overflow_add-result : goal.overflow_add-result
overflow_add-result c = let k = computed c.args.n c.requires in search (rules, k.below)

pub overflow_mul-result-2 : goal.overflow_mul-result-2
overflow_mul-result-2 c = let k = computed c.args.n c.requires in search (rules, k.below, k.left)

pub overflow_sub-result : goal.overflow_sub-result
overflow_sub-result c = let k = computed c.args.n c.requires in search (rules, k.left)

pub returns : goal.returns
returns c = record { answer = (computed c.args.n c.requires).packs }
