-- `weight::key_weight` meets its contract: 1 shifted by 31 - i is 2^(31 - i), and the sum has 34 bits. Assumes nothing.
use native.Mathlib.Omega.{arith}
use Rattle.filling.proofs.WeightLaws.{key_weight-most}
use Rattle.weight.specs.WordWeightLaws.{key_weight-shifted}
use Rattle.weight.proofs.key_weight.Goals as goal

pub overflow_add-result : goal.overflow_add-result
overflow_add-result c = record { fits = omega (arith, key_weight-shifted c.args.i, key_weight-most c.args.i) }

pub returns : goal.returns
returns c = record { answer = key_weight-shifted c.args.i }
