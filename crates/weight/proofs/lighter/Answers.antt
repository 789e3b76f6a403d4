-- `weight::lighter` meets its contract: the words' weights are what `weight_of` answers. Assumes nothing.
use native.Mathlib.Omega.{arith}
use borrow.Author.Tests.{lt-ltb, le-ltb}
use Rattle.weight.specs.WordWeight.{word_weight, lighter_of}
use Rattle.weight.proofs.lighter.Goals as goal

pub returns-then-weight_of : goal.returns-then-weight_of
unfolding lighter_of
returns-then-weight_of c =
    let a = c.args in
    record { answer = rw (lt-ltb (word_weight a.count a.b) (word_weight a.count a.a) (omega arith)) }

pub returns-else-weight_of : goal.returns-else-weight_of
unfolding lighter_of
returns-else-weight_of c =
    let a = c.args in
    record { answer = rw (le-ltb (word_weight a.count a.b) (word_weight a.count a.a) (omega arith)) }
