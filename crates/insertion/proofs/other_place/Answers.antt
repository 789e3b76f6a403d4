-- `insertion::other_place` meets its contract: the two entries read are the key's two places. Assumes nothing.
use mathlib.Core.Path.{refl}
use mathlib.Core.Bool.{true, false}
use native.Mathlib.Omega.{arith}
use Rattle.places.specs.Array.{entry_of}
use Rattle.insertion.proofs.other_place.Goals as goal

pub overflow_add-result-2 : goal.overflow_add-result-2
unfolding entry_of
overflow_add-result-2 c =
    let below = c.requires.i_lt_group_max.1.below c.args.i (omega arith) in
    record { fits = omega (arith, below false, below true) }

pub overflow_sub-result : goal.overflow_sub-result
unfolding entry_of
overflow_sub-result c = omega (arith, c.requires.place_bound)

pub returns : goal.returns
unfolding entry_of
returns c = record { answer = refl }
