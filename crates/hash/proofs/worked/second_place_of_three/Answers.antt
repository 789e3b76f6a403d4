-- `hash::worked::second_place_of_three` meets its contract: by the promise of `place_of_one_tag` the answer is what the formula
-- computes to. Assumes nothing.
use mathlib.Core.Path.{◌≡◌, refl}
use Rattle.refusal.specs.Limits.{outside}
use Rattle.refusal.specs.Outcome.{answered}
use Rattle.lists.specs.First.{met_at}
use Rattle.refusal.specs.Checks.{met, in_order}
use Rattle.hash.specs.Formula.{product, high_part, hashed, multiplier, place_of}
use Rattle.hash.specs.OneTag.{one_tag_checks, place_of_one_tag}
use Rattle.hash.proofs.worked.second_place_of_three.Goals as goal

computed : place_of_one_tag 2 1 1 3 ≡ answered 1
unfolding place_of_one_tag one_tag_checks in_order met met_at outside place_of multiplier hashed high_part product
computed = refl

pub returns-in-Ok : goal.returns-in-Ok
returns-in-Ok c =
    let promised = rw c.in-Ok.is at c.place_of_one_tag.ensures.answer in
    record { answer = cc computed }

pub returns-in-Err : goal.returns-in-Err
returns-in-Err c =
    let promised = rw c.in-Err.is at c.place_of_one_tag.ensures.answer in
    record { answer = cc computed }
