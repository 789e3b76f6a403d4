-- `checking::unwired_slot` meets its contract: the first of the slots' cells that holds 0 is the lowest slot that does. Assumes nothing.
use Rattle.std.proofs.Common.{◌==◌, take, refl, ◌∙◌, arith, rules, tests}
use Rattle.std.proofs.lemmas.Iterator.{YieldsList-from_slice}
use Rattle.std.proofs.lemmas.Iterator.Search.{position_from_yields_List}
use Rattle.lists.proofs.PositionLaws.{position-first-taken}
use Rattle.refusal.specs.Limits.{unwired}
use Rattle.checking.specs.Steps.{unwired_at}
use Rattle.checking.proofs.unwired_slot.Goals as goal

pub returns : goal.returns
returns c =
    let tags = c.args.tags.now in
    let slots = YieldsList-from_slice (take c.args.count tags) c.iter.ensures.rest in
    let found = position_from_yields_List (λ t. t == unwired) _ _ c.position.result c.position.ensures.ran slots
    (λ x b q k. search (rules, tests)) in
    record { answer = found ∙ position-first-taken _ (unwired_at tags) tags c.args.count 0 (omega arith) (λ k lt. refl) }
