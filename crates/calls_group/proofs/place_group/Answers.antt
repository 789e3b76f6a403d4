-- `calls_group::place_group` meets its contract: the answer and the cell are the outcome's, and a refusal's place is an index.
-- Assumes nothing.
use mathlib.Core.Path.{sym, ◌∙◌, ap}
use native.Mathlib.Omega.{arith}
use Rattle.std.specs.Prelude.{Result}
use Rattle.refusal.specs.Limits.{group_max}
use Rattle.refusal.specs.declared.Refusal.{Refusal}
use Rattle.refusal.specs.Outcome.{answered_by}
use Rattle.refusal.proofs.PlaceLaws.{place-below}
use Rattle.placing.specs.Answer.{placing_outcome}
use Rattle.placing.specs.declared.Placed.{Placed}
use Rattle.answer64.specs.Answer64.{answer64}
use Rattle.calls_group.specs.Place.{cell_with}
use Rattle.calls_group.proofs.PlaceLaws.{placing-place, seed_answered, placed-promised}
use Rattle.calls_group.proofs.place_group.Goals as goal

pub refusal_answer-requires : goal.refusal_answer-requires
refusal_answer-requires c =
    let a = c.args in
    let refused = sym c.place_group.ensures.answer ∙ ap placing_outcome c.in-Err.is in
    omega (arith, place-below group_max (placing-place a.tags.now a.limit) refused)

pub returns-in-Ok : goal.returns-in-Ok
unfolding answer64 answered_by cell_with
returns-in-Ok c =
    let before = c.args.word.now in
    let promised =
    placed-promised _ _ _ _ _ _ c.place_group.ensures.answer
    (ap (λ (x : Result Placed Refusal). answer64 (seed_answered (placing_outcome x))) (sym c.in-Ok.is))
    (ap (λ (x : Result Placed Refusal). cell_with (placing_outcome x) before) (sym c.in-Ok.is)) in
    record { answer = promised.0; cell = promised.1.0; condition3 = promised.1.1 }

pub returns-in-Err : goal.returns-in-Err
unfolding answer64 answered_by cell_with
returns-in-Err c =
    let before = c.args.word.now in
    let promised =
    placed-promised _ _ _ _ _ _ c.place_group.ensures.answer
    (c.refusal_answer.ensures.answer ∙ ap (λ (x : Result Placed Refusal). answer64 (seed_answered (placing_outcome x))) (sym c.in-Err.is))
    (ap (λ (x : Result Placed Refusal). cell_with (placing_outcome x) before) (sym c.in-Err.is)) in
    record { answer = promised.0; cell = promised.1.0; condition3 = promised.1.1 }
