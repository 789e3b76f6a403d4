-- `calls_group::count_parts` meets its contract: the answer is the outcome's, and a refusal's place is an index. Assumes nothing.
use mathlib.Core.Path.{sym, ◌∙◌, ap}
use native.Mathlib.Omega.{arith}
use Rattle.std.specs.Prelude.{Result}
use Rattle.refusal.specs.Limits.{group_max}
use Rattle.refusal.specs.declared.Refusal.{Refusal}
use Rattle.refusal.specs.Outcome.{answered_by}
use Rattle.refusal.proofs.PlaceLaws.{place-below}
use Rattle.graph.specs.HowMany.{one}
use Rattle.parts.specs.Answer.{parts_outcome}
use Rattle.parts.specs.declared.Parts.{Parts}
use Rattle.answer64.specs.Answer64.{answer64}
use Rattle.calls_group.specs.Parts.{parts_number}
use Rattle.calls_group.proofs.PartsLaws.{parts-place, parts-promised}
use Rattle.calls_group.proofs.count_parts.Goals as goal

pub refusal_answer-requires : goal.refusal_answer-requires
refusal_answer-requires c =
    let a = c.args in
    let refused = sym c.count_parts.ensures.answer ∙ ap parts_outcome c.in-Err.is in
    omega (arith, place-below group_max (parts-place a.tags.now a.seed) refused)

pub returns-in-Ok : goal.returns-in-Ok
unfolding answer64 answered_by parts_number one
returns-in-Ok c =
    let promised =
    parts-promised _ _ _ _ c.count_parts.ensures.answer
    (ap (λ (x : Result Parts Refusal). answer64 (answered_by parts_number (parts_outcome x))) (sym c.in-Ok.is)) in
    record { answer = promised.0; condition = promised.1 }

pub returns-in-Err : goal.returns-in-Err
unfolding answer64 answered_by
returns-in-Err c =
    let promised =
    parts-promised _ _ _ _ c.count_parts.ensures.answer
    (c.refusal_answer.ensures.answer
    ∙ ap (λ (x : Result Parts Refusal). answer64 (answered_by parts_number (parts_outcome x))) (sym c.in-Err.is)) in
    record { answer = promised.0; condition = promised.1 }
