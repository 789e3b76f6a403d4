-- `tag_index::tag_index_plan` meets its contract: the answer is the outcome's, and a refusal's place is a line, an index or a group.
-- Assumes nothing.
use mathlib.Core.Path.{◌≡◌, sym, ◌∙◌, ap}
use mathlib.Core.List.{List}
use Prim.Native.Nat.{ℕ}
use native.Mathlib.Omega.{arith}
use Rattle.std.specs.Prelude.{Result}
use Rattle.refusal.specs.Outcome.{Outcome}
use Rattle.refusal.proofs.PlaceLaws.{place-below}
use Rattle.refusal.specs.Answer.{outcome}
use Rattle.refusal.specs.declared.Refusal.{Refusal}
use Rattle.numbering.specs.FromText.{plan_from_text}
use Rattle.from_text.specs.Condition3.{TextPlanningCondition3}
use Rattle.from_text.specs.PromiseLaws.{PlanPromised}
use Rattle.from_text.specs.PlaceLaws.{text_lines, plan-text-place}
use Rattle.answer64.specs.Answer64.{answer64}
use Rattle.answer64.proofs.Answer64Laws.{promised64}
use Rattle.tag_index.specs.Calls.{plan_answer}
use Rattle.tag_index.specs.CallsLaws.{plan-fits}
use Rattle.tag_index.specs.Condition3.{PlanCondition3}
use Rattle.tag_index.proofs.tag_index_plan.Goals as goal

pub refusal_answer-requires : goal.refusal_answer-requires
refusal_answer-requires c =
    let a = c.args in
    let refused = sym c.plan_from_text.ensures.answer ∙ ap outcome c.in-Err.is in
    omega (arith, place-below text_lines (plan-text-place a.text.now) refused)

-- The answer, the plan, and planning's part of Condition 3.
promised : (text plan : List ℕ) (r : ℕ) (outcome : Outcome ℕ) → PlanPromised text outcome plan → r ≡ answer64 outcome
    → (r ≡ plan_answer text) × ((plan ≡ plan_from_text text) × PlanCondition3 text r plan)
unfolding plan_answer
promised text plan r outcome (told, (left, condition3)) answer =
    let (is, of-answer) = promised64 _ (plan-fits text) (λ o. TextPlanningCondition3 text o plan) told answer condition3 in
    (is, (left, of-answer))

pub returns-in-Ok : goal.returns-in-Ok
unfolding answer64
returns-in-Ok c =
    let a = c.args in
    let planned = c.plan_from_text.ensures in
    let is = ap (λ (x : Result ℕ Refusal). answer64 (outcome x)) (sym c.in-Ok.is) in
    let p = promised a.text.now _ _ _ (planned.answer, (planned.plan, planned.condition3)) is in
    record { answer = p.0; plan = p.1.0; condition3 = p.1.1 }

pub returns-in-Err : goal.returns-in-Err
returns-in-Err c =
    let a = c.args in
    let planned = c.plan_from_text.ensures in
    let is = c.refusal_answer.ensures.answer ∙ ap (λ (x : Result ℕ Refusal). answer64 (outcome x)) (sym c.in-Err.is) in
    let p = promised a.text.now _ _ _ (planned.answer, (planned.plan, planned.condition3)) is in
    record { answer = p.0; plan = p.1.0; condition3 = p.1.1 }
