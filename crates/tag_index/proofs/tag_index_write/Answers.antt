-- `tag_index::tag_index_write` meets its contract: the answer is the outcome's, and a refusal's place is a line, an index or a group.
-- Assumes nothing.
use mathlib.Core.Path.{◌≡◌, sym, ◌∙◌, ap}
use mathlib.Core.List.{List}
use Prim.Native.Nat.{ℕ}
use native.Mathlib.Omega.{arith}
use lib.ListN.{length}
use Rattle.std.specs.Prelude.{Result}
use Rattle.refusal.specs.Outcome.{Outcome}
use Rattle.refusal.proofs.PlaceLaws.{place-below}
use Rattle.refusal.specs.Answer.{outcome}
use Rattle.refusal.specs.declared.Refusal.{Refusal}
use Rattle.numbering.specs.FromText.{written_from_text}
use Rattle.from_text.specs.Condition3.{TextWritingCondition3}
use Rattle.from_text.specs.PromiseLaws.{WritePromised}
use Rattle.from_text.specs.PlaceLaws.{text_lines, write-text-place}
use Rattle.answer64.specs.Answer64.{answer64}
use Rattle.answer64.proofs.Answer64Laws.{promised64}
use Rattle.tag_index.specs.Calls.{write_answer}
use Rattle.tag_index.specs.CallsLaws.{write-fits}
use Rattle.tag_index.specs.Condition3.{WriteCondition3}
use Rattle.tag_index.proofs.tag_index_write.Goals as goal

pub refusal_answer-requires : goal.refusal_answer-requires
refusal_answer-requires c =
    let a = c.args in
    let refused = sym c.write_from_text.ensures.answer ∙ ap outcome c.in-Err.is in
    omega (arith, place-below text_lines (write-text-place a.text.now a.plan.now _) refused)

-- The answer, the bytes, and writing's part of Condition 3.
promised : (text plan before after : List ℕ) (r : ℕ) (outcome : Outcome ℕ) → WritePromised text before plan outcome after
    → r ≡ answer64 outcome
    → (r ≡ write_answer text plan (length before))
    × ((after ≡ written_from_text text plan before) × WriteCondition3 text plan r after)
unfolding write_answer
promised text plan before after r outcome (told, (bytes, condition3)) answer =
    let (is, of-answer) =
    promised64 _ (write-fits text plan (length before)) (λ o. TextWritingCondition3 text plan o after) told answer condition3 in
    (is, (bytes, of-answer))

pub returns-in-Ok : goal.returns-in-Ok
unfolding answer64
returns-in-Ok c =
    let a = c.args in
    let written = c.write_from_text.ensures in
    let is = ap (λ (x : Result ℕ Refusal). answer64 (outcome x)) (sym c.in-Ok.is) in
    let p = promised a.text.now a.plan.now a.image.now _ _ _ (written.answer, (written.bytes, written.condition3)) is in
    record { answer = p.0; bytes = p.1.0; condition3 = p.1.1 }

pub returns-in-Err : goal.returns-in-Err
returns-in-Err c =
    let a = c.args in
    let written = c.write_from_text.ensures in
    let is = c.refusal_answer.ensures.answer ∙ ap (λ (x : Result ℕ Refusal). answer64 (outcome x)) (sym c.in-Err.is) in
    let p = promised a.text.now a.plan.now a.image.now _ _ _ (written.answer, (written.bytes, written.condition3)) is in
    record { answer = p.0; bytes = p.1.0; condition3 = p.1.1 }
