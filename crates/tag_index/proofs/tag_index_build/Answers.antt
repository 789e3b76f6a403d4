-- `tag_index::tag_index_build` meets its contract: the answer is the outcome's, and a refusal's place is a line, an index or a group.
-- Assumes nothing.
use mathlib.Core.Path.{◌≡◌, sym, ◌∙◌, ap}
use mathlib.Core.List.{List}
use Prim.Native.Nat.{ℕ}
use native.Mathlib.Omega.{arith}
use lib.ListN.{length}
use Rattle.std.specs.Prelude.{Result}
use Rattle.refusal.specs.Outcome.{Outcome}
use Rattle.refusal.specs.Answer.{outcome}
use Rattle.refusal.specs.declared.Refusal.{Refusal}
use Rattle.numbering.specs.FromText.{buffer_from_text}
use Rattle.from_text.specs.Condition3.{TextCondition3}
use Rattle.from_text.specs.PromiseLaws.{TextPromised}
use Rattle.refusal.proofs.PlaceLaws.{place-below}
use Rattle.from_text.specs.PlaceLaws.{text_lines, from-text-place}
use Rattle.answer64.specs.Answer64.{answer64}
use Rattle.answer64.proofs.Answer64Laws.{promised64}
use Rattle.tag_index.specs.Calls.{build_answer}
use Rattle.tag_index.specs.CallsLaws.{build-fits}
use Rattle.tag_index.specs.Condition3.{BuildCondition3}
use Rattle.tag_index.proofs.tag_index_build.Goals as goal

pub refusal_answer-requires : goal.refusal_answer-requires
refusal_answer-requires c =
    let a = c.args in
    let refused = sym c.build_from_text.ensures.answer ∙ ap outcome c.in-Err.is in
    omega (arith, place-below text_lines (from-text-place a.text.now _) refused)

-- The answer, the bytes, and Condition 3 of the answer.
promised : (text before after : List ℕ) (r : ℕ) (outcome : Outcome ℕ) → TextPromised text before outcome after → r ≡ answer64 outcome
    → (r ≡ build_answer text (length before)) × ((after ≡ buffer_from_text text before) × BuildCondition3 text before r after)
unfolding build_answer
promised text before after r outcome (told, (bytes, condition3)) answer =
    let (is, of-answer) =
    promised64 _ (build-fits text (length before)) (λ o. TextCondition3 text (length before) o after) told answer condition3 in
    (is, (bytes, of-answer))

pub returns-in-Ok : goal.returns-in-Ok
unfolding answer64
returns-in-Ok c =
    let a = c.args in
    let built = c.build_from_text.ensures in
    let is = ap (λ (x : Result ℕ Refusal). answer64 (outcome x)) (sym c.in-Ok.is) in
    let p = promised a.text.now a.image.now _ _ _ (built.answer, (built.bytes, built.condition3)) is in
    record { answer = p.0; bytes = p.1.0; condition3 = p.1.1 }

pub returns-in-Err : goal.returns-in-Err
returns-in-Err c =
    let a = c.args in
    let built = c.build_from_text.ensures in
    let is = c.refusal_answer.ensures.answer ∙ ap (λ (x : Result ℕ Refusal). answer64 (outcome x)) (sym c.in-Err.is) in
    let p = promised a.text.now a.image.now _ _ _ (built.answer, (built.bytes, built.condition3)) is in
    record { answer = p.0; bytes = p.1.0; condition3 = p.1.1 }
