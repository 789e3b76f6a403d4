-- `calls_tagless::build` meets its contract: the answer is the outcome's, and a refusal's place is a line, an index or a group.
-- Assumes nothing.
use mathlib.Core.Path.{◌≡◌, sym, ◌∙◌, ap}
use mathlib.Core.List.{List}
use Prim.Native.Nat.{ℕ}
use native.Mathlib.Omega.{arith}
use lib.ListN.{length}
use Rattle.std.specs.Prelude.{Result}
use Rattle.refusal.specs.Outcome.{Outcome}
use Rattle.refusal.specs.Answer.{outcome}
use Rattle.refusal.specs.declared.Refusal.{Refusal}
use Rattle.tagless.specs.FromText.{tagless_buffer_from_text}
use Rattle.tagless_from_text.specs.Condition.{TextTaglessCondition}
use Rattle.tagless_from_text.specs.PromiseLaws.{TextPromised}
use Rattle.refusal.proofs.PlaceLaws.{place-below}
use Rattle.from_text.specs.PlaceLaws.{text_lines}
use Rattle.tagless_from_text.specs.PlaceLaws.{tagless-text-place}
use Rattle.answer64.specs.Answer64.{answer64}
use Rattle.answer64.proofs.Answer64Laws.{promised64}
use Rattle.calls_tagless.specs.Tagless.{tagless_build_answer, TaglessBuildCondition}
use Rattle.calls_tagless.specs.TaglessLaws.{tagless-build-fits}
use Rattle.calls_tagless.proofs.build.Goals as goal

pub refusal_answer-requires : goal.refusal_answer-requires
refusal_answer-requires c =
    let a = c.args in
    let refused = sym c.build_from_text.ensures.answer ∙ ap outcome c.in-Err.is in
    omega (arith, place-below text_lines (tagless-text-place a.text.now _) refused)

-- The answer, the bytes, and the condition of the answer.
promised : (text before after : List ℕ) (r : ℕ) (outcome : Outcome ℕ) → TextPromised text before outcome after → r ≡ answer64 outcome
    → (r ≡ tagless_build_answer text (length before))
    × ((after ≡ tagless_buffer_from_text text before) × TaglessBuildCondition text before r after)
unfolding tagless_build_answer
promised text before after r outcome (told, (bytes, condition)) answer =
    let (is, of-answer) =
    promised64 _ (tagless-build-fits text (length before)) (λ o. TextTaglessCondition text (length before) o after) told answer condition in
    (is, (bytes, of-answer))

pub returns-in-Ok : goal.returns-in-Ok
unfolding answer64
returns-in-Ok c =
    let a = c.args in
    let built = c.build_from_text.ensures in
    let is = ap (λ (x : Result ℕ Refusal). answer64 (outcome x)) (sym c.in-Ok.is) in
    let p = promised a.text.now a.image.now _ _ _ (built.answer, (built.bytes, built.condition)) is in
    record { answer = p.0; bytes = p.1.0; condition = p.1.1 }

pub returns-in-Err : goal.returns-in-Err
returns-in-Err c =
    let a = c.args in
    let built = c.build_from_text.ensures in
    let is = c.refusal_answer.ensures.answer ∙ ap (λ (x : Result ℕ Refusal). answer64 (outcome x)) (sym c.in-Err.is) in
    let p = promised a.text.now a.image.now _ _ _ (built.answer, (built.bytes, built.condition)) is in
    record { answer = p.0; bytes = p.1.0; condition = p.1.1 }
