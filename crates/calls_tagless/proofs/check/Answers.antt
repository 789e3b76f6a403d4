-- `calls_tagless::check` meets its contract: the answer is the outcome's, and a refusal's place is a line or a group.
-- Assumes nothing.
use mathlib.Core.Path.{sym, ◌∙◌, ap}
use native.Mathlib.Omega.{arith}
use Rattle.checking.specs.Answer.{check_outcome}
use Rattle.refusal.proofs.PlaceLaws.{place-below}
use Rattle.answer64.specs.Answer64.{answer64}
use Rattle.opening.specs.PlaceLaws.{image_lines}
use Rattle.calls_tagless.specs.Tagless.{tagless_check_answer}
use Rattle.calls_tagless.specs.TaglessLaws.{tagless-check-place}
use Rattle.calls_tagless.proofs.check.Goals as goal

pub refusal_answer-requires : goal.refusal_answer-requires
refusal_answer-requires c =
    let a = c.args in
    let refused = sym c.tagless_check.ensures.answer ∙ ap check_outcome c.in-Err.is in
    omega (arith, place-below image_lines (tagless-check-place a.image.now) refused)

pub returns-in-Ok : goal.returns-in-Ok
unfolding tagless_check_answer answer64
returns-in-Ok c = record { answer = ap answer64 (sym (ap check_outcome c.in-Ok.is) ∙ c.tagless_check.ensures.answer) }

pub returns-in-Err : goal.returns-in-Err
unfolding tagless_check_answer
returns-in-Err c = record {
  answer = c.refusal_answer.ensures.answer
      ∙ ap answer64 (sym (ap check_outcome c.in-Err.is) ∙ c.tagless_check.ensures.answer);
}
