-- `tag_index::tag_index_check` meets its contract: the answer is the outcome's, and a refusal's place is a line, a group or a slot.
-- Assumes nothing.
use mathlib.Core.Path.{sym, ◌∙◌, ap}
use native.Mathlib.Omega.{arith}
use Rattle.checking.specs.Answer.{check_outcome}
use Rattle.refusal.proofs.PlaceLaws.{place-below}
use Rattle.answer64.specs.Answer64.{answer64}
use Rattle.tag_index.specs.Calls.{check_answer}
use Rattle.opening.specs.PlaceLaws.{image_lines, checking-place}
use Rattle.tag_index.proofs.tag_index_check.Goals as goal

pub refusal_answer-requires : goal.refusal_answer-requires
refusal_answer-requires c =
    let a = c.args in
    let refused = sym c.check_image.ensures.answer ∙ ap check_outcome c.in-Err.is in
    omega (arith, place-below image_lines (checking-place a.image.now) refused)

pub returns-in-Ok : goal.returns-in-Ok
unfolding check_answer answer64
returns-in-Ok c = record { answer = ap answer64 (sym (ap check_outcome c.in-Ok.is) ∙ c.check_image.ensures.answer) }

pub returns-in-Err : goal.returns-in-Err
unfolding check_answer
returns-in-Err c =
    let is = sym (ap check_outcome c.in-Err.is) ∙ c.check_image.ensures.answer in
    record { answer = c.refusal_answer.ensures.answer ∙ ap answer64 is }
