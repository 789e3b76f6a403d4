-- `calls_strict::strict_check` meets its contract: the answer is the outcome's, and a refusal's place is a line, a group or a slot.
-- Assumes nothing.
use mathlib.Core.Path.{sym, ◌∙◌, ap}
use native.Mathlib.Omega.{arith}
use Rattle.checking.specs.Answer.{check_outcome}
use Rattle.refusal.proofs.PlaceLaws.{place-below}
use Rattle.strict.specs.StrictCheck.{strict_check_of}
use Rattle.strict_condition.specs.Condition.{StrictCondition}
use Rattle.answer64.specs.Answer64.{answer64}
use Rattle.answer64.proofs.Answer64Laws.{promised64}
use Rattle.opening.specs.PlaceLaws.{image_lines}
use Rattle.calls_strict.specs.Strict.{strict_check_answer}
use Rattle.calls_strict.specs.StrictLaws.{strict_place, strict-fits}
use Rattle.calls_strict.proofs.strict_check.Goals as goal

pub refusal_answer-requires : goal.refusal_answer-requires
refusal_answer-requires c =
    let a = c.args in
    let refused = sym c.strict_check.ensures.answer ∙ ap check_outcome c.in-Err.is in
    omega (arith, place-below image_lines (strict_place a.image.now) refused)

pub returns-in-Ok : goal.returns-in-Ok
unfolding strict_check_answer answer64
returns-in-Ok c =
    let image = c.args.image.now in
    let (answer, condition) = promised64 (strict_check_of image) (strict-fits image) (StrictCondition image)
    c.strict_check.ensures.answer (sym (ap (λ o. answer64 (check_outcome o)) c.in-Ok.is))
    c.strict_check.ensures.condition in
    record { answer = answer; condition = condition }

pub returns-in-Err : goal.returns-in-Err
unfolding strict_check_answer
returns-in-Err c =
    let image = c.args.image.now in
    let (answer, condition) = promised64 (strict_check_of image) (strict-fits image) (StrictCondition image)
    c.strict_check.ensures.answer
    (c.refusal_answer.ensures.answer ∙ sym (ap (λ o. answer64 (check_outcome o)) c.in-Err.is))
    c.strict_check.ensures.condition in
    record { answer = answer; condition = condition }
