-- `strict_checking::worked::is_ours` meets its contract, from the condition that `strict_check` promises. Assumes nothing.
use mathlib.Core.Path.{refl, sym, ap}
use mathlib.Core.Bool.{true≢false}
use Rattle.checking.specs.Answer.{check_outcome}
use Rattle.checking.specs.StepsLaws.{not-both}
use Rattle.strict_checking.proofs.worked.is_ours.Goals as goal

pub returns-in-Ok : goal.returns-in-Ok
returns-in-Ok c =
    let condition = c.strict_check.ensures.condition in
    record { answer = (λ _. condition.ours.0 (ap check_outcome c.in-Ok.is), λ _. refl) }

pub returns-in-Err : goal.returns-in-Err
returns-in-Err c =
    let condition = c.strict_check.ensures.condition in
    let refused = ap check_outcome c.in-Err.is in
    record { answer = (λ e. absurd (true≢false (sym e)), λ ours. absurd (not-both refused (condition.ours.1 ours))) }
