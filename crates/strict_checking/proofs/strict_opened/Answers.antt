-- `strict_checking::strict_opened` meets its contract: checking's refusal comes first, and behind it the lowest group that differs decides,
-- by the numbers in the cells. Assumes nothing.
use mathlib.Core.Path.{◌≡◌, refl, sym, ◌∙◌, ap}
use Rattle.refusal.specs.Outcome.{answered}
use Rattle.refusal.specs.Reason.{refusal_of}
use Rattle.refusal.proofs.AnswerLaws.{passed_up}
use Rattle.image.specs.Checking.{checking_of}
use Rattle.checking.specs.Answer.{check_outcome}
use Rattle.strict.proofs.StrictTheorem.{refused-first}
use Rattle.strict_checking.specs.GroupsLaws.{all-servable, decided-at, decided-nowhere}
use Rattle.strict_checking.proofs.strict_opened.Goals as goal
use Rattle.strict_checking.proofs.strict_opened.Goals.{In_ok-check_opened}

pub check_opened-requires : goal.check_opened-requires
check_opened-requires c = record { image_value = c.requires; starts_len = (refl, refl, refl) }

-- Where checking accepted; the cells then hold the numbers that the image states.
accepted : (c : In_ok-check_opened) → checking_of c.args.opened.now ≡ answered 0
accepted c = sym c.in_ok-check_opened.ensures.answer

pub slice_bounds-first_not_as_built-end : goal.slice_bounds-first_not_as_built-end
slice_bounds-first_not_as_built-end c =
    let stated = c.in_ok-check_opened.ensures.cells refl in
    sym stated.tags-long

pub first_not_as_built-requires : goal.first_not_as_built-requires
first_not_as_built-requires c =
    let stated = c.in_ok-check_opened.ensures.cells refl in
    all-servable c.args.opened.now (accepted (goal.at.first_not_as_built-requires c).In_ok-check_opened) stated

pub returns-in-Some : goal.returns-in-Some
returns-in-Some c =
    let stated = c.in_ok-check_opened.ensures.cells refl in
    let found = sym c.first_not_as_built.ensures.answer ∙ c.in-Some.is in
    record {
      answer = ap refusal_of c.at.ensures.answer ∙ decided-at c.args.opened.now
          (accepted (goal.at.returns-in-Some c).In_ok-check_opened) stated found;
    }

pub returns-in-None : goal.returns-in-None
returns-in-None c =
    let stated = c.in_ok-check_opened.ensures.cells refl in
    let found = sym c.first_not_as_built.ensures.answer ∙ c.in-None.is in
    record {
      answer = decided-nowhere c.args.opened.now (accepted (goal.at.returns-in-None c).In_ok-check_opened) stated found;
    }

pub returns-in_err-check_opened : goal.returns-in_err-check_opened
returns-in_err-check_opened c =
    let refused = sym (refused-first c.args.opened.now _ _ (sym c.in_err-check_opened.ensures.answer)) in
    record { answer = ap check_outcome (passed_up _ c.from_residual.result c.from_residual.ensures) ∙ refused }
