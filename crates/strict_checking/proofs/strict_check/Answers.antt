-- `strict_checking::strict_check` meets its contract: an image that does not open is refused so by checking too, and in one that does the
-- rest of checking and the groups decide. Assumes nothing.
use Rattle.std.proofs.Common.{sym, ◌∙◌, ap}
use Rattle.refusal.proofs.AnswerLaws.{passed_up}
use Rattle.checking.specs.Answer.{check_outcome}
use Rattle.checking.specs.StepsLaws.{check-unopened}
use Rattle.strict.proofs.StrictTheorem.{refused-first}
use Rattle.strict_checking.specs.GroupsLaws.{owed}
use Rattle.strict_checking.proofs.strict_check.Goals as goal

pub strict_opened-requires : goal.strict_opened-requires
strict_opened-requires c = sym c.in_ok-count.ensures.answer

-- The answer is the definition's, and what is owed of the definition is owed of it.
pub returns : goal.returns
returns c =
    let image = c.args.image.now in
    let answer = c.strict_opened.ensures.answer in
    record { answer = answer; condition = owed image answer }

pub returns-in_err-count : goal.returns-in_err-count
returns-in_err-count c =
    let image = c.args.image.now in
    let refused = sym (refused-first image _ _ (check-unopened image (sym c.in_err-count.ensures.answer))) in
    let answer = ap check_outcome (passed_up _ c.from_residual.result c.from_residual.ensures) ∙ refused in
    record { answer = answer; condition = owed image answer }
