-- `tagless_checking::tagless_check` meets its contract: an image that does not open is refused so, and in one that does the lines and the
-- groups decide. Assumes nothing.
use mathlib.Core.Path.{sym, ◌∙◌, ap}
use Rattle.refusal.proofs.AnswerLaws.{passed_up}
use Rattle.checking.specs.Answer.{check_outcome}
use Rattle.tagless_checking.specs.StepsLaws.{check-unopened}
use Rattle.tagless_checking.proofs.tagless_check.Goals as goal

pub check_opened-requires : goal.check_opened-requires
check_opened-requires c = sym c.in_ok-count.ensures.answer

pub returns-in_err-count : goal.returns-in_err-count
returns-in_err-count c =
    record {
      answer = ap check_outcome (passed_up _ c.from_residual.result c.from_residual.ensures)
          ∙ sym (check-unopened c.args.image.now (sym c.in_err-count.ensures.answer));
    }
