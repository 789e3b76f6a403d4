-- `checking::check_image` meets its contract: an image that does not open is refused so, and in one that does the lines, the groups and
-- the slots decide. Assumes nothing.
use mathlib.Core.Path.{refl, sym, ◌∙◌, ap}
use Rattle.refusal.proofs.AnswerLaws.{passed_up}
use Rattle.checking.specs.Answer.{check_outcome}
use Rattle.checking.specs.StepsLaws.{check-unopened}
use Rattle.checking.proofs.check_image.Goals as goal

pub check_opened-requires : goal.check_opened-requires
check_opened-requires c = record {
  image_value = sym c.in_ok-count.ensures.answer;
  starts_len =
      (refl, refl, refl);
}

pub returns-in_err-count : goal.returns-in_err-count
returns-in_err-count c =
    record {
      answer = ap check_outcome (passed_up _ c.from_residual.result c.from_residual.ensures)
          ∙ sym (check-unopened c.args.image.now (sym c.in_err-count.ensures.answer));
    }
