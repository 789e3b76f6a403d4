-- `from_text::read_text` meets its contract: a text that is too long is refused, and another is read. Assumes nothing.
use mathlib.Core.Path.{sym, ◌∙◌, ap}
use Rattle.refusal.specs.Outcome.{Outcome, answered_by}
use Rattle.refusal.proofs.OutcomeLaws.{by-refused}
use Rattle.list.specs.Reading.{Listed, cells_after}
use Rattle.list.specs.Answer.{head_of}
use Rattle.from_text.specs.PromiseLaws.{text-long, text-read}
use Rattle.from_text.proofs.read_text.Goals as goal

pub returns-then-text-gt-TEXT_MAX : goal.returns-then-text-gt-TEXT_MAX
unfolding cells_after
returns-then-text-gt-TEXT_MAX c =
    let a = c.args in
    let long = text-long a.text.now c.if-text-gt-TEXT_MAX.true in
    record {
      answer = rw c.into.ensures (sym (by-refused head_of long));
      cells = sym (ap (λ (o : Outcome Listed). cells_after o a.cells.now) long);
    }

pub returns : goal.returns
returns c =
    let a = c.args in
    let same = text-read a.text.now c.if-text-gt-TEXT_MAX.false in record {
      answer = rw c.requires at c.read_list.ensures.answer ∙ ap (answered_by head_of) (sym same);
      cells = rw c.requires at c.read_list.ensures.cells ∙ ap (λ (o : Outcome Listed). cells_after o a.cells.now) (sym same);
    }
