-- `tagless_group::choice_by` meets its contract: the parity of the row and the word is the number of the choice. Assumes nothing.
use mathlib.Core.Path.{sym, ◌∙◌}
use Rattle.filling.proofs.WordLaws.{number-choice}
use Rattle.parity.specs.ParityLaws.{parity-below}
use Rattle.tagless_group.specs.Row.{row_of}
use Rattle.tagless_group.specs.Words.{choice_by}
use Rattle.tagless_group.proofs.choice_by.Goals as goal

pub returns : goal.returns
unfolding choice_by
returns c =
    let a = c.args in
    record {
      answer = c.parity.ensures.answer
          ∙ rw c.row_of.ensures.answer (sym (number-choice _ (parity-below (row_of a.seed a.tag) a.word)));
    }
