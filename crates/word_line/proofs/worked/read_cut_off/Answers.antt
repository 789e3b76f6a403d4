-- `word_line::worked::read_cut_off` meets its contract: by the promise it reads as a line of another length does. Assumes nothing.
use mathlib.Core.Path.{◌∙◌}
use native.Mathlib.Omega.{arith}
use Rattle.word_line.proofs.WordLineLaws.{word-other-length}
use Rattle.word_line.proofs.worked.read_cut_off.Goals as goal

pub returns : goal.returns
returns c = record { answer = c.read_word_line.ensures.answer ∙ word-other-length _ (λ whole. omega arith) }
