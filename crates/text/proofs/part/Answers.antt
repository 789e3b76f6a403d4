-- `text::part` meets its contract: a text has a part where it has so many bytes behind the place. Assumes nothing.
use Rattle.std.proofs.Common.{rules, arith}
use Rattle.std.proofs.lemmas.Grind.{common_steps}
use Rattle.text.specs.Part.{part}
use Rattle.text.proofs.part.Goals as goal

pub returns-in_err-get : goal.returns-in_err-get
unfolding part
returns-in_err-get c = search rules

pub returns : goal.returns
unfolding part
returns c = grind (arith, common_steps)
