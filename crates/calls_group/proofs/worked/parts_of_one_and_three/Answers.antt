-- `calls_group::worked::parts_of_one_and_three` meets its contract: by the promise of `count_parts` the answer is what the definition
-- computes to. Assumes nothing.
use mathlib.Core.Path.{◌∙◌}
use Rattle.refusal.specs.Outcome.{answered_by}
use Rattle.graph.specs.HowMany.{one}
use Rattle.counting.proofs.Examples.{untouched-place}
use Rattle.answer64.specs.Answer64.{answer64}
use Rattle.calls_group.specs.Parts.{parts_number, parts_answer}
use Rattle.calls_group.proofs.worked.parts_of_one_and_three.Goals as goal

pub returns : goal.returns
unfolding parts_answer answer64 answered_by parts_number one
returns c = record { answer = c.count_parts.ensures.answer ∙ rw untouched-place }
