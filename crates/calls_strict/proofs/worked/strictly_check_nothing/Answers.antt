-- `calls_strict::worked::strictly_check_nothing` meets its contract, from the promise of `strict_check`: no bytes are too few.
-- Assumes nothing.
use mathlib.Core.Path.{◌≡◌, refl, ◌∙◌}
use mathlib.Core.List.{[]}
use Rattle.lists.specs.First.{met_at}
use Rattle.refusal.specs.Checks.{met, in_order}
use Rattle.image.specs.View.{view_of}
use Rattle.image.specs.Checking.{opening_checks, checking_checks}
use Rattle.strict.specs.StrictCheck.{strict_checks, strict_check_of}
use Rattle.answer64.specs.Answer64.{answer64}
use Rattle.calls_strict.specs.Strict.{strict_check_answer}
use Rattle.calls_strict.proofs.worked.strictly_check_nothing.Goals as goal

nothing-refused : strict_check_answer [] ≡ 47244640256
unfolding strict_check_answer answer64 strict_check_of strict_checks checking_checks opening_checks view_of in_order met met_at
nothing-refused = refl

pub returns : goal.returns
returns c = record { answer = c.strict_check.ensures.answer ∙ nothing-refused }
