-- `calls_tagless::worked::check_nothing` meets its contract, from the promise of `check`: no bytes are too few.
-- Assumes nothing.
use mathlib.Core.Path.{◌≡◌, refl, ◌∙◌}
use mathlib.Core.List.{[]}
use Rattle.lists.specs.First.{met_at}
use Rattle.refusal.specs.Checks.{met, in_order}
use Rattle.tagless_image.specs.View.{tagless_view}
use Rattle.tagless_image.specs.Checking.{tagless_opening, tagless_checks, tagless_checking_of}
use Rattle.answer64.specs.Answer64.{answer64}
use Rattle.calls_tagless.specs.Tagless.{tagless_check_answer}
use Rattle.calls_tagless.proofs.worked.check_nothing.Goals as goal

nothing-refused : tagless_check_answer [] ≡ 47244640256
unfolding tagless_check_answer answer64 tagless_checking_of tagless_checks tagless_opening tagless_view in_order met met_at
nothing-refused = refl

pub returns : goal.returns
returns c = record { answer = c.check.ensures.answer ∙ nothing-refused }
