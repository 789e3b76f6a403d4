-- `group::worked::zero_alone` meets its contract: by the promise of `starts_unwired` the answer is what the definition computes to.
-- Assumes nothing.
use mathlib.Core.Path.{◌≡◌, refl, ◌∙◌}
use mathlib.Core.Bool.{true}
use mathlib.Core.List.{[], ◌∷◌}
use Rattle.group.specs.Unwired.{starts_unwired}
use Rattle.group.proofs.worked.zero_alone.Goals as goal

computed : starts_unwired (0 ∷ []) ≡ true
unfolding starts_unwired
computed = refl

pub returns : goal.returns
returns c = record { answer = c.starts_unwired.ensures.answer ∙ computed }
