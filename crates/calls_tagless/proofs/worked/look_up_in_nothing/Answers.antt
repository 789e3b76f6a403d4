-- `calls_tagless::worked::look_up_in_nothing` meets its contract, from the promise of `lookup`: no bytes are too few,
-- whatever the tag. Assumes nothing.
use mathlib.Core.Path.{◌≡◌, ◌∙◌}
use mathlib.Core.List.{[]}
use Prim.Native.Nat.{ℕ}
use native.Mathlib.Omega.{arith}
use Rattle.refusal.specs.Outcome.{answered_by}
use Rattle.tagless_opening.specs.OpeningLaws.{open-short}
use Rattle.tagless_lookup.proofs.StepsLaws.{lookup-unopened}
use Rattle.answer64.specs.Answer64.{answer64}
use Rattle.calls_tagless.specs.Tagless.{tagless_lookup_answer}
use Rattle.calls_tagless.proofs.worked.look_up_in_nothing.Goals as goal

nothing-refused : (tag : ℕ) → tagless_lookup_answer [] tag ≡ 47244640256
unfolding tagless_lookup_answer answer64 answered_by
nothing-refused tag = rw (lookup-unopened [] tag (open-short [] (omega arith)))

pub returns : goal.returns
returns c = record { answer = c.lookup.ensures.answer ∙ nothing-refused _ }
