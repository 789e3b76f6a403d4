-- `calls_tagless::worked::build_from_nothing` meets its contract, from the promise of `build`: no bytes are no line 0.
-- Assumes nothing.
use mathlib.Core.Path.{◌≡◌, refl, ◌∙◌}
use mathlib.Core.List.{List, []}
use Prim.Native.Nat.{ℕ}
use Rattle.refusal.specs.Outcome.{followed_by, on_answer}
use Rattle.lists.specs.First.{met_at}
use Rattle.refusal.specs.Checks.{met, in_order}
use Rattle.list.specs.Reading.{reading_checks, reading_of}
use Rattle.numbering.specs.FromText.{list_from_text}
use Rattle.tagless.specs.FromText.{tagless_from_text, tagless_buffer_from_text}
use Rattle.answer64.specs.Answer64.{answer64}
use Rattle.calls_tagless.specs.Tagless.{tagless_build_answer}
use Rattle.calls_tagless.proofs.worked.build_from_nothing.Goals as goal

nothing-refused : (room : ℕ) → tagless_build_answer [] room ≡ 68719476736
unfolding tagless_build_answer answer64 tagless_from_text followed_by list_from_text in_order met met_at reading_of reading_checks
nothing-refused room = refl

nothing_written : (before : List ℕ) → tagless_buffer_from_text [] before ≡ before
unfolding tagless_buffer_from_text on_answer list_from_text in_order met met_at reading_of reading_checks
nothing_written before = refl

pub returns : goal.returns
returns c = let built = c.build.ensures in record { answer = built.answer ∙ nothing-refused _; kept = built.bytes ∙ nothing_written _ }
