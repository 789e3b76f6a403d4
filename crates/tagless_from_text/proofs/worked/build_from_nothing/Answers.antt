-- `tagless_from_text::worked::build_from_nothing` meets its contract, from the promise of `build_from_text`: no bytes are no line 0.
-- Assumes nothing.
use mathlib.Core.Path.{◌≡◌, refl, ◌∙◌}
use mathlib.Core.List.{List, []}
use Prim.Native.Nat.{ℕ}
use Rattle.refusal.specs.Outcome.{refused, followed_by, on_answer}
use Rattle.lists.specs.First.{met_at}
use Rattle.refusal.specs.Checks.{met, in_order}
use Rattle.list.specs.Reading.{reading_checks, reading_of}
use Rattle.numbering.specs.FromText.{list_from_text}
use Rattle.tagless.specs.FromText.{tagless_from_text, tagless_buffer_from_text}
use Rattle.tagless_from_text.proofs.worked.build_from_nothing.Goals as goal

nothing-refused : (room : ℕ) → tagless_from_text [] room ≡ refused 16 0
unfolding tagless_from_text followed_by list_from_text in_order met met_at reading_of reading_checks
nothing-refused room = refl

nothing_written : (before : List ℕ) → tagless_buffer_from_text [] before ≡ before
unfolding tagless_buffer_from_text on_answer list_from_text in_order met met_at reading_of reading_checks
nothing_written before = refl

pub returns : goal.returns
returns c = record {
  answer = c.build_from_text.ensures.answer ∙ nothing-refused _;
  kept = c.build_from_text.ensures.bytes
      ∙ nothing_written _;
}
