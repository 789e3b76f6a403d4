-- `word_line::word_at` meets its contract: from the line's eleventh byte on there stands what a slot's line is. Assumes nothing.
use mathlib.Core.Path.{◌≡◌, ◌∙◌}
use Prim.Native.Nat.{ℕ, ◌+◌, ◌-◌}
use native.Mathlib.Omega.{arith}
use Rattle.text.specs.Line.{line_length, slot_line}
use Rattle.word_line.proofs.word_at.Goals as goal

whole : (from : ℕ) → from + line_length - from ≡ line_length
whole from = omega arith

pub returns : goal.returns
unfolding slot_line
returns c = record { answer = c.tag_in.ensures.answer ∙ rw (whole _) }
