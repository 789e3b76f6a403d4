-- What writing promises follows from its two equations. Assumes nothing.
use Rattle.std.specs.Prelude.{◌≡◌, List, ℕ, ◌<◌, length, get_or}
use Rattle.std.proofs.Common.{sym, ◌∙◌}
use Rattle.refusal.specs.Limits.{tag_end}
use Rattle.refusal.specs.Outcome.{Outcome, refused}
use Rattle.numbering.specs.Writing.{writing_of, buffer_written}
use Rattle.numbering.proofs.WritingLaws.{writing-kept}
use Rattle.condition3.specs.Condition3.{WritingCondition3}
use Rattle.condition3_theorem.specs.Condition3Theorem.{tags-of-words, writing-condition3}

-- The answer, the buffer, and writing's part of Condition 3: for an answer `outcome` that left `after`.
abbrev pub Promised : List ℕ → List ℕ → List ℕ → Outcome ℕ → List ℕ → Type 0
Promised tags plan before outcome after =
    (outcome ≡ writing_of tags plan (length before))
    × ((after ≡ buffer_written tags plan before) × WritingCondition3 tags plan outcome after)

module _ (tags plan before : List ℕ) (words : (i : ℕ) → get_or tags i 0 < tag_end) where
  pub promised : {outcome : Outcome ℕ} {after : List ℕ} → outcome ≡ writing_of tags plan (length before)
      → after ≡ buffer_written tags plan before → Promised tags plan before outcome after
  promised answer bytes = (answer, (bytes, rw (answer, bytes) (writing-condition3 tags plan (tags-of-words tags words) before)))

  -- A refusal leaves the buffer as it was.
  pub promised-refusal : {outcome : Outcome ℕ} {number place : ℕ} → outcome ≡ refused number place
      → writing_of tags plan (length before) ≡ refused number place → Promised tags plan before outcome before
  promised-refusal is due = promised (is ∙ sym due) (sym (writing-kept tags plan before due))
