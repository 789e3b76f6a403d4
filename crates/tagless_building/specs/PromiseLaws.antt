-- What building an index without tags promises follows from its two equations. Assumes nothing.
use Rattle.std.specs.Prelude.{◌≡◌, List, ℕ, length}
use Rattle.std.proofs.Common.{sym, ◌∙◌}
use Rattle.refusal.specs.Outcome.{Outcome, refused}
use Rattle.tagless.specs.Building.{tagless_building_of, tagless_after}
use Rattle.tagless.proofs.BuildingLaws.{after-refused}
use Rattle.tagless_condition.specs.Condition.{TaglessCondition}
use Rattle.tagless_theorem.specs.TaglessTheorem.{tagless-condition}

-- The answer, the buffer, and the condition: for an answer `outcome` that left `after`.
abbrev pub Promised : List ℕ → ℕ → ℕ → List ℕ → Outcome ℕ → List ℕ → Type 0
Promised tags groups limit before outcome after =
    (outcome ≡ tagless_building_of tags groups limit (length before))
    × ((after ≡ tagless_after tags groups limit before) × TaglessCondition tags groups limit (length before) outcome after)

module _ (tags : List ℕ) (groups limit : ℕ) (before : List ℕ) where
  pub promised : {outcome : Outcome ℕ} {after : List ℕ} → outcome ≡ tagless_building_of tags groups limit (length before)
      → after ≡ tagless_after tags groups limit before → Promised tags groups limit before outcome after
  promised answer bytes = (answer, (bytes, rw (answer, bytes) (tagless-condition tags groups limit before)))

  -- A refusal leaves the buffer as it was.
  pub promised-refusal : {outcome : Outcome ℕ} {number place : ℕ} → outcome ≡ refused number place
      → tagless_building_of tags groups limit (length before) ≡ refused number place → Promised tags groups limit before outcome before
  promised-refusal is due = promised (is ∙ sym due) (sym (after-refused tags groups limit before due))
