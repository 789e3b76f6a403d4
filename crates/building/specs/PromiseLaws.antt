-- What building promises follows from what its two calls promise. Assumes nothing.
use Rattle.std.specs.Prelude.{◌≡◌, List, ℕ, ◌<◌, length, get_or}
use Rattle.std.proofs.Common.{sym, ◌∙◌}
use Rattle.refusal.specs.Limits.{tag_end}
use Rattle.refusal.specs.Outcome.{Outcome, answered, refused}
use Rattle.numbering.specs.Planning.{planning_of, plan_after}
use Rattle.numbering.specs.Writing.{writing_of, buffer_written}
use Rattle.numbering.specs.Building.{building_of, buffer_after}
use Rattle.numbering.proofs.BuildingLaws.{building-unplanned, building-as-written, buffer-as-written, buffer-kept}
use Rattle.condition3.specs.Condition3.{Condition3}
use Rattle.condition3_theorem.specs.Condition3Theorem.{tags-of-words, condition3}

-- The answer, the plan, the buffer, and Condition 3: for an answer `outcome` that left `plan` and `after`.
abbrev pub Promised : List ℕ → ℕ → ℕ → List ℕ → Outcome ℕ → List ℕ → List ℕ → Type 0
Promised tags groups limit before outcome plan after =
    (outcome ≡ building_of tags groups limit (length before))
    × ((plan ≡ plan_after tags groups limit)
    × ((after ≡ buffer_after tags groups limit before) × Condition3 tags groups limit (length before) plan outcome after))

module _ (tags : List ℕ) (groups limit : ℕ) (before : List ℕ) (words : (i : ℕ) → get_or tags i 0 < tag_end)
    {outcome : Outcome ℕ} {plan : List ℕ} (yielded : plan ≡ plan_after tags groups limit) where
  promised : {after : List ℕ} → outcome ≡ building_of tags groups limit (length before) → after ≡ buffer_after tags groups limit before
      → Promised tags groups limit before outcome plan after
  promised answer bytes =
      (answer, (yielded, (bytes, rw (answer, yielded, bytes) (condition3 tags groups limit before (tags-of-words tags words)))))

  -- Behind a planning that answered, building is writing with the plan as it was yielded;
  pub promised-written : {planned : ℕ} {after : List ℕ} → planning_of tags groups limit ≡ answered planned
      → outcome ≡ writing_of tags plan (length before) → after ≡ buffer_written tags plan before
      → Promised tags groups limit before outcome plan after
  promised-written e answer bytes =
      promised (answer ∙ rw yielded (sym (building-as-written tags groups limit (length before) e)))
      (bytes ∙ rw yielded (sym (buffer-as-written tags groups limit before e)))

  -- planning's refusal is building's, and leaves the buffer as it was.
  pub promised-unplanned : {number place : ℕ} → planning_of tags groups limit ≡ refused number place → outcome ≡ refused number place
      → Promised tags groups limit before outcome plan before
  promised-unplanned e is =
      let due = building-unplanned tags groups limit (length before) e in
      promised (is ∙ sym due) (sym (buffer-kept tags groups limit before due))
