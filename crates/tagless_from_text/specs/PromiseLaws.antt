-- What building an index without tags from a list text promises follows from what reading answers and building promises. Assumes nothing.
use Rattle.std.specs.Prelude.{◌≡◌, List, ℕ, length}
use Rattle.std.proofs.Math.Path.{sym}
use Rattle.std.proofs.Common.{◌∙◌}
use Rattle.refusal.specs.Outcome.{Outcome, answered, refused}
use Rattle.refusal.proofs.OutcomeLaws.{followed-answered, followed-refused, left-answered, left-refused}
use Rattle.list.specs.Reading.{Listed}
use Rattle.numbering.specs.FromText.{list_from_text}
use Rattle.from_text.specs.PromiseLaws.{of_none, of-listed}
use Rattle.tagless.specs.FromText.{tagless_from_text, tagless_buffer_from_text}
use Rattle.tagless_condition.specs.Condition.{TaglessCondition}
use Rattle.tagless_building.specs.PromiseLaws.{Promised}
use Rattle.tagless_from_text.specs.Condition.{TextTaglessCondition}

module _ (text before : List ℕ) where
  -- The answer, the buffer, and the condition.
  abbrev pub TextPromised : Outcome ℕ → List ℕ → Type 0
  TextPromised outcome after =
      (outcome ≡ tagless_from_text text (length before))
      × ((after ≡ tagless_buffer_from_text text before) × TextTaglessCondition text (length before) outcome after)

  pub promised-unread : {outcome : Outcome ℕ} {number place : ℕ} → list_from_text text ≡ refused number place
      → outcome ≡ refused number place → TextPromised outcome before
  unfolding tagless_from_text tagless_buffer_from_text
  promised-unread e is = (is ∙ sym (followed-refused _ e), (sym (left-refused _ _ e), of_none text _ e))

  pub promised-read : {outcome : Outcome ℕ} {after : List ℕ} {listed : Listed} → list_from_text text ≡ answered listed
      → Promised listed.tags listed.groups listed.limit before outcome after → TextPromised outcome after
  unfolding tagless_from_text tagless_buffer_from_text
  promised-read {outcome} {after} e (answer, (bytes, condition)) = (
    answer ∙ sym (followed-answered _ e),
    (
      bytes ∙ sym (left-answered _ _ e),
      of-listed text (λ listed. TaglessCondition listed.tags listed.groups listed.limit (length before) outcome after) e condition,
    ),
  )
