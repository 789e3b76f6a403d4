-- Planning and then writing from one list text: behind a planning that answered it is building from that text. Assumes nothing.
use Rattle.std.specs.Prelude.{◌≡◌, List, ℕ}
use Rattle.std.proofs.Common.{sym, ◌∙◌}
use Rattle.refusal.specs.Outcome.{answered}
use Rattle.refusal.proofs.OutcomeLaws.{answered-of-followed, followed-answered, left-answered}
use Rattle.list.specs.Reading.{Listed}
use Rattle.numbering.specs.Planning.{planning_of}
use Rattle.numbering.proofs.BuildingLaws.{building-as-written, buffer-as-written}
use Rattle.numbering.specs.FromText.{list_from_text, planning_from_text, plan_from_text, writing_from_text, written_from_text}
use Rattle.numbering.specs.FromText.{building_from_text, buffer_from_text}

module _ (text : List ℕ) {planned : ℕ} (e : planning_from_text text ≡ answered planned) where
  -- The list that the text states, which planning answered for.
  stated : (listed : Listed) × (list_from_text text ≡ answered listed)
      × (planning_of listed.tags listed.groups listed.limit ≡ answered planned)
  unfolding planning_from_text
  stated = answered-of-followed (list_from_text text) _ e

  pub text-answer : (room : ℕ) → writing_from_text text (plan_from_text text) room ≡ building_from_text text room
  unfolding writing_from_text plan_from_text building_from_text
  text-answer room =
      let (listed, read, answer) = stated in
      followed-answered _ read ∙ rw (left-answered _ _ read)
      (sym (followed-answered _ read ∙ building-as-written listed.tags listed.groups listed.limit room answer))

  pub text-bytes : (before : List ℕ) → written_from_text text (plan_from_text text) before ≡ buffer_from_text text before
  unfolding written_from_text plan_from_text buffer_from_text
  text-bytes before =
      let (listed, read, answer) = stated in
      left-answered _ _ read ∙ rw (left-answered _ _ read)
      (sym (left-answered _ _ read ∙ buffer-as-written listed.tags listed.groups listed.limit before answer))
