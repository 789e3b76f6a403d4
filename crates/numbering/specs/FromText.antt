-- Planning, writing and building from a list text, as the index printer and the C boundary do. Assumes nothing.
use Rattle.std.specs.Prelude.{ℕ, List, [], ◌∷◌, ltb, length}
use Rattle.refusal.specs.Limits.{text_max, tags_max}
use Rattle.refusal.specs.Outcome.{Outcome, followed_by, on_answer}
use Rattle.refusal.specs.Checks.{met, in_order}
use Rattle.list.specs.Reading.{Listed, reading_of}
use Rattle.numbering.specs.Plan.{no_plan}
use Rattle.numbering.specs.Planning.{planning_of, plan_after}
use Rattle.numbering.specs.Writing.{writing_of, buffer_written}
use Rattle.numbering.specs.Building.{building_of, buffer_after}

-- "reading's refusals come first; before them, a text above 65,527 bytes is refused with 5 at place 0." There are cells for as many
-- tags as a list may have.
unfoldable pub list_from_text : List ℕ → Outcome Listed
list_from_text text = in_order ((5, met (ltb text_max (length text))) ∷ []) (reading_of text tags_max)

-- Then the operation's refusals, or its answer, for the list that the text states: planning, and the plan that it yields;
unfoldable pub planning_from_text : List ℕ → Outcome ℕ
planning_from_text text = followed_by (list_from_text text) (λ listed. planning_of listed.tags listed.groups listed.limit)

unfoldable pub plan_from_text : List ℕ → List ℕ
plan_from_text text = on_answer (list_from_text text) (λ listed. plan_after listed.tags listed.groups listed.limit) no_plan

-- writing, for which the text's B and L "have to be well formed and mean nothing", and the buffer afterwards;
unfoldable pub writing_from_text : List ℕ → List ℕ → ℕ → Outcome ℕ
writing_from_text text plan room = followed_by (list_from_text text) (λ listed. writing_of listed.tags plan room)

unfoldable pub written_from_text : List ℕ → List ℕ → List ℕ → List ℕ
written_from_text text plan before = on_answer (list_from_text text) (λ listed. buffer_written listed.tags plan before) before

-- building, for a buffer of `room` bytes, and the buffer afterwards.
unfoldable pub building_from_text : List ℕ → ℕ → Outcome ℕ
building_from_text text room =
    followed_by (list_from_text text) (λ listed. building_of listed.tags listed.groups listed.limit room)

unfoldable pub buffer_from_text : List ℕ → List ℕ → List ℕ
buffer_from_text text before =
    on_answer (list_from_text text) (λ listed. buffer_after listed.tags listed.groups listed.limit before) before
