-- The operation "building": "the two in turn, writing with the same list and the plan as it was yielded". Document 02, §3.
-- Assumes nothing.
use Rattle.std.specs.Prelude.{ℕ, Bool, List}
use Rattle.refusal.specs.Outcome.{Outcome, followed_by, on_answer}
use Rattle.numbering.specs.Planning.{planning_of, plan_after, seed_taken}
use Rattle.numbering.specs.Writing.{choices_under, image_under, writing_of, buffer_written}

-- "if planning refuses, its refusal is building's answer and writing is not begun". The buffer has `room` bytes.
unfoldable pub building_of : List ℕ → ℕ → ℕ → ℕ → Outcome ℕ
building_of tags groups limit room =
    followed_by (planning_of tags groups limit) (λ planned. writing_of tags (plan_after tags groups limit) room)

-- The buffer afterwards.
unfoldable pub buffer_after : List ℕ → ℕ → ℕ → List ℕ → List ℕ
buffer_after tags groups limit before =
    on_answer (planning_of tags groups limit) (λ planned. buffer_written tags (plan_after tags groups limit) before) before

-- The choice sequence taken for group g, and the image, under the seeds taken.
abbrev pub choices_taken : ℕ → List ℕ → ℕ → ℕ → List Bool
choices_taken groups tags limit = choices_under groups tags (seed_taken groups tags limit)

abbrev pub image_of : ℕ → List ℕ → ℕ → List ℕ
image_of groups tags limit = image_under groups tags (seed_taken groups tags limit)
