-- The operation "writing": the image of a list under a plan. Document 02, §3. Assumes nothing.
use Rattle.std.specs.Prelude.{ℕ, Bool, not, List, [], ◌∷◌, ◌++◌, ltb, length, drop}
use Rattle.refusal.specs.Limits.{seed_max}
use Rattle.refusal.specs.Outcome.{Outcome, answered, on_answer}
use Rattle.lists.specs.First.{first}
use Rattle.refusal.specs.Checks.{Check, met, in_order}
use Rattle.filling.specs.Least.{feasible}
use Rattle.group.specs.Group.{group_under, taken}
use Rattle.group.specs.Ascending.{ascending_check}
use Rattle.group.specs.Unwired.{unwired_check}
use Rattle.image.specs.Sheet.{Sheet, bytes_of, image_length}
use Rattle.numbering.specs.Members.{members, start_of}
use Rattle.numbering.specs.Number.{number_of, tag_numbered}
use Rattle.numbering.specs.Plan.{planned_groups, planned_seed}
use Rattle.numbering.specs.Planning.{groups_check, count_check, size_check}

-- The image of a list under given seeds and choice sequences, one of each for a group.
unfoldable pub sheet_of : ℕ → List ℕ → (ℕ → ℕ) → (ℕ → List Bool) → Sheet
sheet_of groups tags seed choices = record {
  count = length tags;
  groups = groups;
  start = λ g. start_of groups g tags;
  seed = seed;
  slot = tag_numbered (number_of groups tags seed choices) tags;
}

-- The sequence taken for group g under its seed, and the image with these.
unfoldable pub choices_under : ℕ → List ℕ → (ℕ → ℕ) → ℕ → List Bool
choices_under groups tags seed g = taken (members groups g tags) (seed g)

unfoldable pub image_under : ℕ → List ℕ → (ℕ → ℕ) → List ℕ
image_under groups tags seed = bytes_of (sheet_of groups tags seed (choices_under groups tags seed))

-- "9: buffer shorter than the image." The buffer has `room` bytes.
abbrev pub room_check : ℕ → List ℕ → ℕ → Check
room_check groups tags room = (9, met (ltb room (image_length groups (length tags))))

-- "a seed above 65,535"; a group "that no choice sequence fills under its seed".
abbrev pub seed_above : List ℕ → ℕ → Bool
seed_above plan g = ltb seed_max (planned_seed plan g)

abbrev pub unfilled : List ℕ → List ℕ → ℕ → Bool
unfilled tags plan g = not (feasible (group_under (members (planned_groups plan) g tags) (planned_seed plan g)))

-- "writing gives [building's refusals] but for 4 and 7, with 8 for the plan's B." "2 directly after 8, at the lowest of the first B groups
-- with a seed above 65,535; last, 18 at the lowest group that no choice sequence fills under its seed."
unfoldable pub writing_checks : List ℕ → List ℕ → ℕ → List Check
writing_checks tags plan room =
    groups_check (planned_groups plan)
    ∷ (2, first (seed_above plan) (planned_groups plan))
    ∷ count_check tags
    ∷ ascending_check tags
    ∷ unwired_check tags
    ∷ room_check (planned_groups plan) tags room
    ∷ size_check (planned_groups plan) tags
    ∷ (18, first (unfilled tags plan) (planned_groups plan))
    ∷ []

-- "Otherwise the image stands at the buffer's beginning and the answer is its length."
unfoldable pub writing_of : List ℕ → List ℕ → ℕ → Outcome ℕ
writing_of tags plan room =
    in_order (writing_checks tags plan room) (answered (image_length (planned_groups plan) (length tags)))

-- The image of the list under the plan.
unfoldable pub planned_image : List ℕ → List ℕ → List ℕ
planned_image tags plan = image_under (planned_groups plan) tags (planned_seed plan)

-- The buffer after an outcome: the image and then what was there; "A refusal writes nothing."
unfoldable pub written : Outcome ℕ → List ℕ → List ℕ → List ℕ
written outcome image before = on_answer outcome (λ size. image ++ drop (length image) before) before

unfoldable pub buffer_written : List ℕ → List ℕ → List ℕ → List ℕ
buffer_written tags plan before = written (writing_of tags plan (length before)) (planned_image tags plan) before
