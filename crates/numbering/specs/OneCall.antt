-- Building in one call, as document 01 has it: what planning and then writing are held against. Assumes nothing.
use Rattle.std.specs.Prelude.{ℕ, List, [], ◌∷◌, length}
use Rattle.refusal.specs.Outcome.{Outcome, answered}
use Rattle.refusal.specs.Checks.{Check, in_order}
use Rattle.group.specs.Ascending.{limit_check, ascending_check}
use Rattle.group.specs.Unwired.{unwired_check}
use Rattle.image.specs.Sheet.{image_length}
use Rattle.numbering.specs.Planning.{groups_check, count_check, size_check, seed_check}
use Rattle.numbering.specs.Writing.{room_check, written}
use Rattle.numbering.specs.Building.{image_of}

-- "8: B not 1 to 512. 4 as above. 5: more than 4,096 tags. 6 as above. 9: buffer shorter than the image. 10: a group has more than
-- [32] tags, at the lowest such group. 7: at the lowest group without a seed." With 17 after 6.
unfoldable pub one_call_checks : List ℕ → ℕ → ℕ → ℕ → List Check
one_call_checks tags groups limit room =
    groups_check groups
    ∷ limit_check limit
    ∷ count_check tags
    ∷ ascending_check tags
    ∷ unwired_check tags
    ∷ room_check groups tags room
    ∷ size_check groups tags
    ∷ seed_check groups tags limit
    ∷ []

-- "Otherwise the image stands at the buffer's beginning and the answer is its length."
unfoldable pub one_call_of : List ℕ → ℕ → ℕ → ℕ → Outcome ℕ
one_call_of tags groups limit room = in_order (one_call_checks tags groups limit room) (answered (image_length groups (length tags)))

unfoldable pub one_call_after : List ℕ → ℕ → ℕ → List ℕ → List ℕ
one_call_after tags groups limit before = written (one_call_of tags groups limit (length before)) (image_of groups tags limit) before
