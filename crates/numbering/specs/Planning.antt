-- The operation "planning": the seeds of all groups, before an image is written. Document 02, §3. Assumes nothing.
use Rattle.std.specs.Prelude.{ℕ, Bool, not, List, [], ◌∷◌, ◌++◌, ltb, length, unwrap_or}
use Rattle.refusal.specs.Limits.{tags_max, groups_max, group_max, outside}
use Rattle.refusal.specs.Outcome.{Outcome, answered, on_answer}
use Rattle.lists.specs.First.{first, is_some}
use Rattle.refusal.specs.Checks.{Check, met, in_order}
use Rattle.group.specs.Group.{least_seed}
use Rattle.group.specs.Ascending.{limit_check, ascending_check}
use Rattle.group.specs.Unwired.{unwired_check}
use Rattle.numbering.specs.Members.{members}
use Rattle.numbering.specs.Plan.{plan_of, no_plan}

-- "8: B not 1 to 512." "5: more than 4,096 tags."
abbrev pub groups_check : ℕ → Check
groups_check groups = (8, met (outside 1 groups_max groups))

abbrev pub count_check : List ℕ → Check
count_check tags = (5, met (ltb tags_max (length tags)))

-- "10: a group has more than [32] tags, at the lowest such group."
abbrev pub too_large : ℕ → List ℕ → ℕ → Bool
too_large groups tags g = ltb group_max (length (members groups g tags))

abbrev pub size_check : ℕ → List ℕ → Check
size_check groups tags = (10, first (too_large groups tags) groups)

-- "7: at the lowest group without a seed."
abbrev pub seedless : ℕ → List ℕ → ℕ → ℕ → Bool
seedless groups tags limit g = not (is_some (least_seed (members groups g tags) limit))

abbrev pub seed_check : ℕ → List ℕ → ℕ → Check
seed_check groups tags limit = (7, first (seedless groups tags limit) groups)

-- "The earlier checks are those that building makes before 7." Document 02, §1: "17 if the first tag is 0, directly after 6".
unfoldable pub earlier_checks : List ℕ → ℕ → ℕ → List Check
earlier_checks tags groups limit =
    groups_check groups ∷ limit_check limit ∷ count_check tags ∷ ascending_check tags ∷ unwired_check tags ∷ size_check groups tags ∷ []

-- "Planning gives building's refusals but for 9".
unfoldable pub planning_checks : List ℕ → ℕ → ℕ → List Check
planning_checks tags groups limit = earlier_checks tags groups limit ++ seed_check groups tags limit ∷ []

-- The answer is B.
unfoldable pub planning_of : List ℕ → ℕ → ℕ → Outcome ℕ
planning_of tags groups limit = in_order (planning_checks tags groups limit) (answered groups)

-- The seed taken for group g: the least below the limit.
unfoldable pub seed_taken : ℕ → List ℕ → ℕ → ℕ → ℕ
seed_taken groups tags limit g = unwrap_or (least_seed (members groups g tags) limit) 0

-- "planning takes list, B and L and yields a plan".
unfoldable pub plan_after : List ℕ → ℕ → ℕ → List ℕ
plan_after tags groups limit =
    on_answer (planning_of tags groups limit) (λ planned. plan_of planned (seed_taken groups tags limit)) no_plan
