-- The operation "placing a group". Assumes nothing.
use Rattle.std.specs.Prelude.{ℕ, not, List, [], ◌∷◌, ltb, length, unwrap_or}
use Rattle.refusal.specs.Limits.{group_max}
use Rattle.refusal.specs.Outcome.{Outcome, answered}
use Rattle.lists.specs.First.{is_some}
use Rattle.refusal.specs.Checks.{Check, met, in_order}
use Rattle.filling.specs.Word.{word_of}
use Rattle.group.specs.Group.{least_seed, taken}
use Rattle.group.specs.Ascending.{limit_check, ascending_check}
use Rattle.group.specs.Unwired.{unwired_check}

-- What placing answers: the seed and the choice word.
pub record Placement : Type 0 where
  pub seed : ℕ
  pub word : ℕ

-- "4: L not 1 to 65,536. 5: more than [32] tags. 6: not strictly ascending, at the first index whose tag is not above the one
-- before. 7: no seed below L has a filling sequence." Placing's 7 names no group. Document 02, §1:
-- "17 if the first tag is 0, directly after 6".
unfoldable pub placing_checks : List ℕ → ℕ → List Check
placing_checks tags limit =
    limit_check limit
    ∷ (5, met (ltb group_max (length tags)))
    ∷ ascending_check tags
    ∷ unwired_check tags
    ∷ (7, met (not (is_some (least_seed tags limit))))
    ∷ []

-- The least seed and the word of the sequence taken under it.
unfoldable pub placement_of : List ℕ → ℕ → Placement
placement_of tags limit =
    let seed = unwrap_or (least_seed tags limit) 0 in
    record { seed = seed; word = word_of (taken tags seed) }

-- "Otherwise seed and choice word."
unfoldable pub placing_of : List ℕ → ℕ → Outcome Placement
placing_of tags limit = in_order (placing_checks tags limit) (answered (placement_of tags limit))
