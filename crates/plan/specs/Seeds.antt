-- The seeds of all groups, found part by part. Assumes nothing.
use Rattle.std.specs.Prelude.{Bool, not, List, ◌++◌, ℕ, ◌≤◌, ◌<◌, length, drop, unwrap_or}
use Rattle.refusal.specs.Limits.{group_max, limit_max}
use Rattle.lists.specs.First.{is_some}
use Rattle.group.specs.Group.{least_seed}
use Rattle.group.specs.Ascending.{Ascending}
use Rattle.group.specs.Unwired.{FirstWired}
use Rattle.lists.specs.UpTo.{up_to}
use Rattle.numbering.specs.Parts.{part_of, Parts}

-- No seed below the limit serves the group's part.
unfoldable pub unseeded : List ℕ → List ℕ → ℕ → ℕ → Bool
unseeded ordered ends limit g = not (is_some (least_seed (part_of ordered ends g) limit))

-- The least seed for the group's part, 0 where there is none.
unfoldable pub part_seed : List ℕ → List ℕ → ℕ → ℕ → ℕ
part_seed ordered ends limit g = unwrap_or (least_seed (part_of ordered ends g) limit) 0

-- The cells with the seeds of the groups below `found`; the other cells are as they were.
unfoldable pub seeds_found : List ℕ → List ℕ → ℕ → ℕ → List ℕ → List ℕ
seeds_found ordered ends limit found before = up_to found (part_seed ordered ends limit) ++ drop found before

-- What the search is given: a legal limit, and parts of no more tags than a group holds, in ascending order, none of them tag 0.
pub record Plannable (groups : ℕ) (ordered ends : List ℕ) (limit : ℕ) : Type 0 where
  pub parts : Parts groups ordered ends
  pub limit-legal : (1 ≤ limit) × (limit ≤ limit_max)
  pub few : (g : ℕ) → g < groups → length (part_of ordered ends g) ≤ group_max
  pub ascending : (g : ℕ) → g < groups → Ascending (part_of ordered ends g)
  pub wired : (g : ℕ) → g < groups → FirstWired (part_of ordered ends g)
