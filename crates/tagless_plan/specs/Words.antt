-- The seeds and words of all groups, found part by part. Assumes nothing.
use Rattle.std.specs.Prelude.{Bool, not, List, ◌++◌, ℕ, ◌≤◌, ◌<◌, length, drop, unwrap_or}
use Rattle.refusal.specs.Limits.{group_max, limit_max}
use Rattle.lists.specs.First.{is_some}
use Rattle.lists.specs.UpTo.{up_to}
use Rattle.numbering.specs.Parts.{part_of, Parts}
use Rattle.tagless_group.specs.Words.{worded_seed}

-- No seed below the limit has a word for the group's part.
unfoldable pub unworded : List ℕ → List ℕ → ℕ → ℕ → Bool
unworded ordered ends limit g = not (is_some (worded_seed (part_of ordered ends g) limit))

-- The least seed for the group's part and its least word, 0 and 0 where there is none.
unfoldable pub part_seed : List ℕ → List ℕ → ℕ → ℕ → ℕ
part_seed ordered ends limit g = (unwrap_or (worded_seed (part_of ordered ends g) limit) (0, 0)).0

unfoldable pub part_word : List ℕ → List ℕ → ℕ → ℕ → ℕ
part_word ordered ends limit g = (unwrap_or (worded_seed (part_of ordered ends g) limit) (0, 0)).1

-- The cells with the numbers of the groups below `found`; the other cells are as they were.
unfoldable pub stored_up_to : (ℕ → ℕ) → ℕ → List ℕ → List ℕ
stored_up_to number found before = up_to found number ++ drop found before

-- What the search is given: a legal limit, and parts of no more tags than a group holds.
pub record Searchable (groups : ℕ) (ordered ends : List ℕ) (limit : ℕ) : Type 0 where
  pub parts : Parts groups ordered ends
  pub limit-legal : limit ≤ limit_max
  pub few : (g : ℕ) → g < groups → length (part_of ordered ends g) ≤ group_max
