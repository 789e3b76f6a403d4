-- The parts of the tags, once they are ordered by group. Assumes nothing.
use Rattle.std.specs.Prelude.{ℕ, zero, suc, ◌-◌, ◌≤◌, ◌<◌, List, length, get_or, take, drop}

-- Where a group's part begins, given where each part ends: where the part before it ends. The first begins at 0.
unfoldable pub part_start : List ℕ → ℕ → ℕ
part_start ends zero = 0
part_start ends (suc g) = get_or ends g 0

-- "Each group works on its own part of the tags, once they are ordered by group": from the part's start to its end.
unfoldable pub part_of : List ℕ → List ℕ → ℕ → List ℕ
part_of ordered ends g = take (get_or ends g 0 - part_start ends g) (drop (part_start ends g) ordered)

-- The parts follow one another, and lie within the ordered tags.
pub record Parts (groups : ℕ) (ordered ends : List ℕ) : Type 0 where
  pub known : groups ≤ length ends
  pub follow : (g : ℕ) → g < groups → part_start ends g ≤ get_or ends g 0
  pub inside : (g : ℕ) → g < groups → get_or ends g 0 ≤ length ordered
