-- What the slots of a group are where checking accepts. Assumes nothing.
use Rattle.std.specs.Prelude.{ℕ, ◌≤◌, ◌≡◌, Bool, true, false, List, length}
use Rattle.refusal.specs.Limits.{group_max, seed_max, unwired}
use Rattle.lists.specs.Occurs.{occurs, distinct}
use Rattle.filling.specs.Filling.{Fills}
use Rattle.sorting.specs.Sorted.{sorted}
use Rattle.group.specs.Group.{group_under}

-- What the slots of a group with this seed are, where checking accepts: no more than a group holds, different tags, none of them 0,
-- and the seed serves them.
pub record Servable (seed : ℕ) (slots : List ℕ) : Type 0 where
  pub few : length slots ≤ group_max
  pub differ : distinct slots ≡ true
  pub wired : occurs unwired slots ≡ false
  pub seed-legal : seed ≤ seed_max
  pub choices : List Bool
  pub fills : Fills (group_under (sorted slots) seed) choices
