-- A list whose arguments are checked, and its tags ordered by group, as building an index without tags hands them on. Assumes nothing.
use Rattle.std.specs.Prelude.{List, ℕ, ◌≤◌, length}
use Rattle.refusal.specs.Limits.{tags_max}
use Rattle.refusal.specs.Checks.{Pass}
use Rattle.refusal.specs.ChecksBefore.{checks_before}
use Rattle.order.specs.Sorted.{Sorted}
use Rattle.tagless.specs.Building.{tagless_building_checks}

-- The checks before 10 pass.
pub record Admitted (tags : List ℕ) (groups limit room : ℕ) : Type 0 where
  pub passes : Pass (checks_before 10 (tagless_building_checks tags groups limit room))

-- The checks before 7 pass, and the tags are ordered.
pub record Orderly (tags : List ℕ) (groups limit : ℕ) (ordered ends : List ℕ) (room : ℕ) : Type 0 where
  pub passes : Pass (checks_before 7 (tagless_building_checks tags groups limit room))
  pub sorted : Sorted groups tags ordered ends
  pub few-cells : length ordered ≤ tags_max
