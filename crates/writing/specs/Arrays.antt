-- A list and a plan whose arguments are checked, and the tags ordered by group, as writing hands them on. Assumes nothing.
use Rattle.std.specs.Prelude.{◌≡◌, List, ℕ, suc, ◌≤◌, length}
use Rattle.refusal.specs.Limits.{tags_max, groups_max}
use Rattle.refusal.specs.Checks.{Pass}
use Rattle.refusal.specs.ChecksBefore.{checks_before}
use Rattle.numbering.specs.Plan.{planned_groups}
use Rattle.numbering.specs.Writing.{writing_checks}
use Rattle.order.specs.Sorted.{Sorted}

-- The checks before 10 pass, and B is the plan's.
pub record Admitted (tags : List ℕ) (groups : ℕ) (plan : List ℕ) (room : ℕ) : Type 0 where
  pub groups-are : groups ≡ planned_groups plan
  pub cells : length plan ≡ suc groups_max
  pub passes : Pass (checks_before 10 (writing_checks tags plan room))

-- The checks before 18 pass, and the tags are ordered.
pub record Orderly (tags : List ℕ) (groups : ℕ) (plan ordered ends : List ℕ) (room : ℕ) : Type 0 where
  pub groups-are : groups ≡ planned_groups plan
  pub cells : length plan ≡ suc groups_max
  pub passes : Pass (checks_before 18 (writing_checks tags plan room))
  pub sorted : Sorted groups tags ordered ends
  pub few-cells : length ordered ≤ tags_max
