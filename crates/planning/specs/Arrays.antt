-- A list whose arguments are checked, and its tags ordered by group, as planning hands them on. Assumes nothing.
use Rattle.std.specs.Prelude.{List, ℕ}
use Rattle.refusal.specs.Checks.{Pass}
use Rattle.refusal.specs.ChecksBefore.{checks_before}
use Rattle.numbering.specs.Planning.{earlier_checks}
use Rattle.order.specs.Sorted.{Sorted}

-- The checks before 10 pass.
pub record Admitted (tags : List ℕ) (groups limit : ℕ) : Type 0 where
  pub passes : Pass (checks_before 10 (earlier_checks tags groups limit))

-- The checks before 7 pass, and the tags are ordered.
pub record Orderly (tags : List ℕ) (groups limit : ℕ) (ordered ends : List ℕ) : Type 0 where
  pub passes : Pass (earlier_checks tags groups limit)
  pub sorted : Sorted groups tags ordered ends
