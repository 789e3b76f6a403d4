-- The step of checking an index without tags that reads its lines. Assumes nothing.
use Rattle.std.specs.Prelude.{ℕ, ◌+◌, ◌≡◌, List, get_or}
use Rattle.refusal.specs.Limits.{groups_max}
use Rattle.image.specs.View.{View, start_in}
use Rattle.checking.specs.Steps.{Filled}

-- The cells hold the starts of the groups whose lines are among the first, and N stands behind the starts.
pub record StartsStored (v : View) (count groups lines : ℕ) (starts : List ℕ) : Type 0 where
  pub start : Filled (start_in v) 1 lines (groups_max + 1) starts
  pub end : get_or starts groups 0 ≡ count
