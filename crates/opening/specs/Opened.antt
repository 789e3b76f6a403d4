-- The opening checks as a step of its own, in any view and for any length that line 0 states. Assumes nothing.
use Rattle.std.specs.Prelude.{ℕ}
use Rattle.refusal.specs.Outcome.{Outcome, answered}
use Rattle.refusal.specs.Checks.{in_order}
use Rattle.image.specs.View.{View, count_in, groups_in}
use Rattle.image.specs.Checking.{opening_for}

-- N and B, or the refusal: 11, 12 or 11.
abbrev pub opened_for : ℕ → View → Outcome (ℕ × ℕ)
opened_for whole v = in_order (opening_for whole v) (answered (count_in v, groups_in v))
