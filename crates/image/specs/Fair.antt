-- Groups that are not faulty, and the slots that lie in them. Assumes nothing.
use Rattle.std.specs.Prelude.{ℕ, ◌+◌, ◌≤◌, ◌<◌, ◌≡◌}
use Rattle.refusal.specs.Limits.{group_max}
use Rattle.image.specs.View.{View, groups_in, start_in, end_in}

-- What a group that is not faulty is.
pub record Fair (g start next : ℕ) : Type 0 where
  pub zero-first : g ≡ 0 → start ≡ 0
  pub ascends : start ≤ next
  pub small : next ≤ start + group_max

-- Slot j lies in group g.
pub record LiesIn (v : View) (j g : ℕ) : Type 0 where
  pub group : g < groups_in v
  pub from : start_in v g ≤ j
  pub below : j < end_in v g

-- No group is faulty.
abbrev pub AllFair : View → Type 0
AllFair v = (g : ℕ) → g < groups_in v → Fair g (start_in v g) (end_in v g)
