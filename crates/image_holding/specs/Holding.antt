-- An image that checking accepts, said by the tags that its slots hold: no test of checking's appears. Assumes nothing.
use Rattle.std.specs.Prelude.{◌≡◌, ◌⊎◌, true, false, ℕ, suc, ◌<◌}
use Rattle.lists.specs.First.{is_some}
use Rattle.refusal.specs.Limits.{unwired}
use Rattle.refusal.specs.Checks.{Pass}
use Rattle.image.specs.View.{View, count_in, groups_in, start_in, end_in, slot_line_in, faulty, candidate_in}
use Rattle.image.specs.Holds.{HoldsTag}
use Rattle.image.specs.Checking.{opening_checks, group_of_slot}
use Rattle.image.specs.LinesRead.{own_group}

-- The lines are well formed and no group is faulty; no slot holds 0, each that holds a tag is one of the tag's two in its group, and
-- no two hold one tag.
pub record Holding (v : View) : Type 0 where
  pub opens : Pass (opening_checks v)
  pub group_lines : (g : ℕ) → g < groups_in v → is_some (v.group_at (suc g)) ≡ true
  pub slot-lines : (j : ℕ) → j < count_in v → is_some (v.slot_at (slot_line_in v j)) ≡ true
  pub not-faulty : (g : ℕ) → g < groups_in v → faulty g (start_in v g) (end_in v g) ≡ false
  pub wired : (j : ℕ) → HoldsTag v j unwired → ⊥
  pub placed : (j t : ℕ) → HoldsTag v j t
      → (own_group v t ≡ group_of_slot v j) × ((j ≡ candidate_in v (group_of_slot v j) 0 t) ⊎ (j ≡ candidate_in v (group_of_slot v j) 1 t))
  pub once : (i j t : ℕ) → HoldsTag v i t → HoldsTag v j t → i ≡ j
