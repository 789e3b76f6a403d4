-- The lines that a lookup comes to read. Assumes nothing.
use Rattle.std.specs.Prelude.{◌≡◌, true, ℕ, suc, ◌<◌, Some}
use Rattle.refusal.specs.Limits.{unwired}
use Rattle.lists.specs.First.{is_some}
use Rattle.refusal.specs.Checks.{Pass}
use Rattle.hash.specs.Formula.{group_of}
use Rattle.image.specs.View.{View, groups_in, start_in, end_in, slot_line_in, candidate_in}
use Rattle.image.specs.Checking.{opening_checks}
use Rattle.image.specs.Lookup.{lookup_checks}

-- The tag's group, and its slot under a choice.
abbrev pub own_group : View → ℕ → ℕ
own_group v t = group_of (groups_in v) t

abbrev pub own_slot : View → ℕ → ℕ → ℕ
own_slot v c t = candidate_in v (own_group v t) c t

-- "line 0, those two group lines, those two slot lines": what is said of a line holds of each that lookup comes to read, and of a
-- line that it does not come to read nothing is said. Line 0; and for a tag that is not 0, the tag's group line where the image
-- opens; the next group's line where there is one and the first is well formed; the first slot where no check refuses and the group
-- is not empty; the second where the first is well formed and holds another tag. For tag 0 it is line 0 alone.
pub record LinesRead (v : View) (t : ℕ) (Said : ℕ → Type 0) : Type 0 where
  pub header : Said 0
  pub own : (t ≡ unwired → ⊥) → Pass (opening_checks v) → Said (suc (own_group v t))
  pub next : (t ≡ unwired → ⊥) → Pass (opening_checks v) → is_some (v.group_at (suc (own_group v t))) ≡ true
      → suc (own_group v t) < groups_in v → Said (suc (suc (own_group v t)))
  pub first_slot : (t ≡ unwired → ⊥) → Pass (lookup_checks v (own_group v t))
      → (start_in v (own_group v t) ≡ end_in v (own_group v t) → ⊥) → Said (slot_line_in v (own_slot v 0 t))
  pub second-slot : (t ≡ unwired → ⊥) → Pass (lookup_checks v (own_group v t))
      → (start_in v (own_group v t) ≡ end_in v (own_group v t) → ⊥)
      → (u : ℕ) → v.slot_at (slot_line_in v (own_slot v 0 t)) ≡ Some u → (u ≡ t → ⊥)
      → Said (slot_line_in v (own_slot v 1 t))
