-- The lines that a lookup in an index without tags comes to read. Assumes nothing.
use Rattle.std.specs.Prelude.{◌≡◌, true, ℕ, suc, ◌<◌}
use Rattle.refusal.specs.Limits.{unwired}
use Rattle.lists.specs.First.{is_some}
use Rattle.refusal.specs.Checks.{Pass}
use Rattle.image.specs.View.{View, groups_in}
use Rattle.image.specs.LinesRead.{own_group}
use Rattle.tagless_image.specs.Checking.{tagless_opening}

-- "the length, line 0, the two group lines and the tag": what is said of a group's line holds of each that lookup comes to read. For a
-- tag that is not 0, its own group's line where the image opens, and the next group's where there is one and the first is well formed.
pub record GroupLinesRead (v : View) (t : ℕ) (Said : ℕ → Type 0) : Type 0 where
  pub own : (t ≡ unwired → ⊥) → Pass (tagless_opening v) → Said (own_group v t)
  pub next : (t ≡ unwired → ⊥) → Pass (tagless_opening v) → is_some (v.group_at (suc (own_group v t))) ≡ true
      → suc (own_group v t) < groups_in v → Said (suc (own_group v t))
