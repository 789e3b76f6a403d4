-- What the loops of `tagless_checking::read_lines` keep true. Assumes nothing.
use mathlib.Core.List.{List}
use Prim.Native.Nat.{ℕ, ◌+◌}
use Rattle.lists.proofs.SearchLaws.{Searched}
use Rattle.image.specs.Checking.{malformed_in}
use Rattle.tagless_image.specs.View.{tagless_view}
use Rattle.tagless_checking.specs.Steps.{StartsStored}
use Rattle.tagless_checking.proofs.read_lines.Given as goal

-- The loop has come to group g.
pub record Read (image : List ℕ) (count groups : ℕ) (starts : List ℕ) (g : ℕ) : Type 0 where
  pub searched : Searched (malformed_in (tagless_view image)) 1 (1 + groups) (1 + g)
  pub stored : StartsStored (tagless_view image) count groups (1 + g) starts

abbrev pub invariant-loop-g : goal.invariant-loop-g
invariant-loop-g l = Read l.image l.count l.groups l.starts l.g
