-- What the loops of `checking::read_group_lines` keep true. Assumes nothing.
use mathlib.Core.List.{List}
use Prim.Native.Nat.{ℕ, ◌+◌}
use Rattle.lists.proofs.SearchLaws.{Searched}
use Rattle.image.specs.View.{view_of}
use Rattle.image.specs.Checking.{malformed_in}
use Rattle.checking.specs.Steps.{GroupsStored}
use Rattle.checking.proofs.read_group_lines.Given as goal

-- The loop has come to group g.
pub record Read (image : List ℕ) (count groups : ℕ) (starts seeds : List ℕ) (g : ℕ) : Type 0 where
  pub searched : Searched (malformed_in (view_of image)) 1 (1 + groups) (1 + g)
  pub stored : GroupsStored (view_of image) count groups (1 + g) starts seeds

abbrev pub invariant-loop-g : goal.invariant-loop-g
invariant-loop-g l = Read l.image l.count l.groups l.starts l.seeds l.g
