-- What the loops of `elimination::insert` keep true. Assumes nothing.
use Prim.Native.Nat.{ℕ, ◌-◌}
use mathlib.Core.Path.{◌≡◌}
use mathlib.Core.List.{List}
use lib.Count.{count_trailing_zeros}
use Rattle.elimination.specs.Table.{Table, Reduced}
use Rattle.elimination.proofs.insert.Given as goal

-- The table is as it was, and what is left has the equation's solutions among the table's.
pub record Eliminated (before : List ℕ) (equation : ℕ) (table : List ℕ) (left : ℕ) : Type 0 where
  pub same : table ≡ before
  pub sound : Table 32 table
  pub reduced : Reduced 32 table equation left

abbrev pub invariant-loop-left : goal.invariant-loop-left
invariant-loop-left l = Eliminated l.initial.table l.equation l.table l.left

abbrev pub decreases-loop-left : goal.decreases-loop-left
decreases-loop-left l = 64 - count_trailing_zeros 64 l.left
