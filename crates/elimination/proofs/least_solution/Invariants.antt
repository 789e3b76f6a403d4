-- What the loops of `elimination::least_solution` keep true. Assumes nothing.
use Prim.Native.Nat.{ℕ, ◌≤◌}
use mathlib.Core.List.{List}
use Rattle.elimination.specs.Table.{Settled}
use Rattle.elimination.proofs.least_solution.Given as goal

-- The bits from `bit` on are settled.
pub record SettledFrom (table : List ℕ) (word bit : ℕ) : Type 0 where
  pub upto : bit ≤ 32
  pub settled : Settled 32 table bit word

abbrev pub invariant-loop-bit : goal.invariant-loop-bit
invariant-loop-bit l = SettledFrom l.table l.word l.bit
