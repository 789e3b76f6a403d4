-- What the loops of `equations::least_word` keep true. Assumes nothing.
use Prim.Native.Nat.{ℕ, ◌≤◌}
use mathlib.Core.Path.{◌≡◌}
use mathlib.Core.List.{List}
use lib.ListN.{get_or, take}
use Rattle.places.specs.Array.{keys_of}
use Rattle.equations.proofs.SystemLaws.{System}
use Rattle.equations.proofs.least_word.Given as goal

-- The table says the equations of the first places, and none of them is the constant alone.
pub record TableAfter (n : ℕ) (places rows table : List ℕ) (place : ℕ) : Type 0 where
  pub upto : place ≤ n
  pub system : System 32 (keys_of n places) (take n rows) place table
  pub free : get_or table 32 0 ≡ 0

abbrev pub invariant-loop-equation : goal.invariant-loop-equation
invariant-loop-equation l = TableAfter l.n l.places l.rows l.table l.equation-index
