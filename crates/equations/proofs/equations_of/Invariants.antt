-- What the loops of `equations::equations_of` keep true. Assumes nothing.
use Prim.Native.Nat.{ℕ, ◌≤◌, ◌<◌}
use mathlib.Core.Path.{◌≡◌}
use mathlib.Core.List.{List}
use lib.ListN.{length, get_or, take}
use Rattle.refusal.specs.Limits.{group_max}
use Rattle.places.specs.Array.{keys_of}
use Rattle.equations.specs.Equation.{equation_of}
use Rattle.equations.proofs.equations_of.Given as goal

-- The equation of place v with the first i keys.
abbrev pub partial : ℕ → List ℕ → List ℕ → ℕ → ℕ → ℕ
partial n places rows i v = equation_of 32 (take i (keys_of n places)) (take i (take n rows)) v

-- Each cell has the equation of its place with the first i keys.
pub record CellsAfter (n : ℕ) (places rows cells : List ℕ) (i : ℕ) : Type 0 where
  pub upto : i ≤ n
  pub size : length cells ≡ group_max
  pub equations : (v : ℕ) → v < group_max → get_or cells v 0 ≡ partial n places rows i v

abbrev pub invariant-loop-i : goal.invariant-loop-i
invariant-loop-i l = CellsAfter l.n l.places l.rows l.cells l.i
