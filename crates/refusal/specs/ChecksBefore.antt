-- The checks that stand before one with a given number. Assumes nothing.
use Rattle.std.specs.Prelude.{ℕ, List, [], ◌∷◌}
use Rattle.std.proofs.Math.Bool.{cond}
use Rattle.std.proofs.Math.Dec.{eqb}
use Rattle.refusal.specs.Checks.{Check}

-- The checks before the first with a number: all of them where there is no such check.
abbrev pub checks_before : ℕ → List Check → List Check
checks_before number [] = []
checks_before number (check ∷ checks) = cond (eqb check.0 number) [] (check ∷ checks_before number checks)
