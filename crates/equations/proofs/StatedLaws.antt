-- The keys and rows that two arrays state are n keys on n places with rows of 32 bits. Assumes nothing.
use Rattle.std.specs.Prelude.{ℕ, ◌≤◌, ◌<◌, ◌≡◌, refl, Bool, true, false, List, ltb, length, get_or, take}
use Rattle.std.proofs.Common.{sym, ◌∙◌, arith, length-take-le, get_or-take, ltb-true, ltb-false}
use Rattle.std.proofs.Math.ListN.{get_or-eq_default}
use Rattle.refusal.specs.Limits.{tag_end}
use Rattle.places.specs.Array.{keys_of}
use Rattle.places.proofs.ArrayLaws.{keys_of-length, keys_of-place}
use Rattle.equations.proofs.EquationLaws.{Rows}
use Rattle.equations.specs.Stated.{Stated}

module _ {n : ℕ} {places rows : List ℕ} (stated : Stated n places rows) where
  rows-length : length (take n rows) ≡ n
  rows-length = length-take-le n rows (omega (arith, stated.few, stated.cells))

  pub stated-rows : Rows 32 (keys_of n places) (take n rows)
  stated-rows = record {
    each = rows-length ∙ sym (keys_of-length n places);
    fits = λ i. fits i (ltb i n) refl;
    below = λ i lt choice.
        let inside : i < n = omega (arith, keys_of-length n places) in
        rw (keys_of-place n places i inside choice, keys_of-length n places) (stated.below i inside choice);
  }
    where
      fits : (i : ℕ) (b : Bool) → ltb i n ≡ b → get_or (take n rows) i 0 < tag_end
      fits i true e = rw (get_or-take n rows i 0 (ltb-true i n e)) (stated.fits i (ltb-true i n e))
      fits i false e =
          let past : length (take n rows) ≤ i = omega (arith, rows-length, ltb-false i n e) in
          rw (get_or-eq_default (take n rows) 0 past) (omega arith)
