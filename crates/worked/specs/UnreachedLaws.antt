-- "place 1 is never reached": why no seed serves the tags of worked value 6, which the early drop of a seed rests on. Assumes nothing.
use Rattle.std.specs.Prelude.{◌≡◌, refl, Bool, true, false, List, ◌⊎◌, ℕ, zero, suc, ◌+◌, ◌*◌, ◌/◌, ◌%◌, ◌<◌, eqb, get_or, None}
use Rattle.std.proofs.Common.{inl, inr, eqb-true}
use native.Mathlib.Omega.{arith}
use Rattle.std.proofs.lemmas.Bool.{eqb-false}
use Rattle.hash.specs.Formula.{product, high_part, hashed, multiplier, place_of}
use Rattle.hash.proofs.FormulaLaws.{multiplier-odd, place-below}
use Rattle.filling.specs.Filling.{Fills}
use Rattle.filling.proofs.FillingLaws.{unreached}
use Rattle.group.specs.Group.{group_under, least_seed}
use Rattle.group.proofs.GroupLaws.{candidates-length, each-candidate, least_seed-out}
use Rattle.worked.specs.Table.{unreachable}

-- The products of an odd number with a quarter and three quarters of 2^32 are these two, in one order or the other, as the
-- odd number is 1 or 3 more than a multiple of 4.
quarters-one : (q : ℕ) → (product (4 * q + 1) 1073741824 ≡ 1073741824) × (product (4 * q + 1) 3221225472 ≡ 3221225472)
unfolding product
quarters-one q = (omega arith, omega arith)

quarters-three : (q : ℕ) → (product (4 * q + 3) 1073741824 ≡ 3221225472) × (product (4 * q + 3) 3221225472 ≡ 1073741824)
unfolding product
quarters-three q = (omega arith, omega arith)

odd-cases : (a : ℕ) → a % 2 ≡ 1 → (a ≡ 4 * (a / 4) + 1) ⊎ (a ≡ 4 * (a / 4) + 3)
odd-cases a odd = go (eqb (a % 4) 1) refl
  where
    go : (b : Bool) → eqb (a % 4) 1 ≡ b → (a ≡ 4 * (a / 4) + 1) ⊎ (a ≡ 4 * (a / 4) + 3)
    go true e = inl (omega (arith, eqb-true (a % 4) 1 e))
    go false e = let n : a % 4 ≡ 1 → ⊥ = eqb-false (a % 4) 1 e in inr (omega (arith, n))

-- So none of the tags has place 1 under an odd multiplier, and every multiplier is odd.
never-one : (a q i : ℕ) → (a ≡ 4 * q + 1) ⊎ (a ≡ 4 * q + 3) → i < 3 → hashed a 3 (get_or unreachable i 0) ≡ 1 → ⊥
unfolding hashed high_part
never-one a q zero o lt e = let none_left : product a 0 ≡ 0 = unfold product in omega arith in omega (arith, rw none_left at e)
never-one a q (suc zero) (inl o) lt e = omega (arith, rw (o, (quarters-one q).0) at e)
never-one a q (suc zero) (inr o) lt e = omega (arith, rw (o, (quarters-three q).0) at e)
never-one a q (suc (suc zero)) (inl o) lt e = omega (arith, rw (o, (quarters-one q).1) at e)
never-one a q (suc (suc zero)) (inr o) lt e = omega (arith, rw (o, (quarters-three q).1) at e)
never-one a q (suc (suc (suc i))) o lt e = omega arith

pub place-never-one : (s i c : ℕ) → i < 3 → place_of 3 s c (get_or unreachable i 0) ≡ 1 → ⊥
unfolding place_of
place-never-one s i c lt e =
    let a = multiplier s c in never-one a (a / 4) i (odd-cases a (multiplier-odd s c)) lt e

-- So every seed leaves place 1 untouched and can be dropped early: no seed serves the group, whatever the limit.
pub unreachable-none : (limit : ℕ) → least_seed unreachable limit ≡ None
unreachable-none limit = least_seed-out unreachable limit (λ s below. none-fills s)
  where
    none-fills : (s : ℕ) (cs : List Bool) → Fills (group_under unreachable s) cs → ⊥
    none-fills s cs f =
        unreached 3 (group_under unreachable s) cs f (candidates-length 3 s unreachable)
        (each-candidate (λ x. x < 3) 3 s unreachable (λ i c lt. place-below 3 s c (get_or unreachable i 0) (omega arith)))
        1
        (omega arith)
        (each-candidate (λ x. x ≡ 1 → ⊥) 3 s unreachable (place-never-one s))
