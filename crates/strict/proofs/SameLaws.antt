-- Lists are the same exactly where they are equal. Assumes nothing.
use Rattle.std.specs.Prelude.{ℕ, ◌<◌, ◌≡◌, refl, true, false, List, [], ◌∷◌, eqb, length, get_or}
use Rattle.std.proofs.Common.{sym, ap, true≢false, ext_get_or, eqb-true, eq-eqb}
use Rattle.std.proofs.Math.Bool.{not-eq-not}
use Rattle.lists.proofs.BoolLaws.{both-of-and}
use Rattle.strict.specs.Same.{same}

pub equal-of-same : (xs ys : List ℕ) → same xs ys ≡ true → xs ≡ ys
unfolding same
equal-of-same [] [] e = refl
equal-of-same [] (y ∷ ys) e = absurd (true≢false (sym e))
equal-of-same (x ∷ xs) [] e = absurd (true≢false (sym e))
equal-of-same (x ∷ xs) (y ∷ ys) e =
    let (here, rest) = both-of-and (eqb x y) (same xs ys) e in
    rw (eqb-true x y here, equal-of-same xs ys rest)

-- Lists of which one is longer, or that differ at an index, are not the same;
pub same_not : (xs ys : List ℕ) → (xs ≡ ys → ⊥) → same xs ys ≡ false
same_not xs ys differ = not-eq-not.0 (λ e. differ (equal-of-same xs ys e))

pub same-longer : (xs ys : List ℕ) → (length xs ≡ length ys → ⊥) → same xs ys ≡ false
same-longer xs ys longer = same_not xs ys (λ e. longer (ap length e))

pub same-differ : (xs ys : List ℕ) (i : ℕ) → (get_or xs i 0 ≡ get_or ys i 0 → ⊥) → same xs ys ≡ false
same-differ xs ys i differ = same_not xs ys (λ e. differ (ap (λ (zs : List ℕ). get_or zs i 0) e))

-- and every list is the same as itself, so those that are alike at each index are.
same_self : (xs : List ℕ) → same xs xs ≡ true
unfolding same
same_self [] = refl
same_self (x ∷ xs) = rw (eq-eqb x x refl) (same_self xs)

pub same-equal : (xs ys : List ℕ) → xs ≡ ys → same xs ys ≡ true
same-equal xs ys e = rw e (same_self ys)

pub same-each : (xs ys : List ℕ) → length xs ≡ length ys → ((i : ℕ) → i < length xs → get_or xs i 0 ≡ get_or ys i 0) → same xs ys ≡ true
same-each xs ys long each = same-equal xs ys (ext_get_or 0 xs ys long each)
