-- Laws of figures: their length, and where the digits stand. Assumes nothing.
use Rattle.std.specs.Prelude.{◌≡◌, ℕ, zero, suc, ◌+◌, ◌-◌, ◌/◌, ◌%◌, ◌^◌, ◌<◌, Bool, true, false, cond, not, length, ◌==◌, nat_le, nat_lt}
use Rattle.std.specs.Prelude.{refl}
use Rattle.std.proofs.Common.{arith, length-append, eq-eqb, eqb-true, ne_eqb, le-leb, ltb-true, ltb-false}
use Rattle.std.proofs.Math.Nat.{pow-succ', one-le-pow, div-div-eq-div-mul, div-eq_of_lt, div-eq-sub-div}
use Rattle.std.proofs.lemmas.Bool.{lt-leb}
use Rattle.digits.specs.Digits.{digits_from}
use Rattle.digits.specs.Width.{width_of}
use Rattle.digits.proofs.WidthLaws.{width_is, width-within, width-beyond}
use Rattle.text.specs.Figure.{leading, figure}

-- As many columns as asked for, whatever the number.
pub leading_length : (w n : ℕ) → length (leading w n) ≡ w
unfolding leading
leading_length zero n = refl
leading_length (suc w) n = simp (length-append, leading_length w (n / 10)) (omega arith)

pub figure-length : (w n : ℕ) → length (figure w n) ≡ w
unfolding figure
figure-length zero n = refl
figure-length (suc w) n = simp (length-append, leading_length w (n / 10)) (omega arith)

-- A tenth, without the last e digits.
tenth : (n e : ℕ) → n / 10 / 10 ^ e ≡ n / 10 ^ suc e
tenth n e = rw pow-succ' (div-div-eq-div-mul n 10 (10 ^ e))

-- Leading columns are digits from column `first` on, where that is the first at which something of n is left.
leading-from : (first w n : ℕ) → ((e : ℕ) → e < w → (n / 10 ^ e == 0) ≡ not (nat_le first (w - suc e)))
    → leading w n ≡ digits_from first w n
unfolding leading digits_from
leading-from first zero n h = refl
leading-from first (suc w) n h =
    let last : suc w - 1 ≡ w = omega arith in
    let whole : n / 1 ≡ n = omega arith in
    rw (leading-from first w (n / 10) further, column (nat_le first w) (rw (last, whole) at (h 0 (omega arith))))
  where
    column : (b : Bool) → (n == 0) ≡ not b → cond (n == 0) 32 (48 + n % 10) ≡ cond b 48 32 + n % 10
    column true e = rw e
    column false e = let none = eqb-true n 0 e in rw e (omega arith)

    further : (e : ℕ) → e < w → (n / 10 / 10 ^ e == 0) ≡ not (nat_le first (w - suc e))
    further e lt =
        let same : suc w - suc (suc e) ≡ w - suc e = omega arith in
        rw tenth (rw same at (h (suc e) (omega arith)))

-- A figure is digits from the column on that the number's width leaves for the first.
pub figure-from : (w n : ℕ) → figure w n ≡ digits_from (w - width_of n) w n
unfolding figure digits_from
figure-from zero n = refl
figure-from (suc w) n =
    rw (
      leading-from (suc w - width_of n) w (n / 10) (λ e lt. rw tenth (left e lt (nat_lt (suc e) (width_of n)) refl)),
      le-leb (suc w - width_of n) w (omega (arith, (width_is n).one)),
    )
  where
    left : (e : ℕ) → e < w → (b : Bool) → nat_lt (suc e) (width_of n) ≡ b
        → (n / 10 ^ suc e == 0) ≡ not (nat_le (suc w - width_of n) (w - suc e))
    left e lt true t =
        let over = width-beyond n (suc e) (omega arith) (ltb-true (suc e) (width_of n) t) in
        let some = div-eq-sub-div {m = 10 ^ suc e} {n = n} (one-le-pow (suc e) 10 (omega arith)) over in
        rw (
          ne_eqb (n / 10 ^ suc e) 0 (λ z. omega (arith, some)),
          le-leb (suc w - width_of n) (w - suc e) (omega (arith, ltb-true (suc e) (width_of n) t)),
        )
    left e lt false t =
        let none : n / 10 ^ suc e ≡ 0 = div-eq_of_lt (width-within n (suc e) (ltb-false (suc e) (width_of n) t)) in
        rw (
          eq-eqb (n / 10 ^ suc e) 0 none,
          lt-leb (suc w - width_of n) (w - suc e) (omega (arith, ltb-false (suc e) (width_of n) t)),
        )
