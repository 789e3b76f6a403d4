-- A field reads as n exactly where its bytes are n's figure and n fits its columns. Assumes nothing.
use Rattle.std.specs.Prelude.{◌≡◌, ℕ, zero, suc, ◌+◌, ◌-◌, ◌*◌, ◌/◌, ◌%◌, ◌^◌, ◌<◌, Bool, true, false, cond, ◌↔◌, List, [], ◌∷◌, ◌++◌}
use Rattle.std.specs.Prelude.{length, ◌==◌, ◌≢◌, refl, None, Some}
use Rattle.std.proofs.Common.{◌∙◌, ap, arith, pow-suc, eq-eqb, eqb-true}
use Rattle.std.proofs.lemmas.Bool.{false≢true}
use Rattle.std.proofs.lemmas.Option.{none-some}
use Rattle.lists.proofs.BoolLaws.{some-of-cond}
use Rattle.lists.proofs.FirstLaws.{none-of-never}
use Rattle.text.specs.Figure.{leading, figure}
use Rattle.text.proofs.FigureLaws.{figure-length}
use Rattle.text.specs.Field.{value_from, same, field}

-- The test `same` is equality.
pub same_refl : (xs : List ℕ) → same xs xs ≡ true
unfolding same
same_refl [] = refl
same_refl (x ∷ xs) = rw (eq-eqb x x refl, same_refl xs)

pub same_true : (xs ys : List ℕ) → same xs ys ≡ true → xs ≡ ys
unfolding same
same_true [] [] e = refl
same_true [] (y ∷ ys) e = absurd (false≢true e)
same_true (x ∷ xs) [] e = absurd (false≢true e)
same_true (x ∷ xs) (y ∷ ys) e = go (x == y) (same_true xs ys) refl
  where
    go : (b : Bool) → (same xs ys ≡ true → xs ≡ ys) → (x == y) ≡ b → x ∷ xs ≡ y ∷ ys
    go true rest f = rw (eqb-true x y f, rest (rw f at e))
    go false rest f = absurd (false≢true (rw f at e))

-- A column more to the right.
value-append : (v : ℕ) (xs : List ℕ) (b : ℕ) → value_from v (xs ++ (b ∷ [])) ≡ value_from v xs * 10 + (b - 48)
unfolding value_from
value-append v [] b = refl
value-append v (x ∷ xs) b = value-append (v * 10 + (x - 48)) xs b

-- The byte of a leading column, as a digit: a space counts for nothing.
column-value : (n : ℕ) → cond (n == 0) 32 (48 + n % 10) - 48 ≡ n % 10
column-value n = go (n == 0) refl
  where
    go : (b : Bool) → (n == 0) ≡ b → cond (n == 0) 32 (48 + n % 10) - 48 ≡ n % 10
    go true e = rw e (omega (arith, eqb-true n 0 e))
    go false e = rw e (omega arith)

leading-value : (w n : ℕ) → n < 10 ^ w → value_from 0 (leading w n) ≡ n
unfolding leading value_from
leading-value zero n h = omega arith
leading-value (suc w) n h =
    let l : n / 10 < 10 ^ w = omega (arith, pow-suc 10 w) in
    rw (value-append, leading-value w (n / 10) l, column-value n) (omega arith)

-- The value of n's figure is n.
pub figure-value : (w n : ℕ) → n < 10 ^ w → value_from 0 (figure w n) ≡ n
unfolding figure value_from
figure-value zero n h = omega arith
figure-value (suc w) n h =
    let l : n / 10 < 10 ^ w = omega (arith, pow-suc 10 w) in
    rw (value-append, leading-value w (n / 10) l) (omega arith)

-- The value of any figure fits its columns.
leading-below : (w n : ℕ) → value_from 0 (leading w n) < 10 ^ w
unfolding leading value_from
leading-below zero n = omega arith
leading-below (suc w) n =
    rw (value-append, column-value n) (omega (arith, pow-suc 10 w, leading-below w (n / 10)))

figure-below : (w n : ℕ) → value_from 0 (figure w n) < 10 ^ w
unfolding figure value_from
figure-below zero n = omega arith
figure-below (suc w) n = rw value-append (omega (arith, pow-suc 10 w, leading-below w (n / 10)))

-- The two directions.
pub field-figure : (w n : ℕ) → 0 < w → n < 10 ^ w → field w (figure w n) ≡ Some n
unfolding field
field-figure zero n p h = absurd (omega arith)
field-figure (suc w) n p h = rw (figure-value (suc w) n h, same_refl)

pub field-only : (w n : ℕ) (bs : List ℕ) → field w bs ≡ Some n → (bs ≡ figure w n) × (n < 10 ^ w)
unfolding field
field-only zero n bs e = absurd (none-some n e)
field-only (suc w) n bs e =
    let (f, g) = some-of-cond (same bs (figure (suc w) (value_from 0 bs))) _ e in
    let v : value_from 0 bs ≡ n = cc in
    let i : bs ≡ figure (suc w) n = rw v at (same_true bs (figure (suc w) (value_from 0 bs)) f) in
    (i, rw (← i, v) at (figure-below (suc w) n))

pub field_is : (w n : ℕ) (bs : List ℕ) → 0 < w → (field w bs ≡ Some n) ↔ ((bs ≡ figure w n) × (n < 10 ^ w))
field_is w n bs p = (field-only w n bs, λ h. rw h.0 (field-figure w n p h.1))

-- Where it is no figure it is none.
pub field-none : (w : ℕ) (bs : List ℕ) → ((n : ℕ) → n < 10 ^ w → bs ≢ figure w n) → field w bs ≡ None
field-none w bs never = none-of-never (field w bs) (λ n e. let h = field-only w n bs e in never n h.1 h.0)

-- So of bytes that are not as many as its columns.
pub field-other-length : (w : ℕ) (bs : List ℕ) → (length bs ≢ w) → field w bs ≡ None
field-other-length w bs other = field-none w bs (λ n h e. other (ap length e ∙ figure-length w n))

-- A field without columns is none, whatever is there.
pub field-blank : (bs : List ℕ) → field 0 bs ≡ None
unfolding field
field-blank bs = refl

-- A figure is of one number.
pub figure-unique : (w m n : ℕ) → m < 10 ^ w → n < 10 ^ w → figure w m ≡ figure w n → m ≡ n
figure-unique w m n h l e = cc (figure-value w m h, figure-value w n l)
