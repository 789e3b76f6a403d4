-- The definitions at their edges: by computation, and by the law of widths where the search has too many to try. Assumes nothing.
use Rattle.std.specs.Prelude.{◌≡◌, refl, [], ◌∷◌}
use Rattle.std.proofs.Common.{sym, arith}
use Rattle.lists.specs.First.{met_at, first}
use Rattle.digits.specs.Digits.{digits_from}
use Rattle.digits.specs.Width.{fits, width_of}
use Rattle.digits.proofs.WidthLaws.{width-case}

zero-takes-one : width_of 0 ≡ 1
unfolding width_of first met_at fits
zero-takes-one = refl

nine-takes-one : width_of 9 ≡ 1
unfolding width_of first met_at fits
nine-takes-one = refl

ten-takes-two : width_of 10 ≡ 2
unfolding width_of first met_at fits
ten-takes-two = refl

last-of-nine : width_of 999999999 ≡ 9
last-of-nine = sym (width-case 999999999 8 (λ h. omega arith) (omega arith))

first-of-ten : width_of 1000000000 ≡ 10
first-of-ten = sym (width-case 1000000000 9 (λ h. omega arith) (omega arith))

greatest-takes-ten : width_of 4294967295 ≡ 10
greatest-takes-ten = sym (width-case 4294967295 9 (λ h. omega arith) (omega arith))

seven-in-the-third : digits_from 2 3 7 ≡ 32 ∷ 32 ∷ 55 ∷ []
unfolding digits_from
seven-in-the-third = refl
