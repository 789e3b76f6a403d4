-- `strict_group::same` meets its contract: the library's equality of slices is the definition's. Assumes nothing.
use Rattle.std.specs.Prelude.{◌≡◌, refl, ℕ, List, [], ◌∷◌, ◌&&◌, nat_eq}
use Rattle.std.specs.Cmp.Lexicographic.{pointwise}
use Rattle.std.proofs.Common.{◌∙◌, ap}
use Rattle.strict.specs.Same.{same}
use Rattle.strict_group.proofs.same.Goals as goal

pointwise-same : (xs ys : List ℕ) → pointwise nat_eq xs ys ≡ same xs ys
unfolding same
pointwise-same [] [] = refl
pointwise-same [] (y ∷ ys) = refl
pointwise-same (x ∷ xs) [] = refl
pointwise-same (x ∷ xs) (y ∷ ys) = ap (λ b. nat_eq x y && b) (pointwise-same xs ys)

pub returns : goal.returns
returns c = record { answer = c.eq.ensures ∙ pointwise-same c.args.xs.now c.args.ys.now }
