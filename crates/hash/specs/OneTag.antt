-- The operation "place of one tag". Assumes nothing.
use Rattle.std.specs.Prelude.{ℕ, List, [], ◌∷◌, ltb}
use Rattle.refusal.specs.Limits.{group_max, seed_max, outside}
use Rattle.refusal.specs.Outcome.{Outcome, answered}
use Rattle.refusal.specs.Checks.{Check, met, in_order}
use Rattle.hash.specs.Formula.{place_of}

-- "Refusal 1: n is not 1 to [32]. 2: seed above 65,535. 3: choice above 1."
unfoldable pub one_tag_checks : ℕ → ℕ → ℕ → List Check
one_tag_checks n s c =
    (1, met (outside 1 group_max n))
    ∷ (2, met (ltb seed_max s))
    ∷ (3, met (ltb 1 c))
    ∷ []

-- "Otherwise the place."
unfoldable pub place_of_one_tag : ℕ → ℕ → ℕ → ℕ → Outcome ℕ
place_of_one_tag n s c t = in_order (one_tag_checks n s c) (answered (place_of n s c t))
