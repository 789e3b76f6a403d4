-- The operation "counting parts", the second test of a seed. Document 02, §8. Assumes nothing.
use Rattle.std.specs.Prelude.{ℕ, List, [], ◌∷◌, ltb, length}
use Rattle.refusal.specs.Limits.{group_max, seed_max}
use Rattle.refusal.specs.Outcome.{Outcome, answered}
use Rattle.refusal.specs.Checks.{Check, met, in_order}
use Rattle.group.specs.Group.{group_under}
use Rattle.group.specs.Ascending.{ascending_check}
use Rattle.group.specs.Unwired.{unwired_check}
use Rattle.graph.specs.Parts.{Parts, parts_of}

-- "It takes a group and a seed, refuses with 2, 5, 6 and 17 in that order": a seed above 65,535, more than 32 tags, not strictly
-- ascending, the first tag is 0.
unfoldable pub counting_checks : List ℕ → ℕ → List Check
counting_checks tags s =
    (2, met (ltb seed_max s))
    ∷ (5, met (ltb group_max (length tags)))
    ∷ ascending_check tags
    ∷ unwired_check tags
    ∷ []

-- "and otherwise says whether the seed serves and how many parts there are": the group's places are the points, all n of them, and its
-- tags the edges.
unfoldable pub counting_of : List ℕ → ℕ → Outcome Parts
counting_of tags s = in_order (counting_checks tags s) (answered (parts_of (length tags) (group_under tags s)))
