-- The tags of a group, and where the group starts. Assumes nothing.
use Rattle.std.specs.Prelude.{ℕ, Bool, cond, List, [], ◌∷◌, eqb, ltb, length}
use Rattle.hash.specs.Formula.{group_of}

-- The tags that pass a test, in their order.
unfoldable pub select : (ℕ → Bool) → List ℕ → List ℕ
select test [] = []
select test (t ∷ ts) = cond (test t) (t ∷ select test ts) (select test ts)

-- The tags of group g, lowest first in an ascending list. Any of the groups may be empty.
unfoldable pub members : ℕ → ℕ → List ℕ → List ℕ
members groups g tags = select (λ t. eqb (group_of groups t) g) tags

-- "The start of a group is the number of tags in lower groups."
unfoldable pub start_of : ℕ → ℕ → List ℕ → ℕ
start_of groups g tags = length (select (λ t. ltb (group_of groups t) g) tags)
