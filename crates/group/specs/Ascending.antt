-- The checks that a list of tags has to pass, shared by the operations that take one. Assumes nothing.
use Rattle.std.specs.Prelude.{ℕ, zero, suc, ◌<◌, Bool, false, List, leb, length, get_or}
use Rattle.refusal.specs.Limits.{limit_max, outside}
use Rattle.lists.specs.First.{first}
use Rattle.refusal.specs.Checks.{Check, met}

-- "4: L not 1 to 65,536."
abbrev pub limit_check : ℕ → Check
limit_check limit = (4, met (outside 1 limit_max limit))

-- The tag with this index is not above the one before; the first tag has none before it.
unfoldable pub not_above : List ℕ → ℕ → Bool
not_above tags zero = false
not_above tags (suc i) = leb (get_or tags (suc i) 0) (get_or tags i 0)

-- "6: not strictly ascending, at the first index whose tag is not above the one before."
abbrev pub ascending_check : List ℕ → Check
ascending_check tags = (6, first (not_above tags) (length tags))

-- "strictly ascending"
abbrev pub Ascending : List ℕ → Type 0
Ascending tags = (i : ℕ) → suc i < length tags → get_or tags i 0 < get_or tags (suc i) 0
