-- What the search for a seed leaves in the cells that it is lent. Assumes nothing.
use Rattle.std.specs.Prelude.{ℕ, zero, suc, List, Option, None, Some}
use Rattle.group.specs.Group.{group_under}
use Rattle.places.specs.Array.{laid_into}

-- How many seeds the search tries: those up to the one found, or all below the limit.
unfoldable pub tried : Option ℕ → ℕ → ℕ
tried None limit = limit
tried (Some seed) limit = suc seed

-- The cells after so many seeds: the candidate places under each in turn, laid over those under the seed before.
unfoldable pub laid_after : List ℕ → ℕ → List ℕ → List ℕ
laid_after tags zero before = before
laid_after tags (suc seed) before = laid_into (group_under tags seed) (laid_after tags seed before)
