-- The rows of a group's tags under a seed, and in an array. Assumes nothing.
use Rattle.std.specs.Prelude.{ℕ, List, ◌++◌, map, length, drop}
use Rattle.tagless_group.specs.Row.{row_of}

-- The rows of the tags under seed s, in the tags' order.
unfoldable pub rows_under : List ℕ → ℕ → List ℕ
rows_under tags s = map (row_of s) tags

-- An array with the rows laid into it from cell 0 on; the other cells are as before.
unfoldable pub rows_into : List ℕ → ℕ → List ℕ → List ℕ
rows_into tags s before = rows_under tags s ++ drop (length tags) before
