-- How many columns a number takes. Assumes nothing.
use Rattle.std.specs.Prelude.{ℕ, ◌+◌, ◌^◌, Bool, ◌&&◌, leb, ltb, unwrap_or}
use Rattle.lists.specs.First.{first}

-- "1 at least", and "the number is below 10 to the power of that width".
unfoldable pub fits : ℕ → ℕ → Bool
fits n width = leb 1 width && ltb n (10 ^ width)

-- "the least width, 1 at least, for which the number is below 10 to the power of that width". WidthLaws says it without the search;
-- n + 1 columns hold n, so the search always finds one.
unfoldable pub width_of : ℕ → ℕ
width_of n = unwrap_or (first (fits n) (n + 2)) 0
