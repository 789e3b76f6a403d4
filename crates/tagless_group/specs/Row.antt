-- The row of a tag in an index without tags: document 02, §5. Assumes nothing.
use Rattle.std.specs.Prelude.{ℕ, ◌+◌, ◌*◌}
use Rattle.hash.specs.Formula.{K, product}

-- "the row is ((2s + 1) × K mod 2^32) × t mod 2^32 for seed s"
unfoldable pub row_of : ℕ → ℕ → ℕ
row_of s t = product (product (2 * s + 1) K) t
