-- The list text that states B, L and the tags. Assumes nothing.
use Rattle.std.specs.Prelude.{ℕ}
use mathlib.Core.List.{List, ◌∷◌, map, flatten}
use Rattle.text.specs.Line.{pair_line, tag_line}

-- "line 0 holds B and L …, and each later line one tag"
unfoldable pub text_of : ℕ → ℕ → List ℕ → List ℕ
text_of b l tags = flatten (pair_line b l ∷ map tag_line tags)
