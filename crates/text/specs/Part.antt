-- A part of a text. Assumes nothing.
use Rattle.std.specs.Prelude.{ℕ, ◌+◌, cond, List, length, take, drop, nat_le, Option, None, Some}

-- So many bytes from a place on, where the text has them all.
unfoldable pub part : ℕ → ℕ → List ℕ → Option (List ℕ)
part at width bytes = cond (nat_le (at + width) (length bytes)) (Some (take width (drop at bytes))) None
