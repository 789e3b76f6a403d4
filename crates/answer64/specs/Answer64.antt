-- The 64-bit answer of an outcome, and how a caller takes it apart. Assumes nothing.
use Rattle.std.specs.Prelude.{ℕ, ◌+◌, ◌*◌, ◌/◌, ◌%◌, cond, ltb}
use Rattle.refusal.specs.Limits.{tag_end}
use Rattle.refusal.specs.Outcome.{Outcome, answered, refused}
use Rattle.image.specs.Lookup.{Found, number, unknown}

-- "Each call answers one 64-bit number: the length, the tag's number or 0 for an accepted check; 4,294,967,295 for unknown; and for
-- a refusal its number × 2^32 plus its place."
unfoldable pub answer64 : Outcome ℕ → ℕ
answer64 (answered n) = n
answer64 (refused reason place) = reason * tag_end + place

-- How a caller takes an answer apart, as the header says: below 2^32 it is what the call says; from 2^32 on it is a refusal.
unfoldable pub outcome64 : ℕ → Outcome ℕ
outcome64 r = cond (ltb r tag_end) (answered r) (refused (r / tag_end) (r % tag_end))

unfoldable pub found_number : Found → ℕ
found_number (number j) = j
found_number unknown = 4294967295
