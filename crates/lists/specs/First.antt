-- The lowest index at which a test holds. Assumes nothing.
use Rattle.std.specs.Prelude.{ℕ, zero, suc, Bool, true, false, Option, None, Some}
use Rattle.std.specs.Option.{option_or}

-- A condition that names a place: the place where it is met, or none.
unfoldable pub met_at : ℕ → Bool → Option ℕ
met_at place true = Some place
met_at place false = None

-- The lowest index below the limit at which the test holds: the lowest group, the first line, the least seed.
unfoldable pub first : (ℕ → Bool) → ℕ → Option ℕ
first test zero = None
first test (suc limit) = option_or (first test limit) (met_at limit (test limit))

-- Is there one?
unfoldable pub is_some : {A : Type 0} → Option A → Bool
is_some None = false
is_some (Some a) = true
