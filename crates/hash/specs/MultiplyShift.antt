-- Odd-multiply-shift hashing, as document 000 defines it. No promise needs it: FormulaLaws says where the formulas agree with it.
-- Assumes nothing.
use Rattle.std.specs.Prelude.{ℕ, ◌*◌, ◌-◌, ◌/◌, ◌%◌, ◌^◌}

-- Document 000, definition 5: "h(x) = (ax mod 2^u) div 2^(u-s)", for odd a; u = 32 here, and s is the table's size in bits.
unfoldable pub multiply_shift : ℕ → ℕ → ℕ → ℕ
multiply_shift a bits x = a * x % 2 ^ 32 / 2 ^ (32 - bits)
