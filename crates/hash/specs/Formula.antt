-- The three formulas of document 01: group, multiplier and place. Assumes nothing.
use Rattle.std.specs.Prelude.{ℕ, ◌+◌, ◌*◌, ◌/◌, ◌%◌}
use Rattle.refusal.specs.Limits.{tag_end}

-- "Let G = 2,654,435,761 (hexadecimal 9E3779B1) and K = 2,246,822,507 (hexadecimal 85EBCA6B)."
abbrev pub G : ℕ
G = 2654435761

abbrev pub K : ℕ
K = 2246822507

-- "Products are taken modulo 2^32 where this paper says so; wrapping is intended there."
unfoldable pub product : ℕ → ℕ → ℕ
product a b = a * b % tag_end

-- The high part of a product: "floor(h × n / 2^32)". For h below 2^32 it is below n, where n is not 0.
unfoldable pub high_part : ℕ → ℕ → ℕ
high_part h n = h * n / tag_end

-- Tag t hashed by a multiplier to a range: "floor((a × t mod 2^32) × n / 2^32)". Groups and places are both of this form.
-- (The field's term: odd-multiply-shift, for any size of the table; document 000, definition 5.)
unfoldable pub hashed : ℕ → ℕ → ℕ → ℕ
hashed a n t = high_part (product a t) n

-- "Group of tag t: floor((K × t mod 2^32) × B / 2^32)." (The field's term: bucket.)
unfoldable pub group_of : ℕ → ℕ → ℕ
group_of groups t = hashed K groups t

-- "Multiplier for seed s and choice c (0 or 1): a = (4s + 2c + 1) × G mod 2^32, always odd."
unfoldable pub multiplier : ℕ → ℕ → ℕ
multiplier s c = product (4 * s + 2 * c + 1) G

-- "Place of tag t in a group of n tags: floor((a × t mod 2^32) × n / 2^32)." (The field's term: candidate position.)
unfoldable pub place_of : ℕ → ℕ → ℕ → ℕ → ℕ
place_of n s c t = hashed (multiplier s c) n t
