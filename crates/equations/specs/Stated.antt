-- Keys with rows in two arrays. Assumes nothing.
use Rattle.std.specs.Prelude.{ℕ, ◌*◌, ◌≤◌, ◌<◌, ◌≡◌, Bool, List, length, get_or}
use Rattle.refusal.specs.Limits.{group_max, tag_end}
use Rattle.places.specs.Array.{entry_of}

-- An array of candidate places and one of rows that state n keys on n places, each with a row of 32 bits. The cells behind are not read.
pub record Stated (n : ℕ) (places rows : List ℕ) : Type 0 where
  pub few : n ≤ group_max
  pub size : length places ≡ 2 * group_max
  pub below : (i : ℕ) → i < n → (choice : Bool) → entry_of places i choice < n
  pub cells : length rows ≡ group_max
  pub fits : (i : ℕ) → i < n → get_or rows i 0 < tag_end
