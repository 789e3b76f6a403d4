-- When two views state the same numbers. Assumes nothing.
use Rattle.std.specs.Prelude.{◌≡◌, ℕ, ◌<◌}
use Rattle.image.specs.View.{View, count_in, groups_in, start_in, seed_in, slot_in}

-- Two views state the same numbers.
pub record SameNumbers (v w : View) : Type 0 where
  pub count : count_in v ≡ count_in w
  pub groups : groups_in v ≡ groups_in w
  pub some-group : 0 < groups_in v
  pub starts : (g : ℕ) → g < groups_in v → start_in v g ≡ start_in w g
  pub seeds : (g : ℕ) → g < groups_in v → seed_in v g ≡ seed_in w g
  pub slots : (j : ℕ) → j < count_in v → slot_in v j ≡ slot_in w j
