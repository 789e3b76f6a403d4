-- The occupancy word. Assumes nothing.
use Rattle.std.specs.Prelude.{ℕ, List, [], ◌∷◌}
use Rattle.bits.specs.Bit.{set_bit}
use Rattle.filling.specs.Filling.{Key}
use Rattle.filling.specs.Touched.{candidate_places}

-- The word in which just the bits of the list are set, each once however often it stands there. No places: 0.
unfoldable pub occupancy : List ℕ → ℕ
occupancy [] = 0
occupancy (place ∷ places) = set_bit (occupancy places) place

-- The occupancy word of keys: the bits of their candidate places.
unfoldable pub occupancy_of : List Key → ℕ
occupancy_of keys = occupancy (candidate_places keys)
