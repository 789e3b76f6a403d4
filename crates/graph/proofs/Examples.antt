-- Small graphs, by computation: walks both ways, a key with equal places, a point without edges, a part with more edges than points, and
-- the sequences that fill. Assumes nothing.
use Rattle.std.specs.Prelude.{◌≡◌, refl, true, false, [], ◌∷◌, ℕ, length}
use Rattle.lists.specs.UpTo.{up_to}
use Rattle.lists.specs.First.{first, met_at, is_some}
use Rattle.lists.specs.Occurs.{occurs, distinct}
use Rattle.filling.specs.Filling.{place_by, chosen}
use Rattle.graph.specs.HowMany.{one, how_many}
use Rattle.graph.specs.Graph.{connected}
use Rattle.graph.specs.Parts.{part_points, part_edges, more_edges, lowest, parts_of}
use Rattle.graph.specs.Sequences.{all_sequences, fills}

-- `unfolding computed` opens every definition that these compute through.
computed : ℕ
unfolding up_to first met_at is_some occurs distinct place_by chosen one how_many connected part_points part_edges
    more_edges lowest parts_of
    all_sequences fills
computed = 0

-- A walk goes along an edge either way: from 0 to 1 against the first key, from 1 to 2 with the second.
both_ways : (connected ((1, 0) ∷ (1, 2) ∷ []) 0 2 ≡ true) × (connected ((1, 0) ∷ (1, 2) ∷ []) 2 0 ≡ true)
unfolding computed
both_ways = (refl, refl)

-- A key with equal places is an edge of the part of that place.
equal-places : (part_edges ((0, 0) ∷ []) 0 ≡ 1) × (part_points 1 ((0, 0) ∷ []) 0 ≡ 1)
unfolding computed
equal-places = (refl, refl)

-- A point that no key has for a place is a part of its own.
untouched-point : parts_of 2 ((0, 0) ∷ []) ≡ record { serves = true; number = 2 }
unfolding computed
untouched-point = refl

-- Three keys on three points, as many as in the whole graph; but the part of point 0 has two edges and one point.
one-part-too-many : parts_of 3 ((0, 0) ∷ (0, 0) ∷ (1, 2) ∷ []) ≡ record { serves = false; number = 2 }
unfolding computed
one-part-too-many = refl

-- As many edges as points: two keys with the same two places, which is a cycle, and one with equal places.
a-cycle-and-a-loop : parts_of 3 ((0, 1) ∷ (1, 0) ∷ (2, 2) ∷ []) ≡ record { serves = true; number = 2 }
unfolding computed
a-cycle-and-a-loop = refl

-- Two parts, so 4 of its 8 sequences fill.
four-sequences : (how_many (fills ((0, 1) ∷ (1, 0) ∷ (2, 2) ∷ [])) (all_sequences 3) ≡ 4) × (length (all_sequences 3) ≡ 8)
unfolding computed
four-sequences = (refl, refl)

-- No points: no parts.
no-points : parts_of 0 [] ≡ record { serves = true; number = 0 }
unfolding computed
no-points = refl
