-- The parts of a graph with n points, counted: a part's points and edges, whether any part has more edges than points, and how many
-- parts there are. PartLaws says the same by walks. Assumes nothing.
use Rattle.std.specs.Prelude.{ℕ, Bool, true, false, not, ◌&&◌, List, ltb}
use Rattle.lists.specs.First.{first, is_some}
use Rattle.lists.specs.UpTo.{up_to}
use Rattle.filling.specs.Filling.{Key, place_by}
use Rattle.graph.specs.HowMany.{how_many}
use Rattle.graph.specs.Graph.{connected}

-- The points of a graph with n of them: "places as points", all n, also those that no key has for a place.
abbrev pub points : ℕ → List ℕ
points n = up_to n (λ v. v)

-- How many points the part of point v has.
unfoldable pub part_points : ℕ → List Key → ℕ → ℕ
part_points n keys v = how_many (connected keys v) (points n)

-- How many edges: the keys whose places are both points of the part.
unfoldable pub part_edges : List Key → ℕ → ℕ
part_edges keys v = how_many (λ key. connected keys v (place_by false key) && connected keys v (place_by true key)) keys

-- "has more edges than points", of the part of point v
unfoldable pub more_edges : ℕ → List Key → ℕ → Bool
more_edges n keys v = ltb (part_points n keys v) (part_edges keys v)

-- v is the lowest point of its part: each part has one.
unfoldable pub lowest : List Key → ℕ → Bool
lowest keys v = not (is_some (first (connected keys v) v))

-- What the second test says: "whether the seed serves and how many parts there are".
pub record Parts : Type 0 where
  pub serves : Bool
  pub number : ℕ

-- "a seed serves just when no connected part of the graph … has more edges than points"; no points, no parts.
unfoldable pub parts_of : ℕ → List Key → Parts
parts_of n keys = record {
  serves = not (is_some (first (more_edges n keys) n));
  number = how_many (lowest keys) (points n);
}
