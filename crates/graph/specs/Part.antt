-- The connected parts of a graph with n points, by walks: a part's points and edges, and how many parts there are. (The field's term:
-- connected components.) Assumes nothing.
use Rattle.std.specs.Prelude.{ℕ, ◌≤◌, ◌<◌, ◌≡◌, ◌↔◌, Bool, true, List, length, get_or}
use Rattle.lists.specs.Occurs.{occurs, distinct}
use Rattle.filling.specs.Filling.{Key}
use Rattle.filling.specs.Separate.{key_place}
use Rattle.graph.specs.Graph.{Connected}

-- "a connected part of the graph": all points that are connected with one of them, and all edges between these points, each once. An
-- edge is named by its key's index. A point without edges is a part of its own, and a key with equal places is an edge.
pub record Part (n : ℕ) (keys : List Key) (points edges : List ℕ) : Type 0 where
  pub member : ℕ
  pub member_below : member < n
  pub points-once : distinct points ≡ true
  pub points-are : (v : ℕ) → (occurs v points ≡ true) ↔ ((v < n) × Connected keys member v)
  pub edges-once : distinct edges ≡ true
  pub edges_are : (i : ℕ) → (occurs i edges ≡ true)
      ↔ ((i < length keys) × ((choice : Bool) → Connected keys member (key_place keys i choice)))

-- "no connected part of the graph … has more edges than points"
abbrev pub NoPartHasMoreEdges : ℕ → List Key → Type 0
NoPartHasMoreEdges n keys = (points edges : List ℕ) → Part n keys points edges → length edges ≤ length points

-- A point of each part: no two of them are connected, and each point is connected with one of them. There are as many as parts.
pub record OneOfEach (n : ℕ) (keys : List Key) (members : List ℕ) : Type 0 where
  pub below : (v : ℕ) → occurs v members ≡ true → v < n
  pub apart : (i j : ℕ) → i < length members → j < length members → Connected keys (get_or members i 0) (get_or members j 0) → i ≡ j
  pub each : (v : ℕ) → v < n → (member : ℕ) × (occurs member members ≡ true) × Connected keys member v

-- "how many parts there are"
abbrev pub PartsAre : ℕ → List Key → ℕ → Type 0
PartsAre n keys number = (members : List ℕ) × OneOfEach n keys members × (length members ≡ number)
