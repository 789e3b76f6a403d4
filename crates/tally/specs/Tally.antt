-- What the code counts: the points, the edges and the parts by the labels in an array. Assumes nothing.
use Rattle.std.specs.Prelude.{ℕ, ◌≤◌, ◌<◌, ◌≡◌, Bool, true, false, ◌&&◌, List, eqb, ltb, get_or}
use Rattle.refusal.specs.Limits.{group_max}
use Rattle.filling.specs.Filling.{Key, place_by, EachCandidate}
use Rattle.lists.specs.UpTo.{up_to}
use Rattle.graph.specs.HowMany.{how_many}
use Rattle.graph.specs.Label.{labels_of}
use Rattle.places.specs.Array.{Candidates, keys_of}

-- Has a place this label?
abbrev pub labelled : List ℕ → ℕ → ℕ → Bool
labelled labels label v = eqb (get_or labels v 0) label

-- Have both places of a key this label?
abbrev pub both_labelled : List ℕ → ℕ → Key → Bool
both_labelled labels label key = labelled labels label (place_by false key) && labelled labels label (place_by true key)

-- For each label, how many of a list pass a test that names it.
unfoldable pub by_label : {A : Type 0} → (ℕ → A → Bool) → List A → List ℕ
by_label test xs = up_to group_max (λ label. how_many (test label) xs)

-- The labels of the first n places are places.
abbrev pub LabelsBelow : List ℕ → ℕ → Type 0
LabelsBelow labels n = (v : ℕ) → v < n → get_or labels v 0 < group_max

-- Is the count for a label not 0, and is one count greater than another?
abbrev pub positive : List ℕ → ℕ → Bool
positive counts v = ltb 0 (get_or counts v 0)

abbrev pub more : List ℕ → List ℕ → ℕ → Bool
more points edges v = ltb (get_or points v 0) (get_or edges v 0)

-- Arrays of the candidate places of n keys on n places and of the labels of all places.
pub record Graphed (places labels : List ℕ) (n : ℕ) : Type 0 where
  pub few : n ≤ group_max
  pub stated : Candidates places n
  pub below : EachCandidate (λ x. x < n) (keys_of n places)
  pub labels-are : labels ≡ labels_of group_max (keys_of n places)
