-- Labels of places, by which the code finds the parts: places of one part have one label, which is one of them. Assumes nothing.
use Rattle.std.specs.Prelude.{ℕ, true, false, cond, List, [], ◌∷◌, eqb}
use Rattle.lists.specs.UpTo.{up_to}
use Rattle.filling.specs.Filling.{Key, place_by}

-- A label behind the merge of two parts, in which the label `from` becomes `into`.
unfoldable pub merged : ℕ → ℕ → ℕ → ℕ
merged into from z = cond (eqb z from) into z

-- The label of a place: without keys each place is its own; each key more merges the part of its second place into that of its first.
unfoldable pub label : List Key → ℕ → ℕ
label [] v = v
label (key ∷ keys) v = merged (label keys (place_by false key)) (label keys (place_by true key)) (label keys v)

-- The labels of the places below n.
unfoldable pub labels_of : ℕ → List Key → List ℕ
labels_of n keys = up_to n (label keys)
