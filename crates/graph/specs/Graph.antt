-- The graph of keys with two candidate places each, and which of its points are connected, by walks along edges. Document 02, §8:
-- "places as points, tags as edges" (the field's term: cuckoo graph). Assumes nothing.
use Rattle.std.specs.Prelude.{ℕ, ◌<◌, ◌≡◌, Bool, true, false, not, ◌&&◌, ◌||◌, List, [], ◌∷◌, eqb, length}
use Rattle.filling.specs.Filling.{Key, place_by}
use Rattle.filling.specs.Separate.{key_place}

-- An edge leads from u to v: a key has these two places, in either order. A key with equal places leads from its place to itself.
pub record Edge (keys : List Key) (u v : ℕ) : Type 0 where
  pub key : ℕ
  pub inside : key < length keys
  pub choice : Bool
  pub from : key_place keys key choice ≡ u
  pub to : key_place keys key (not choice) ≡ v

-- Connected: a walk along edges leads from one point to the other. A point is connected with itself, by no edge.
pub data Connected (keys : List Key) : ℕ → ℕ → Type 0 where
  here : (v : ℕ) → Connected keys v v
  along : {u v w : ℕ} → Edge keys u v → Connected keys v w → Connected keys u w

-- Whether two points are connected: without keys, a point with itself only; with one key more, those that are connected without it,
-- and those of which one is so with its first place and the other with its second. ConnectedLaws: exactly where a walk leads.
unfoldable pub connected : List Key → ℕ → ℕ → Bool
connected [] u v = eqb u v
connected (key ∷ keys) u v =
    connected keys u v
    || (connected keys u (place_by false key) && connected keys (place_by true key) v)
    || (connected keys u (place_by true key) && connected keys (place_by false key) v)
