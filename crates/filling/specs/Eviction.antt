-- Cuckoo insertion with a bounded eviction chain: its state, its two moves, and the states that it reaches. It speaks of keys with
-- two candidate places each, whatever the places come from, and of any number of places. Assumes nothing.
use Rattle.std.specs.Prelude.{ℕ, ◌+◌, ◌*◌, ◌-◌, ◌≤◌, ◌<◌, ◌≡◌, Bool, List, map, eqb, length, get_or, set, take, replicate}
use Rattle.filling.specs.Filling.{Key, place_by, EachCandidate}

-- The state between two moves. The keys with indices 0 to `seated` are in, and each has its place but one, the moving key: the one
-- being inserted, or the one evicted last.
pub record State : Type 0 where
  -- for each place 0 where it is free, otherwise one more than the index of the key that has it
  pub occupants : List ℕ
  -- for each key the choice, 0 or 1, by which it has its place; for the moving key, by which it is to get one
  pub choices : List ℕ
  -- how many keys have a place
  pub seated : ℕ
  -- the index of the moving key; where all keys have a place, their number
  pub moving : ℕ
  -- how many evictions are left
  pub left : ℕ

-- The evictions that the insertion of a key may make, with k keys seated before it.
abbrev pub allowance : ℕ → ℕ
allowance k = 2 * k + 1

-- The place of key i by its choice, a number.
unfoldable pub place_under : List Key → List ℕ → ℕ → ℕ
place_under keys choices i = place_by (eqb (get_or choices i 0) 1) (get_or keys i (0, 0))

-- Where the moving key is to go.
unfoldable pub goal : List Key → State → ℕ
goal keys s = place_under keys s.choices s.moving

-- Who has that place: 0 for none, otherwise one more than the key's index.
unfoldable pub occupant : List Key → State → ℕ
occupant keys s = get_or s.occupants (goal keys s) 0

-- The beginning: every place free, every choice 0, key 0 to be inserted. There may be more cells for choices than keys.
unfoldable pub start : ℕ → ℕ → State
start places cells = record { occupants = replicate places 0; choices = replicate cells 0; seated = 0; moving = 0; left = allowance 0 }

-- The place is free: the moving key takes it, and the next key is to be inserted, by either choice.
unfoldable pub seat_key : List Key → ℕ → State → State
seat_key keys choice s = record {
  occupants = set s.occupants (goal keys s) (s.moving + 1);
  choices = set s.choices (s.seated + 1) choice;
  seated = s.seated + 1;
  moving = s.seated + 1;
  left = allowance (s.seated + 1);
}

-- The place is taken: the moving key takes it, its occupant is evicted, and is to go where its other choice leads. That may be the
-- same place, where both places of a key are equal.
unfoldable pub evict_key : List Key → State → State
evict_key keys s =
    let evicted = occupant keys s - 1 in
    record {
      occupants = set s.occupants (goal keys s) (s.moving + 1);
      choices = set s.choices evicted (1 - get_or s.choices evicted 0);
      seated = s.seated;
      moving = evicted;
      left = s.left - 1;
    }

-- The states that bounded cuckoo insertion comes to.
pub data Reached (keys : List Key) : State → Type 0 where
  started : (places cells : ℕ) → EachCandidate (λ x. x < places) keys → length keys ≤ cells → Reached keys (start places cells)
  seats : {s : State} (choice : ℕ) → choice < 2 → Reached keys s → s.seated < length keys → occupant keys s ≡ 0
      → Reached keys (seat_key keys choice s)
  evicts : {s : State} → Reached keys s → s.seated < length keys → (occupant keys s ≡ 0 → ⊥) → 0 < s.left
      → Reached keys (evict_key keys s)

-- The chain gives up: not all keys are seated, the place is taken, and no eviction is left.
pub record GivesUp (keys : List Key) (s : State) : Type 0 where
  pub reached : Reached keys s
  pub unfinished : s.seated < length keys
  pub taken : occupant keys s ≡ 0 → ⊥
  pub spent : s.left ≡ 0

-- The choices of the keys, as a choice sequence.
unfoldable pub sequence_of : List Key → State → List Bool
sequence_of keys s = map (λ choice. eqb choice 1) (take (length keys) s.choices)
