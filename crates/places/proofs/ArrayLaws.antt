-- The laws of an array of candidate places: the places read from it, the keys that it states, and keys laid into it. Assumes nothing.
use Rattle.std.specs.Prelude.{ℕ, ◌+◌, ◌*◌, ◌-◌, ◌≤◌, ◌<◌, ◌≡◌, Bool, not, List, ◌++◌, get_or, take, drop}
use Rattle.std.proofs.Common.{◌∙◌, zero-add, arith, length-take-le, get_or-append-add, get_or-take}
use Rattle.std.proofs.Math.Path.{ap}
use Rattle.std.proofs.Math.Bool.{true, false}
use Rattle.std.proofs.Math.ListN.{length, get_or-append, get_or-map}
use Rattle.std.proofs.lemmas.List.{length-map}
use Rattle.std.proofs.Math.Seq.{paste, length-paste, length_paste_head, ext_get_or}
use Rattle.refusal.specs.Limits.{group_max}
use Rattle.lists.proofs.UpToLaws.{up_to-length, up_to-at}
use Rattle.filling.specs.Filling.{Key, place_by}
use Rattle.filling.specs.Separate.{key_place}
use Rattle.places.specs.Array.{entry_of, Candidates, key_at, keys_of, places_by, laid_into}

module _ (places : List ℕ) (i : ℕ) where
  -- The two places of a key, less the one that it has, are the other.
  pub entry_other : (c : Bool) → entry_of places i false + entry_of places i true - entry_of places i c ≡ entry_of places i (not c)
  entry_other false = omega arith
  entry_other true = omega arith

  -- Each is a part of their sum.
  pub entry-part : (c : Bool) → entry_of places i c ≤ entry_of places i false + entry_of places i true
  entry-part false = omega arith
  entry-part true = omega arith

-- Fewer keys are stated as well.
pub candidates-fewer : {places : List ℕ} {count : ℕ} (fewer : ℕ) → fewer ≤ count → Candidates places count
    → Candidates places fewer
candidates-fewer fewer le all = record { size = all.size; below = λ i lt c. all.below i (omega arith) c }

module _ (count : ℕ) (places : List ℕ) where
  -- There are as many keys as are asked for.
  pub keys_of-length : length (keys_of count places) ≡ count
  unfolding keys_of
  keys_of-length = up_to-length count (key_at places)

  -- The place that a choice takes of a key is the one that the array has for it.
  pub keys_of-place : (i : ℕ) → i < count → (c : Bool) → key_place (keys_of count places) i c ≡ entry_of places i c
  unfolding keys_of place_by
  keys_of-place i lt false = rw (up_to-at count (key_at places) (0, 0) i lt)
  keys_of-place i lt true = rw (up_to-at count (key_at places) (0, 0) i lt)

-- What is read from the pasted part,
paste-inside : (d : List ℕ) (at : ℕ) (s : List ℕ) (n i : ℕ) → at ≤ length d → n ≤ length s → i < n
    → get_or (paste d at s n) (at + i) 0 ≡ get_or s i 0
paste-inside d at s n i room long lt =
    let head = length_paste_head d at s n room long in
    get_or-append (take at d ++ take n s) (drop (at + n) d) 0 (at + i) (omega arith)
    ∙ (rw (length-take-le at d room) at (get_or-append-add (take at d) (take n s) i 0))
    ∙ get_or-take n s i 0 lt

-- and from before it.
paste-before : (d : List ℕ) (at : ℕ) (s : List ℕ) (n i : ℕ) → at ≤ length d → n ≤ length s → i < at
    → get_or (paste d at s n) i 0 ≡ get_or d i 0
paste-before d at s n i room long lt =
    let head = length_paste_head d at s n room long in
    let size = length-take-le at d room in
    get_or-append (take at d ++ take n s) (drop (at + n) d) 0 i (omega arith)
    ∙ get_or-append (take at d) (take n s) 0 i (omega arith)
    ∙ get_or-take at d i 0 lt

-- The places of keys under a choice: one for each key,
places_by-length : (choice : Bool) (keys : List Key) → length (places_by choice keys) ≡ length keys
unfolding places_by
places_by-length choice keys = length-map keys (place_by choice)

-- and the place of key i with index i.
places_by-at : (choice : Bool) (keys : List Key) (i : ℕ) → get_or (places_by choice keys) i 0 ≡ key_place keys i choice
unfolding places_by place_by
places_by-at false keys i = get_or-map (place_by false) keys i (0, 0)
places_by-at true keys i = get_or-map (place_by true) keys i (0, 0)

-- An array with the places of keys laid into it
module _ (keys : List Key) (before : List ℕ) {places : List ℕ} (few : length keys ≤ group_max) (cells : length before ≡ 2 * group_max)
    (laid : places ≡ laid_into keys before) where
  abbrev firsts : List ℕ
  firsts = paste before 0 (places_by false keys) (length keys)

  firsts-length : length firsts ≡ 2 * group_max
  firsts-length =
      length-paste before 0 (places_by false keys) (length keys) (omega arith) (omega (arith, places_by-length false keys)) ∙ cells

  -- has as many cells as before,
  pub laid-length : length places ≡ 2 * group_max
  unfolding laid_into
  laid-length =
      ap length laid
      ∙ length-paste firsts group_max (places_by true keys) (length keys)
      (omega (arith, firsts-length)) (omega (arith, places_by-length true keys))
      ∙ firsts-length

  -- the places of the keys
  pub laid-entry : (i : ℕ) → i < length keys → (choice : Bool) → entry_of places i choice ≡ key_place keys i choice
  unfolding laid_into entry_of
  laid-entry i lt false =
      rw laid
      (paste-before firsts group_max (places_by true keys) (length keys) i (omega (arith, firsts-length))
      (omega (arith, places_by-length true keys)) (omega arith)
      ∙ (rw (zero-add i) at (paste-inside before 0 (places_by false keys) (length keys) i (omega arith)
      (omega (arith, places_by-length false keys)) lt))
      ∙ places_by-at false keys i)
  laid-entry i lt true =
      rw laid
      (paste-inside firsts group_max (places_by true keys) (length keys) i (omega (arith, firsts-length))
      (omega (arith, places_by-length true keys)) lt
      ∙ places_by-at true keys i)

  -- and the keys.
  pub laid-keys : keys_of (length keys) places ≡ keys
  unfolding keys_of place_by
  laid-keys =
      ext_get_or (0, 0) (keys_of (length keys) places) keys (keys_of-length (length keys) places) (λ i lt.
      let below : i < length keys = omega (arith, keys_of-length (length keys) places) in
      up_to-at (length keys) (key_at places) (0, 0) i below
      ∙ rw (laid-entry i below false, laid-entry i below true))
