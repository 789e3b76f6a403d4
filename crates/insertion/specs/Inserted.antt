-- What the steps of weighted insertion answer, over an array of places and a word. Assumes nothing.
use Rattle.std.specs.Prelude.{ℕ, ◌+◌, ◌^◌, ◌<◌, Bool, List, Option, None, Some}
use Rattle.filling.specs.Weight.{key_weight}
use Rattle.filling.specs.Insertion.{Lightest, LightestWith, NoneWith}
use Rattle.bits.specs.WordBits.{choice_in}
use Rattle.places.specs.Array.{entry_of}

-- A word of as many bits as there are keys that is the lightest.
pub record LightestWord (places : List ℕ) (count word : ℕ) : Type 0 where
  pub below : word < 2 ^ count
  pub lightest : Lightest (entry_of places) key_weight count (choice_in word)

-- A word of k + 1 bits that is the lightest with this choice of key k.
pub record LightestWordWith (places : List ℕ) (k : ℕ) (choice : Bool) (word : ℕ) : Type 0 where
  pub below : word < 2 ^ (k + 1)
  pub lightest : LightestWith (entry_of places) key_weight k choice (choice_in word)

-- The insertion of key k with the word's choice: the lightest word with that choice, or nothing separates the keys with it.
abbrev pub InsertedIs : List ℕ → ℕ → ℕ → Option ℕ → Type 0
InsertedIs places k word (Some result) = LightestWordWith places k (choice_in word k) result
InsertedIs places k word None = NoneWith (entry_of places) k (choice_in word k)
