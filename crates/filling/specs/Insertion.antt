-- Insertion by eviction: a key takes a place, the key that had it is displaced to its other place, and so on. Places are read by
-- a key's index and a choice, and choices by index; there may be any number of places. Assumes nothing.
use Rattle.std.specs.Prelude.{ℕ, suc, ◌≤◌, ◌<◌, ◌≡◌, Bool, not, ◌⊎◌}
use Rattle.std.specs.Bool.{xor}
use Rattle.filling.specs.Separate.{Separate}
use Rattle.filling.specs.Weight.{count, total}

-- The number of the first n keys for which two sequences have different choices. (The field's term: Hamming distance.)
unfoldable pub distance : (ℕ → Bool) → (ℕ → Bool) → ℕ → ℕ
distance c d n = count (λ i. xor (c i) (d i)) n

-- d is c with the choice of key o toggled.
pub record Toggled (c d : ℕ → Bool) (o : ℕ) : Type 0 where
  pub here : d o ≡ not (c o)
  pub others : (i : ℕ) → (i ≡ o → ⊥) → d i ≡ c i

-- Key i is the new key k, or its choice is not what it was before.
abbrev pub Moved : ℕ → (ℕ → Bool) → (ℕ → Bool) → ℕ → Type 0
Moved k before c i = (i ≡ k) ⊎ (c i ≡ before i → ⊥)

module _ (place : ℕ → Bool → ℕ) where
  -- No two of the keys 0 to k take one place, the displaced key left out.
  abbrev pub SeparateBut : ℕ → (ℕ → Bool) → ℕ → Type 0
  SeparateBut k c displaced =
      (i j : ℕ) → i ≤ k → j ≤ k → (i ≡ displaced → ⊥) → (j ≡ displaced → ⊥) → place i (c i) ≡ place j (c j) → i ≡ j

  -- c separates the first n keys, and nothing that does is lighter.
  pub record Lightest (weight : ℕ → ℕ) (n : ℕ) (c : ℕ → Bool) : Type 0 where
    pub separate : Separate place n c
    pub lightest : (f : ℕ → Bool) → Separate place n f → total weight c n ≤ total weight f n

  -- The same for the keys 0 to k, among the sequences with a given choice of key k.
  pub record LightestWith (weight : ℕ → ℕ) (k : ℕ) (choice : Bool) (c : ℕ → Bool) : Type 0 where
    pub separate : Separate place (suc k) c
    pub lightest : (f : ℕ → Bool) → Separate place (suc k) f → f k ≡ choice → total weight c (suc k) ≤ total weight f (suc k)

  -- Nothing separates the keys 0 to k with a given choice of key k.
  abbrev pub NoneWith : ℕ → Bool → Type 0
  NoneWith k choice = (f : ℕ → Bool) → Separate place (suc k) f → f k ≡ choice → ⊥

  -- o is the occupant: another one of the keys 0 to k that takes the place of the displaced key.
  pub record Occupies (c : ℕ → Bool) (k displaced o : ℕ) : Type 0 where
    pub within : o ≤ k
    pub other : o ≡ displaced → ⊥
    pub same : place o (c o) ≡ place displaced (c displaced)

  -- No other one of the keys 0 to k takes the place of the displaced key.
  abbrev pub Unoccupied : (ℕ → Bool) → ℕ → ℕ → Type 0
  Unoccupied c k displaced = (o : ℕ) → o ≤ k → (o ≡ displaced → ⊥) → place o (c o) ≡ place displaced (c displaced) → ⊥

  -- What the insertion of key k keeps for every f that separates the keys and has its choice of key k: the keys that moved are
  -- as f has them; a place that one of them left is, under f, that of a key that moved; and at least as many evictions are left
  -- as there are keys that f has otherwise.
  pub record Agreement (f before c : ℕ → Bool) (k displaced left : ℕ) : Type 0 where
    pub last : c k ≡ f k
    pub moved : Moved k before c displaced
    pub agrees : (i : ℕ) → i < k → (c i ≡ before i → ⊥) → c i ≡ f i
    pub vacated : (i : ℕ) → i < k → (c i ≡ before i → ⊥)
        → (g : ℕ) × (g ≤ k) × Moved k before c g × (place g (f g) ≡ place i (before i))
    pub enough : distance c f (suc k) ≤ left

  -- The state of an insertion of key k into a sequence `before`, which has the choice that key k is inserted with: the keys but
  -- the displaced one are separate, and what Agreement says holds for every f.
  pub record Insertion (k : ℕ) (before c : ℕ → Bool) (displaced left : ℕ) : Type 0 where
    pub upto : displaced ≤ k
    pub apart : SeparateBut k c displaced
    pub agreement : (f : ℕ → Bool) → Separate place (suc k) f → f k ≡ before k → Agreement f before c k displaced left

  -- A place that one of the keys below k had before.
  abbrev pub Taken : ℕ → (ℕ → Bool) → ℕ → Type 0
  Taken k before v = (o : ℕ) × (o < k) × (place o (before o) ≡ v)

  -- What an insertion keeps so that the occupants from before it suffice: a key that moved, other than the displaced one, has a
  -- place that was taken before, and the place of each key that is not where it was has a key that moved.
  pub record Walk (k : ℕ) (before c : ℕ → Bool) (displaced : ℕ) : Type 0 where
    pub upto : displaced ≤ k
    pub moved : Moved k before c displaced
    pub settled : (i : ℕ) → i ≤ k → Moved k before c i → (i ≡ displaced → ⊥) → Taken k before (place i (c i))
    pub refilled : (i : ℕ) → i < k → (c i ≡ before i → ⊥)
        → (g : ℕ) × (g ≤ k) × Moved k before c g × (g ≡ displaced → ⊥) × (place g (c g) ≡ place i (before i))
