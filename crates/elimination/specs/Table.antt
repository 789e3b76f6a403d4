-- A table of equations by their lowest bit, and how far the two loops over it have come. Assumes nothing.
-- An equation is a word of k + 1 bits; a word W with bit k set solves it where the parity of the two is 0.
use Rattle.std.specs.Prelude.{ℕ, suc, ◌/◌, ◌%◌, ◌^◌, ◌≤◌, ◌<◌, ◌≡◌, ◌⊎◌, List, length, get_or}
use Rattle.parity.specs.Parity.{parity}
use Rattle.elimination.specs.LowestLaws.{Lowest}

-- A table has a cell for each bit of an equation: 0, or an equation whose lowest bit it is. (The field's term: a basis in echelon form.)
pub record Table (k : ℕ) (table : List ℕ) : Type 0 where
  pub size : length table ≡ suc k
  pub pivot : (j : ℕ) → (get_or table j 0 ≡ 0) ⊎ Lowest j (get_or table j 0)
  pub fits : (j : ℕ) → get_or table j 0 < 2 ^ suc k

-- W solves every equation of the table.
abbrev pub Solves : List ℕ → ℕ → Type 0
Solves table W = (j : ℕ) → parity (get_or table j 0) W ≡ 0

-- The table has come to hold one equation more: W solves it exactly where W solves those before and the new one.
pub record Inserted (k : ℕ) (table : List ℕ) (equation : ℕ) (after : List ℕ) : Type 0 where
  pub sound : Table k after
  pub from : (W : ℕ) → Solves after W → Solves table W × (parity equation W ≡ 0)
  pub into : (W : ℕ) → Solves table W → parity equation W ≡ 0 → Solves after W

-- W, with bit k set, is the least such word that solves the table.
pub record LeastSolution (k : ℕ) (table : List ℕ) (W : ℕ) : Type 0 where
  pub top : W / 2 ^ k ≡ 1
  pub solves : Solves table W
  pub least : (X : ℕ) → X / 2 ^ k ≡ 1 → Solves table X → W ≤ X

-- Insertion: `left` is what elimination by the table's equations has left of the equation.
pub record Reduced (k : ℕ) (table : List ℕ) (equation left : ℕ) : Type 0 where
  pub fits : left < 2 ^ suc k
  pub alike : (W : ℕ) → Solves table W → parity left W ≡ parity equation W

-- Settling bits from the highest down: those from bit j on are those of the least word that solves, and the others are clear.
pub record Settled (k : ℕ) (table : List ℕ) (j W : ℕ) : Type 0 where
  pub clear : W % 2 ^ j ≡ 0
  pub top : W / 2 ^ k ≡ 1
  pub solves : (i : ℕ) → j ≤ i → parity (get_or table i 0) W ≡ 0
  pub least : (X : ℕ) → X / 2 ^ k ≡ 1 → Solves table X → W / 2 ^ j ≤ X / 2 ^ j
