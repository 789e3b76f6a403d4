-- The laws of a table of equations: elimination keeps the solutions, an equation of the constant alone has none, and setting each bit from
-- the highest down only where it is forced gives the least solution. Assumes nothing.
use Rattle.std.specs.Prelude.{ℕ, zero, suc, ◌+◌, ◌*◌, ◌-◌, ◌/◌, ◌%◌, ◌^◌, ◌≤◌, ◌<◌, min, ◌≡◌, refl, ◌⊎◌, List, length}
use Rattle.std.specs.Prelude.{get_or, set, replicate}
use Rattle.std.proofs.Common.{sym, ◌∙◌, ap, inl, inr, mod-lt, arith, lit<, length-set, pow_pos, shr-shr, get_or-set_same, get_or-set_other}
use Rattle.std.proofs.Math.Decide.{ℕ_discrete}
use Rattle.std.proofs.Math.Nat.{div-eq_of_lt, add-div_right, add-mod_right}
use Rattle.std.specs.Int.Bits.{bit_xor}
use Rattle.std.proofs.lemmas.Nat.{xor_lt}
use Rattle.std.proofs.lemmas.List.{length-replicate}
use Rattle.std.proofs.Math.ListN.{get_or-eq_default}
use Rattle.std.proofs.Math.Pow.{high, low}
use Rattle.parity.specs.Parity.{parity}
use Rattle.parity.specs.ParityLaws.{parity-below, parity-step, parity-zero, parity-xor, parity-high}
use Rattle.elimination.specs.LowestLaws.{Lowest, shift-more, low-more, clear-lower, lowest-below}
use Rattle.elimination.specs.Table.{Table, Solves, Inserted, LeastSolution, Reduced, Settled}

-- Every cell of an empty table is 0, past its end as well.
empty-cell : (n i : ℕ) → ◌≡◌ {A = ℕ} (get_or (replicate n 0) i 0) 0
empty-cell zero i = refl
empty-cell (suc n) zero = refl
empty-cell (suc n) (suc i) = empty-cell n i

-- The empty table, which every word solves.
pub empty-table : (k : ℕ) → Table k (replicate (suc k) 0)
empty-table k = record {
  size = length-replicate (suc k) 0;
  pivot = λ j. inl (empty-cell (suc k) j);
  fits = λ j. rw (empty-cell (suc k) j) (pow_pos (suc k));
}

pub empty-solved : (k W : ℕ) → Solves (replicate (suc k) 0) W
empty-solved k W j = rw (empty-cell (suc k) j) (parity-zero W)

-- A cell that is not 0 has an equation with its lowest bit there.
pub pivot-lowest : {k : ℕ} {table : List ℕ} (t : Table k table) (j : ℕ) → (get_or table j 0 ≡ 0 → ⊥) → Lowest j (get_or table j 0)
pivot-lowest {k} {table} t j full = go (t.pivot j)
  where
    go : (get_or table j 0 ≡ 0) ⊎ Lowest j (get_or table j 0) → Lowest j (get_or table j 0)
    go (inl z) = absurd (full z)
    go (inr lowest) = lowest

-- Nothing is eliminated yet.
pub reduced-start : {k : ℕ} {table : List ℕ} {equation : ℕ} → equation < 2 ^ suc k → Reduced k table equation equation
reduced-start fits = record { fits = fits; alike = λ W s. refl }

module _ {k : ℕ} {table : List ℕ} {equation left : ℕ} (t : Table k table) (r : Reduced k table equation left) where
  -- ELIMINATION: an equation of the table is taken off, and the solutions stay.
  pub reduced-xor : (j : ℕ) → Reduced k table equation (bit_xor left (get_or table j 0))
  reduced-xor j = record {
    fits = xor_lt (suc k) left (get_or table j 0) r.fits (t.fits j);
    alike = λ W s. parity-xor left (get_or table j 0) W ∙ omega (arith, s j, parity-below left W, r.alike W s);
  }

  -- Nothing is left: the table says the equation already.
  pub reduced-none : left ≡ 0 → Inserted k table equation table
  reduced-none gone = record {
    sound = t;
    from = λ W s. (s, sym (r.alike W s) ∙ rw gone (parity-zero W));
    into = λ W s h. s;
  }

  -- What is left goes into the free cell of its lowest bit.
  pub reduced-stored : {j : ℕ} → Lowest j left → get_or table j 0 ≡ 0 → Inserted k table equation (set table j left)
  reduced-stored {j} lowest free = record {
    sound = record { size = length-set table j left ∙ t.size; pivot = pivot'; fits = fits' };
    from = from';
    into = into';
  }
    where
      here : get_or (set table j left) j 0 ≡ left
      here = get_or-set_same table j left 0 (omega (arith, t.size, lowest-below lowest (suc k) r.fits))

      there : (i : ℕ) → (i ≡ j → ⊥) → get_or (set table j left) i 0 ≡ get_or table i 0
      there i n = get_or-set_other table j i left 0 n

      pivot' : (i : ℕ) → (get_or (set table j left) i 0 ≡ 0) ⊎ Lowest i (get_or (set table j left) i 0)
      pivot' i = go (ℕ_discrete i j)
        where
          go : Dec (i ≡ j) → (get_or (set table j left) i 0 ≡ 0) ⊎ Lowest i (get_or (set table j left) i 0)
          go (yes e) = rw (e, here) (inr lowest)
          go (no n) = rw (there i n) (t.pivot i)

      fits' : (i : ℕ) → get_or (set table j left) i 0 < 2 ^ suc k
      fits' i = go (ℕ_discrete i j)
        where
          go : Dec (i ≡ j) → get_or (set table j left) i 0 < 2 ^ suc k
          go (yes e) = rw (e, here) r.fits
          go (no n) = rw (there i n) (t.fits i)

      from' : (W : ℕ) → Solves (set table j left) W → Solves table W × (parity equation W ≡ 0)
      from' W s = (old, sym (r.alike W old) ∙ rw here at (s j))
        where
          old : Solves table W
          old i = go (ℕ_discrete i j)
            where
              go : Dec (i ≡ j) → parity (get_or table i 0) W ≡ 0
              go (yes e) = rw (e, free) (parity-zero W)
              go (no n) = rw (there i n) at (s i)

      into' : (W : ℕ) → Solves table W → parity equation W ≡ 0 → Solves (set table j left) W
      into' W s h i = go (ℕ_discrete i j)
        where
          go : Dec (i ≡ j) → parity (get_or (set table j left) i 0) W ≡ 0
          go (yes e) = rw (e, here) (r.alike W s ∙ h)
          go (no n) = rw (there i n) (s i)

-- An equation of the constant alone, "0 = 1": no word solves the table.
pub constant-none : {k : ℕ} {table : List ℕ} → Table k table → (get_or table k 0 ≡ 0 → ⊥) → (W : ℕ) → W / 2 ^ k ≡ 1 → Solves table W → ⊥
constant-none {k} {table} t full W top s = omega (arith, one, parity-step 1 1, parity-zero 0)
  where
    e : ℕ
    e = get_or table k 0

    alone : e / 2 ^ k ≡ 1
    alone = go (e / 2 ^ k) (pivot-lowest t k full).bit (sym (shift-more e k) ∙ div-eq_of_lt (t.fits k))
      where
        go : (x : ℕ) → x % 2 ≡ 1 → x / 2 ≡ 0 → x ≡ 1
        go x bit half = omega arith

    one : parity 1 1 ≡ 0
    one = (rw (alone, top) at (sym (parity-high k e W (pivot-lowest t k full).clear))) ∙ s k

-- Settling begins with the constant alone.
pub settled-start : {k : ℕ} {table : List ℕ} → Table k table → get_or table k 0 ≡ 0 → Settled k table k (2 ^ k)
settled-start {k} {table} t free = record { clear = clear'; top = top'; solves = solves'; least = λ X h s. rw (top', h) (omega arith) }
  where
    same : 1 * 2 ^ k + 0 ≡ 2 ^ k
    same = omega arith

    top' : 2 ^ k / 2 ^ k ≡ 1
    top' = rw same at (high 1 k (pow_pos k))

    clear' : 2 ^ k % 2 ^ k ≡ 0
    clear' = rw same at (low 1 k (pow_pos k))

    solves' : (i : ℕ) → k ≤ i → parity (get_or table i 0) (2 ^ k) ≡ 0
    solves' i le = go (ℕ_discrete i k)
      where
        go : Dec (i ≡ k) → parity (get_or table i 0) (2 ^ k) ≡ 0
        go (yes e) = rw (e, free) (parity-zero (2 ^ k))
        go (no n) =
            let past : length table ≤ i = omega (arith, t.size) in
            rw (get_or-eq_default table 0 past) (parity-zero (2 ^ k))

-- One bit less: the word is still clear there.
module _ {k : ℕ} {table : List ℕ} {j W : ℕ} (t : Table k table) (d : Settled k table (suc j) W) where
  abbrev p : ℕ
  p = get_or table j 0

  bit-clear : W / 2 ^ j % 2 ≡ 0
  bit-clear = bit (W / 2 ^ j % 2) (mod-lt (W / 2 ^ j) (lit< tt)) (omega (arith, sym (low-more W j) ∙ d.clear))
    where
      bit : (x : ℕ) → x < 2 → x * 2 ^ j ≡ 0 → x ≡ 0
      bit zero lt e = refl
      bit (suc zero) lt e = absurd (omega (arith, pow_pos j, e))
      bit (suc (suc x)) lt e = absurd (omega arith)

  shifted : W / 2 ^ j ≡ W / 2 ^ suc j * 2
  shifted = omega (arith, shift-more W j, bit-clear)

  clear-below : W % 2 ^ j ≡ 0
  clear-below = clear-lower W (suc j) j (omega arith) d.clear

  -- The equation of bit j is solved without it.
  pub settled-stay : parity p W ≡ 0 → Settled k table j W
  settled-stay even = record { clear = clear-below; top = d.top; solves = solves'; least = least' }
    where
      solves' : (i : ℕ) → j ≤ i → parity (get_or table i 0) W ≡ 0
      solves' i le = go (ℕ_discrete i j)
        where
          go : Dec (i ≡ j) → parity (get_or table i 0) W ≡ 0
          go (yes e) = rw e even
          go (no n) = d.solves i (omega arith)

      least' : (X : ℕ) → X / 2 ^ k ≡ 1 → Solves table X → W / 2 ^ j ≤ X / 2 ^ j
      least' X h s = omega (arith, shifted, d.least X h s, shift-more X j)

  -- The equation of bit j forces it.
  pub settled-set : j < k → parity p W ≡ 1 → Settled k table j (W + 2 ^ j)
  settled-set lt odd =
      record { clear = add-mod_right W (2 ^ j) ∙ clear-below; top = top'; solves = solves'; least = least' }
    where
      up : (W + 2 ^ j) / 2 ^ j ≡ W / 2 ^ suc j * 2 + 1
      up = add-div_right W (pow_pos j) ∙ ap (λ (x : ℕ). x + 1) shifted

      above : (W + 2 ^ j) / 2 ^ suc j ≡ W / 2 ^ suc j
      above = omega (arith, shift-more (W + 2 ^ j) j, up)

      top' : (W + 2 ^ j) / 2 ^ k ≡ 1
      top' =
          let e : suc j + (k - suc j) ≡ k = omega arith in
          sym (rw e at (shr-shr (W + 2 ^ j) (suc j) (k - suc j)))
          ∙ ap (λ (x : ℕ). x / 2 ^ (k - suc j)) above
          ∙ (rw e at (shr-shr W (suc j) (k - suc j)))
          ∙ d.top

      lowest : Lowest j p
      lowest = pivot-lowest t j (λ z. omega (arith, parity-zero W, rw z at odd))

      -- The equation sees bit j of a word, and the bits above.
      seen : (X : ℕ) → parity p X ≡ (X / 2 ^ j % 2 + parity (p / 2 ^ j / 2) (X / 2 ^ suc j)) % 2
      seen X =
          let own : min (p / 2 ^ j % 2) (X / 2 ^ j % 2) ≡ X / 2 ^ j % 2 = omega (arith, lowest.bit) in
          parity-high j p X lowest.clear
          ∙ parity-step (p / 2 ^ j) (X / 2 ^ j)
          ∙ rw (← shift-more X j) (ap (λ (x : ℕ). (x + parity (p / 2 ^ j / 2) (X / 2 ^ suc j)) % 2) own)

      rest : parity (p / 2 ^ j / 2) (W / 2 ^ suc j) ≡ 1
      rest = omega (arith, seen W, odd, shifted, parity-below (p / 2 ^ j / 2) (W / 2 ^ suc j))

      solves' : (i : ℕ) → j ≤ i → parity (get_or table i 0) (W + 2 ^ j) ≡ 0
      solves' i le = go (ℕ_discrete i j) (t.pivot i)
        where
          go : Dec (i ≡ j) → (get_or table i 0 ≡ 0) ⊎ Lowest i (get_or table i 0) → parity (get_or table i 0) (W + 2 ^ j) ≡ 0
          go (yes e) either = rw e (omega (arith, rw above at (seen (W + 2 ^ j)), up, rest))
          go (no n) (inl z) = rw z (parity-zero (W + 2 ^ j))
          go (no n) (inr at) =
              let clear = clear-lower (get_or table i 0) i (suc j) (omega arith) at.clear in
              parity-high (suc j) (get_or table i 0) (W + 2 ^ j) clear
              ∙ ap (parity (get_or table i 0 / 2 ^ suc j)) above
              ∙ sym (parity-high (suc j) (get_or table i 0) W clear)
              ∙ d.solves i (omega arith)

      least' : (X : ℕ) → X / 2 ^ k ≡ 1 → Solves table X → (W + 2 ^ j) / 2 ^ j ≤ X / 2 ^ j
      least' X h s = rw up (go (ℕ_discrete (W / 2 ^ suc j) (X / 2 ^ suc j)))
        where
          go : Dec (W / 2 ^ suc j ≡ X / 2 ^ suc j) → W / 2 ^ suc j * 2 + 1 ≤ X / 2 ^ j
          go (yes e) = omega (arith, rw (← e) at (seen X), s j, rest, shift-more X j, e)
          go (no n) = omega (arith, d.least X h s, shift-more X j)

-- With every bit settled it is the least solution.
pub settled-done : {k : ℕ} {table : List ℕ} {W : ℕ} → Settled k table 0 W → LeastSolution k table W
settled-done d =
    record { top = d.top; solves = λ i. d.solves i (omega arith); least = λ X h s. omega (arith, d.least X h s) }
