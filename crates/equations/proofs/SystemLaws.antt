-- The table of the equations of a group's places: what it says once the first m are in it, and the least word from it. Assumes nothing.
use Rattle.std.specs.Prelude.{ℕ, suc, ◌+◌, ◌*◌, ◌/◌, ◌%◌, ◌^◌, ◌≤◌, ◌<◌, ◌≡◌, true, List, length, get_or, replicate, None, Some}
use Rattle.std.proofs.Common.{sym, ◌∙◌, ap, arith, pow_pos}
use Rattle.std.proofs.Math.Bool.{not-eq-not}
use Rattle.std.proofs.Math.Decide.{ℕ_discrete}
use Rattle.std.proofs.Math.Nat.{mod-lt}
use Rattle.std.proofs.Math.Pow.{split, high}
use Rattle.lists.proofs.FirstLaws.{first_found, first_out}
use Rattle.filling.specs.Filling.{Key}
use Rattle.parity.specs.Parity.{parity}
use Rattle.elimination.specs.Table.{Table, Solves, Inserted, LeastSolution}
use Rattle.elimination.specs.TableLaws.{empty-table, empty-solved, constant-none}
use Rattle.equations.specs.Equation.{rows_fill, least_of_rows, with_constant, equation_of}
use Rattle.equations.proofs.EquationLaws.{Rows, SolvesPlaces, fills-of-solves, solves-of-fills}

-- The table says the equations of the places below m: W solves the one exactly where it solves the others.
pub record System (k : ℕ) (keys : List Key) (rows : List ℕ) (m : ℕ) (table : List ℕ) : Type 0 where
  pub sound : Table k table
  pub from : (W : ℕ) → Solves table W → SolvesPlaces k keys rows m W
  pub into : (W : ℕ) → SolvesPlaces k keys rows m W → Solves table W

-- No equation yet.
pub system-start : (k : ℕ) (keys : List Key) (rows : List ℕ) → System k keys rows 0 (replicate (suc k) 0)
system-start k keys rows =
    record { sound = empty-table k; from = λ W s v lt. absurd (omega arith); into = λ W s. empty-solved k W }

-- The equation of one place more.
pub system-turn : {k : ℕ} {keys : List Key} {rows : List ℕ} {m : ℕ} {table after : List ℕ} → System k keys rows m table
    → Inserted k table (equation_of k keys rows m) after → System k keys rows (suc m) after
system-turn {k} {keys} {rows} {m} {table} {after} s i = record {
  sound = i.sound;
  from = from';
  into = λ W h. i.into W (s.into W (λ v lt. h v (omega arith))) (h m (omega arith));
}
  where
    from' : (W : ℕ) → Solves after W → SolvesPlaces k keys rows (suc m) W
    from' W h v lt = go (ℕ_discrete v m)
      where
        go : Dec (v ≡ m) → parity (equation_of k keys rows v) W ≡ 0
        go (yes e) = rw e (i.from W h).1
        go (no n) = s.from W (i.from W h).0 v (omega arith)

-- A word with the constant has it above its k bits.
constant-top : (k word : ℕ) → word < 2 ^ k → with_constant k word / 2 ^ k ≡ 1
unfolding with_constant
constant-top k word lt = high 1 k lt

module _ {k : ℕ} {keys : List Key} {rows : List ℕ} {m : ℕ} {table : List ℕ} (all : Rows k keys rows) (s : System k keys rows m table) where
  -- The constant alone among the first equations: no word makes the places all different.
  pub least-none : m ≤ length keys → (get_or table k 0 ≡ 0 → ⊥) → least_of_rows k keys rows ≡ None
  unfolding least_of_rows
  least-none le full =
      first_out (rows_fill keys rows) (2 ^ k) (λ word lt. not-eq-not.0 (λ fills.
      constant-none s.sound full (with_constant k word) (constant-top k word lt)
      (s.into (with_constant k word) (λ v below. solves-of-fills k word lt all fills v (omega arith)))))

  -- With all equations in the table, its least solution is the least word that makes them all different.
  pub least-some : m ≡ length keys → (W : ℕ) → LeastSolution k table W → least_of_rows k keys rows ≡ Some (W % 2 ^ k)
  unfolding least_of_rows with_constant
  least-some whole W d =
      first_found (rows_fill keys rows) (2 ^ k) (W % 2 ^ k) below
      (fills-of-solves k (W % 2 ^ k) below all (rw (← whole, ← own) (s.from W d.solves)))
      (λ w lt. not-eq-not.0 (lower w lt (omega (arith, below))))
    where
      below : W % 2 ^ k < 2 ^ k
      below = mod-lt W (pow_pos k)

      own : W ≡ with_constant k (W % 2 ^ k)
      own = sym (split W k) ∙ ap (λ (x : ℕ). x * 2 ^ k + W % 2 ^ k) d.top

      lower : (w : ℕ) → w < W % 2 ^ k → w < 2 ^ k → rows_fill keys rows w ≡ true → ⊥
      lower w lt lw fills =
          let solved = s.into (with_constant k w) (rw whole (solves-of-fills k w lw all fills)) in
          omega (arith, d.least (with_constant k w) (constant-top k w lw) solved, own)
