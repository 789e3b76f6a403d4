-- The equation of a place under a word is the parity of the keys that the word's choices bring there; so a word solves the equations of
-- all places exactly where it makes the keys' places all different: n keys on n places are all different exactly where each place is
-- taken an odd number of times. Assumes nothing.
use Prim.Native.Nat.{ℕ, zero, suc, ◌+◌, ◌%◌, ◌^◌, ◌<◌}
use Rattle.std.specs.Prelude.{◌≡◌, refl, Bool, true, false, eqb, get_or, take, set}
use Rattle.std.proofs.Common.{sym, ◌∙◌, pow_pos, get_or-set_same, get_or-set_other, take-suc, length-take-le, eqb-true}
use Rattle.std.proofs.Math.Path.{ap, ap₂}
use Rattle.std.proofs.Math.Bool.{cond}
use mathlib.Core.List.{List, [], ◌∷◌, ◌++◌}
use native.Mathlib.Omega.{arith}
use Rattle.std.specs.Int.Bits.{bit_xor, xor_zero_r}
use Rattle.std.proofs.lemmas.Nat.{xor_lt}
use Rattle.std.proofs.Math.ListN.{length, length-map}
use Rattle.std.proofs.Math.Pow.{pow-lt}
use Rattle.std.proofs.lemmas.Bool.{eqb-false}
use Rattle.filling.specs.Filling.{Key, place_by, chosen, EachCandidate}
use Rattle.filling.proofs.FillingLaws.{chosen-length, chosen-candidate}
use Rattle.parity.specs.Parity.{parity}
use Rattle.parity.specs.ParityLaws.{parity-below, parity-zero, parity-xor, parity-low, parity-power}
use Rattle.parity.specs.Times.{times_in}
use Rattle.parity.specs.OddLaws.{odd-of-distinct, distinct-of-odd}
use Rattle.equations.specs.Equation.{row_choice, row_choices, rows_fill, with_constant, with_key, with_keys, equation_of}

-- n keys on n places, each with a row of k bits.
pub record Rows (k : ℕ) (keys : List Key) (rows : List ℕ) : Type 0 where
  pub each : length rows ≡ length keys
  pub fits : (i : ℕ) → get_or rows i 0 < 2 ^ k
  pub below : EachCandidate (λ x. x < length keys) keys

-- The word W, with bit k set, solves the equations of the places below m.
abbrev pub SolvesPlaces : ℕ → List Key → List ℕ → ℕ → ℕ → Type 0
SolvesPlaces k keys rows m W = (v : ℕ) → v < m → parity (equation_of k keys rows v) W ≡ 0

-- What a key adds under a condition has its parity under it.
cond-parity : (b : Bool) (x W : ℕ) → parity (cond b x 0) W ≡ cond b (parity x W) 0
cond-parity true x W = refl
cond-parity false x W = parity-zero W

-- One key: e is the parity so far, d that of its row and the word, a and b whether its places are the equation's, c what the others add.
key-sum : (e d : ℕ) (a b : Bool) (c : ℕ) → d < 2
    → (((e + cond a ((d + 1) % 2) 0) % 2 + cond b d 0) % 2 + c) % 2 ≡ (e + (cond (eqb d 1) (cond b 1 0) (cond a 1 0) + c)) % 2
key-sum e zero true true c lt = omega arith
key-sum e zero true false c lt = omega arith
key-sum e zero false true c lt = omega arith
key-sum e zero false false c lt = omega arith
key-sum e (suc zero) true true c lt = omega arith
key-sum e (suc zero) true false c lt = omega arith
key-sum e (suc zero) false true c lt = omega arith
key-sum e (suc zero) false false c lt = omega arith
key-sum e (suc (suc d)) a b c lt = absurd (omega arith)

-- The place that the choice takes is the equation's.
key-place : (v : ℕ) (key : Key) (choice : Bool)
    → ◌≡◌ {A = ℕ} (cond choice (cond (eqb v key.1) 1 0) (cond (eqb v key.0) 1 0)) (cond (eqb v (place_by choice key)) 1 0)
unfolding place_by
key-place v key true = refl
key-place v key false = refl

module _ (k word : ℕ) (lw : word < 2 ^ k) where
  abbrev W : ℕ
  W = with_constant k word

  -- The parity of an equation with one key more.
  key-parity : (v e : ℕ) (key : Key) (row : ℕ) → row < 2 ^ k
      → parity (with_key k v e key row) W
      ≡ ((parity e W + cond (eqb v key.0) ((parity row word + 1) % 2) 0) % 2 + cond (eqb v key.1) (parity row word) 0) % 2
  unfolding with_key with_constant
  key-parity v e key row lr =
      parity-xor (bit_xor e x) y W
      ∙ ap₂ (λ (m n : ℕ). (m + n) % 2) (parity-xor e x W ∙ ap (λ (m : ℕ). (parity e W + m) % 2) first) second
    where
      x : ℕ
      x = cond (eqb v key.0) (bit_xor row (2 ^ k)) 0

      y : ℕ
      y = cond (eqb v key.1) row 0

      own : parity row W ≡ parity row word
      own = parity-low k row 1 word lr lw

      first : parity x W ≡ cond (eqb v key.0) ((parity row word + 1) % 2) 0
      first =
          cond-parity (eqb v key.0) (bit_xor row (2 ^ k)) W
          ∙ ap (λ (m : ℕ). cond (eqb v key.0) m 0)
          (parity-xor row (2 ^ k) W ∙ ap₂ (λ (m n : ℕ). (m + n) % 2) own (parity-power k word lw))

      second : parity y W ≡ cond (eqb v key.1) (parity row word) 0
      second = cond-parity (eqb v key.1) row W ∙ ap (λ (m : ℕ). cond (eqb v key.1) m 0) own

  -- The parity of an equation with all keys: with the keys that come to the place.
  keys-parity : (v e : ℕ) (keys : List Key) (rows : List ℕ) → length rows ≡ length keys → ((i : ℕ) → get_or rows i 0 < 2 ^ k)
      → parity (with_keys k v e keys rows) W ≡ (parity e W + times_in v (chosen keys (row_choices word rows))) % 2
  unfolding with_keys chosen row_choices times_in row_choice
  keys-parity v e [] rows l fits = omega (arith, parity-below e W)
  keys-parity v e (key ∷ keys) [] l fits = absurd (omega arith)
  keys-parity v e (key ∷ keys) (row ∷ rows) l fits =
      keys-parity v (with_key k v e key row) keys rows (omega arith) (λ i. fits (suc i))
      ∙ ap (λ (m : ℕ). (m + others) % 2) (key-parity v e key row (fits 0))
      ∙ key-sum (parity e W) (parity row word) (eqb v key.0) (eqb v key.1) others (parity-below row word)
      ∙ ap (λ (m : ℕ). (parity e W + (m + others)) % 2) (key-place v key (eqb (parity row word) 1))
    where
      others : ℕ
      others = times_in v (chosen keys (row_choices word rows))

  -- The equation of a place: 1 and the number of keys that the word's choices bring there.
  pub equation-parity : (v : ℕ) (keys : List Key) (rows : List ℕ) → length rows ≡ length keys → ((i : ℕ) → get_or rows i 0 < 2 ^ k)
      → parity (equation_of k keys rows v) W ≡ (1 + times_in v (chosen keys (row_choices word rows))) % 2
  unfolding equation_of with_constant
  equation-parity v keys rows l fits =
      keys-parity v (2 ^ k) keys rows l fits ∙ rw (parity-power k word lw)

  module _ {keys : List Key} {rows : List ℕ} (all : Rows k keys rows) where
    -- A word makes a choice for each key,
    choices-each : length (row_choices word rows) ≡ length keys
    unfolding row_choices
    choices-each = length-map rows (row_choice word) ∙ all.each

    -- so that n places are chosen.
    places-each : length (chosen keys (row_choices word rows)) ≡ length keys
    places-each = chosen-length keys (row_choices word rows) choices-each

    -- A word that solves the equations of all places makes the places all different,
    pub fills-of-solves : SolvesPlaces k keys rows (length keys) (with_constant k word) → rows_fill keys rows word ≡ true
    unfolding rows_fill
    fills-of-solves solves =
        distinct-of-odd (length keys) (chosen keys (row_choices word rows)) places-each
        (λ v lt. omega (arith, equation-parity v keys rows all.each all.fits, solves v lt))

    -- and one that makes them all different solves them.
    pub solves-of-fills : rows_fill keys rows word ≡ true → SolvesPlaces k keys rows (length keys) (with_constant k word)
    unfolding rows_fill
    solves-of-fills fills v lt =
        let places = chosen keys (row_choices word rows) in
        let inside = chosen-candidate (λ x. x < length keys) keys (row_choices word rows) choices-each all.below in
        omega (
          arith,
          equation-parity v keys rows all.each all.fits,
          odd-of-distinct (length keys) places places-each inside fills v lt,
        )

-- An equation has k + 1 bits.
key_fits : (k v e : ℕ) (key : Key) (row : ℕ) → e < 2 ^ suc k → row < 2 ^ k → with_key k v e key row < 2 ^ suc k
unfolding with_key
key_fits k v e key row le lr =
    xor_lt (suc k) _ _ (xor_lt (suc k) e _ le (under (eqb v key.0) (xor_lt (suc k) row (2 ^ k) wide top))) (under (eqb v key.1) wide)
  where
    top : 2 ^ k < 2 ^ suc k
    top = pow-lt (omega arith)

    wide : row < 2 ^ suc k
    wide = omega (arith, top)

    under : {x : ℕ} (b : Bool) → x < 2 ^ suc k → cond b x 0 < 2 ^ suc k
    under true lt = lt
    under false lt = pow_pos (suc k)

pub equation-fits : (k : ℕ) (keys : List Key) (rows : List ℕ) (v : ℕ) → ((i : ℕ) → get_or rows i 0 < 2 ^ k)
    → equation_of k keys rows v < 2 ^ suc k
unfolding equation_of with_keys
equation-fits k keys rows v fits = go (2 ^ k) keys rows (pow-lt (omega arith)) fits
  where
    go : (e : ℕ) (keys : List Key) (rows : List ℕ) → e < 2 ^ suc k → ((i : ℕ) → get_or rows i 0 < 2 ^ k)
        → with_keys k v e keys rows < 2 ^ suc k
    go e [] rows le fits = le
    go e (key ∷ keys) [] le fits = le
    go e (key ∷ keys) (row ∷ rows) le fits = go (with_key k v e key row) keys rows (key_fits k v e key row le (fits 0)) (λ i. fits (suc i))

-- No key yet.
pub equation-none : (k : ℕ) (keys : List Key) (rows : List ℕ) (v : ℕ) → equation_of k (take 0 keys) (take 0 rows) v ≡ 2 ^ k
unfolding equation_of with_keys
equation-none k keys rows v = refl

-- One key more, at the end.
keys-more : (k v e : ℕ) (keys : List Key) (rows : List ℕ) (key : Key) (row : ℕ) → length rows ≡ length keys
    → with_keys k v e (keys ++ (key ∷ [])) (rows ++ (row ∷ [])) ≡ with_key k v (with_keys k v e keys rows) key row
unfolding with_keys
keys-more k v e [] [] key row l = refl
keys-more k v e [] (r ∷ rows) key row l = absurd (omega arith)
keys-more k v e (q ∷ keys) [] key row l = absurd (omega arith)
keys-more k v e (q ∷ keys) (r ∷ rows) key row l = keys-more k v (with_key k v e q r) keys rows key row (omega arith)

pub equation-more : (k : ℕ) (keys : List Key) (rows : List ℕ) (v i : ℕ) → length rows ≡ length keys → i < length keys
    → equation_of k (take (suc i) keys) (take (suc i) rows) v
    ≡ with_key k v (equation_of k (take i keys) (take i rows) v) (get_or keys i (0, 0)) (get_or rows i 0)
unfolding equation_of
equation-more k keys rows v i l lt =
    let few : i < length rows = omega arith in
    rw (take-suc keys i (0, 0) lt, take-suc rows i 0 few)
    (keys-more k v (2 ^ k) (take i keys) (take i rows) (get_or keys i (0, 0)) (get_or rows i 0)
    (length-take-le i rows (omega arith) ∙ sym (length-take-le i keys (omega arith))))

-- An exclusive `or` into cell p is one into each cell v under the condition that it is p.
pub cell-xor : (cells : List ℕ) (p x v : ℕ) → p < length cells
    → get_or (set cells p (bit_xor (get_or cells p 0) x)) v 0 ≡ bit_xor (get_or cells v 0) (cond (eqb v p) x 0)
cell-xor cells p x v lt = go (eqb v p) refl
  where
    go : (b : Bool) → eqb v p ≡ b → get_or (set cells p (bit_xor (get_or cells p 0) x)) v 0 ≡ bit_xor (get_or cells v 0) (cond b x 0)
    go true e = rw (eqb-true v p e) (get_or-set_same cells p (bit_xor (get_or cells p 0) x) 0 lt)
    go false e = get_or-set_other cells p v (bit_xor (get_or cells p 0) x) 0 (eqb-false v p e) ∙ sym (xor_zero_r (get_or cells v 0))
