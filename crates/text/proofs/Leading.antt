-- A field is its leading columns and a digit behind them. Assumes nothing.
use Rattle.std.proofs.Common.{◌≡◌, ℕ, zero, suc, ◌+◌, ◌*◌, ◌/◌, ◌%◌, ◌^◌, ◌<◌, ◌≤◌, Bool, true, false, eqb, List, [], ◌∷◌, ◌++◌, length}
use Rattle.std.proofs.Common.{get_or, take, drop, sym, refl, ap, ◌∙◌, append-nil, add-zero, pow-suc, arith, length-drop, length-take-le}
use Rattle.std.proofs.Common.{get_or-drop, take-suc, take_at, le-ltb, lt-ltb, eq-eqb, ne_eqb, eqb-true}
use Rattle.std.specs.Prelude.{None, Some}
use Rattle.std.proofs.lemmas.Option.{same_Some}
use lib.Seq.{append_snoc, get_or_at}
use Rattle.columns.specs.Columns.{column_of, leading_from}
use Rattle.columns.specs.ColumnsLaws.{leading_behind, leading-append, leading-first}
use Rattle.text.specs.Figure.{leading, figure}
use Rattle.text.proofs.FigureLaws.{leading_length}
use Rattle.text.specs.Field.{field}
use Rattle.text.proofs.FieldLaws.{field-figure, field-only}

-- The lower half of a column's byte is its digit.
column-low : (v d : ℕ) → d < 10 → column_of (v * 10 + d) d % 16 ≡ d
unfolding column_of
column-low v d h = go (eqb (v * 10 + d) 0) refl
  where
    go : (b : Bool) → eqb (v * 10 + d) 0 ≡ b → column_of (v * 10 + d) d % 16 ≡ d
    go true e = rw e (omega (arith, eqb-true (v * 10 + d) 0 e))
    go false e = rw e (omega arith)

-- Behind v, the column of digit d.
column-read : (v d : ℕ) → d < 10 → leading_from v (column_of (v * 10 + d) d ∷ []) ≡ Some (v * 10 + d)
unfolding leading_from
column-read v d h = rw (column-low v d h, lt-ltb d 10 h, eq-eqb (column_of (v * 10 + d) d) (column_of (v * 10 + d) d) refl)

-- A byte behind v, by the tests of its reader: its lower half is no digit, it is another column's, or it is the column of its digit.
module _ (v byte : ℕ) where
  pub column-no-digit : 10 ≤ byte % 16 → None ≡ leading_from v (byte ∷ [])
  unfolding leading_from
  column-no-digit h = rw (le-ltb (byte % 16) 10 h)

  pub column-other : (byte ≡ column_of (v * 10 + byte % 16) (byte % 16) → ⊥) → byte % 16 < 10 → None ≡ leading_from v (byte ∷ [])
  unfolding leading_from
  column-other other h = rw (lt-ltb (byte % 16) 10 h, ne_eqb byte (column_of (v * 10 + byte % 16) (byte % 16)) other)

  pub column-same : byte ≡ column_of (v * 10 + byte % 16) (byte % 16) → byte % 16 < 10
      → Some (v * 10 + byte % 16) ≡ leading_from v (byte ∷ [])
  unfolding leading_from
  column-same same h = rw (lt-ltb (byte % 16) 10 h, eq-eqb byte (column_of (v * 10 + byte % 16) (byte % 16)) same)

-- A number's leading columns read as it.
pub leading-reads : (k n : ℕ) → n < 10 ^ k → leading_from 0 (leading k n) ≡ Some n
unfolding leading leading_from leading_behind column_of
leading-reads zero n h = ap Some (omega arith)
leading-reads (suc k) n h =
    let l : n / 10 < 10 ^ k = omega (arith, pow-suc 10 k) in
    let whole : n / 10 * 10 + n % 10 ≡ n = omega arith in
    leading-append 0 (leading k (n / 10)) _
    ∙ rw (leading-reads k (n / 10) l) (rw whole at (column-read (n / 10) (n % 10) (omega arith)))

-- One column more, with digit d.
leading-more : (k v d : ℕ) → d < 10 → leading (suc k) (v * 10 + d) ≡ leading k v ++ (column_of (v * 10 + d) d ∷ [])
unfolding leading column_of
leading-more k v d h =
    let q : (v * 10 + d) / 10 ≡ v = omega arith in
    let r : (v * 10 + d) % 10 ≡ d = omega arith in
    rw (q, r)

-- What reads as leading columns behind those of v is its number's.
leading-behind : (v k : ℕ) (bytes : List ℕ) {n : ℕ} → v < 10 ^ k → leading_from v bytes ≡ Some n
    → (leading k v ++ bytes ≡ leading (k + length bytes) n) × (n < 10 ^ (k + length bytes))
unfolding leading_from
leading-behind v k [] {n} h e =
    let same : v ≡ n = same_Some v n e in
    (append-nil (leading k v) ∙ rw (add-zero k, same), rw (add-zero k, ← same) h)
leading-behind v k (byte ∷ bytes) {n} h e =
    let m = v * 10 + byte % 16 in
    let column = leading-first v byte bytes e in
    let more : k + suc (length bytes) ≡ suc k + length bytes = omega arith in
    let front : leading (suc k) m ≡ leading k v ++ (byte ∷ []) = leading-more k v (byte % 16) column.digit ∙ rw (← column.byte-is) in
    let rest = leading-behind m (suc k) bytes (omega (arith, pow-suc 10 k, column.digit)) column.rest in
    rw more (sym (append_snoc (leading k v) byte bytes) ∙ rw (← front) rest.0, rest.1)

pub leading-below : (xs : List ℕ) {n : ℕ} → leading_from 0 xs ≡ Some n → n < 10 ^ length xs
leading-below xs e = let z : 0 + length xs ≡ length xs = omega arith in rw z at (leading-behind 0 0 xs (omega arith) e).1

-- Behind leading columns that read as v, a digit ends the field.
pub field-digit : (xs : List ℕ) (v d : ℕ) → leading_from 0 xs ≡ Some v → d < 10
    → field (suc (length xs)) (xs ++ ((48 + d) ∷ [])) ≡ Some (v * 10 + d)
unfolding leading figure
field-digit xs v d e h =
    let z : 0 + length xs ≡ length xs = omega arith in
    let (is, below) = rw z at (leading-behind 0 0 xs (omega arith) e) in
    let q : (v * 10 + d) / 10 ≡ v = omega arith in
    let r : (v * 10 + d) % 10 ≡ d = omega arith in
    let bytes : xs ++ ((48 + d) ∷ []) ≡ figure (suc (length xs)) (v * 10 + d) =
    rw (q, r) (ap (λ (front : List ℕ). front ++ ((48 + d) ∷ [])) is) in
    rw bytes (field-figure (suc (length xs)) (v * 10 + d) (omega arith) (omega (arith, pow-suc 10 (length xs), below)))

-- Nothing else is a field: what reads as n has n's leading columns and its last digit.
pub record Ends (xs : List ℕ) (byte n : ℕ) : Type 0 where
  pub leads : leading_from 0 xs ≡ Some (n / 10)
  pub digit : byte ≡ 48 + n % 10

pub field-ends : (xs : List ℕ) (byte n : ℕ) → field (suc (length xs)) (xs ++ (byte ∷ [])) ≡ Some n → Ends xs byte n
unfolding figure
field-ends xs byte n e =
    let k = length xs in
    let (is, below) = field-only (suc k) n (xs ++ (byte ∷ [])) e in
    let same = leading_length k (n / 10) in
    let front : xs ≡ leading k (n / 10) =
    sym (take_at xs (byte ∷ []) k refl) ∙ rw is (take_at (leading k (n / 10)) ((48 + n % 10) ∷ []) k same) in
    record {
      leads = ap (leading_from 0) front ∙ leading-reads k (n / 10) (omega (arith, pow-suc 10 k));
      digit = sym (get_or_at xs byte [] 0 k refl) ∙ rw is (get_or_at (leading k (n / 10)) (48 + n % 10) [] 0 k same);
    }

-- The field of k columns and one, as a part of a text.
pub part_field : (k at : ℕ) (bytes : List ℕ) → at + suc k ≤ length bytes
    → field (suc k) (take (suc k) (drop at bytes))
    ≡ field (suc (length (take k (drop at bytes)))) (take k (drop at bytes) ++ (get_or bytes (at + k) 0 ∷ []))
part_field k at bytes h =
    let room : k < length (drop at bytes) = simp length-drop (omega arith) in
    rw (length-take-le k (drop at bytes) (omega arith), take-suc (drop at bytes) k 0 room, get_or-drop at bytes k 0)
