-- A field read column by column. Assumes nothing.
use Rattle.std.proofs.Common.{◌≡◌, ℕ, suc, ◌+◌, ◌*◌, ◌%◌, ◌<◌, ◌≤◌, List, [], ◌∷◌, ◌++◌, length, get_or, take, drop, sym, ◌∙◌}
use Rattle.std.proofs.Common.{zero, add-one, arith, length-take, length-drop, length-take-le, take-suc, take-append-drop}
use Rattle.std.specs.Prelude.{Option, None, Some}
use Rattle.std.proofs.lemmas.Option.{none-some}
use native.Mathlib.Nat.{pow-le-pow_right}
use Rattle.lists.proofs.FirstLaws.{none-of-never}
use Rattle.columns.specs.Columns.{leading_from}
use Rattle.columns.specs.ColumnsLaws.{leading_behind, leading-append}
use Rattle.text.specs.Field.{field}
use Rattle.text.proofs.FieldLaws.{field-blank, field-other-length}
use Rattle.text.proofs.Leading.{leading-below, field-digit, field-ends}
use Rattle.text.proofs.Lines.{digit-of, no_digit}

-- A field that the text cuts off is none.
pub field-cut-off : (bytes : List ℕ) (at width : ℕ) → length bytes < at + width → None ≡ field width (take width (drop at bytes))
field-cut-off bytes at zero h = sym (field-blank (take zero (drop at bytes)))
field-cut-off bytes at (suc width) h =
    sym (field-other-length (suc width) (take (suc width) (drop at bytes)) (λ e. omega (arith, simp (length-take, length-drop) at e)))

-- A field with a last column has that many leading ones, and one.
pub field-split : (xs : List ℕ) (width : ℕ) (leading : List ℕ) (last : ℕ) → length xs ≡ width
    → (xs ≡ leading ++ (last ∷ [])) × (length leading + 1 ≡ length xs)
    → field width xs ≡ field (suc (length leading)) (leading ++ (last ∷ []))
field-split xs width leading last long (is, more) = let e : width ≡ suc (length leading) = omega arith in rw (e, is)

module _ (leading : List ℕ) where
  -- The number that the first i leading columns read as fits: there are at most 18.
  pub leads-below : (i v : ℕ) → leading_from 0 (take i leading) ≡ Some v → i ≤ length leading → length leading ≤ 18
      → v < 1000000000000000000
  leads-below i v reads within few =
      let k = rw (length-take-le i leading within) at (leading-below (take i leading) reads) in
      omega (arith, k, pow-le-pow_right {n = 10} (omega arith) {i = i} {j = 18} (omega arith))

  -- One column more.
  more : (i v : ℕ) → leading_from 0 (take i leading) ≡ Some v → i < length leading
      → leading_from v (get_or leading i 0 ∷ []) ≡ leading_from 0 (take (i + 1) leading)
  unfolding leading_behind
  more i v reads lt =
      sym (rw (add-one i, take-suc leading i 0 lt) (leading-append 0 (take i leading) (get_or leading i 0 ∷ []) ∙ rw reads))

  pub leads-turn : (i v : ℕ) {n : ℕ} → leading_from 0 (take i leading) ≡ Some v → i < length leading
      → Some n ≡ leading_from v (get_or leading i 0 ∷ []) → leading_from 0 (take (i + 1) leading) ≡ Some n
  leads-turn i v reads lt e = sym (e ∙ more i v reads lt)

  -- The field is these columns and a last one: what is read of a field is read of all its columns, and the last is a digit.
  module _ (last : ℕ) where
    abbrev whole : Option ℕ
    whole = field (suc (length leading)) (leading ++ (last ∷ []))

    pub leads-none : (i v : ℕ) → leading_from 0 (take i leading) ≡ Some v → i < length leading
        → None ≡ leading_from v (get_or leading i 0 ∷ []) → None ≡ whole
    unfolding leading_behind
    leads-none i v reads lt e = sym (none-of-never whole (λ n f.
        let behind = drop (i + 1) leading in
        let all = rw (← take-append-drop (i + 1) leading) at (field-ends leading last n f).leads in
        none-some _ (rw (← more i v reads lt, ← e) at (sym (leading-append 0 (take (i + 1) leading) behind) ∙ all))))

    module _ (v x : ℕ) (reads : leading_from 0 leading ≡ Some v) (e : (x + 48) % 256 ≡ last) where
      pub leads-no-digit : x < 256 → 10 ≤ x → None ≡ whole
      leads-no-digit h l = sym (none-of-never whole (λ n f. no_digit e h l (omega arith) (field-ends leading last n f).digit))

      pub leads-digit : x < 10 → Some (v * 10 + x) ≡ whole
      leads-digit h = sym (rw (digit-of e h) (field-digit leading v x reads h))
