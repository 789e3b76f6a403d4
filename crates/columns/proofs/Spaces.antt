-- Leading columns, tested in one word. Assumes nothing.
use mathlib.Core.Path.{◌≡◌, refl, sym, ◌∙◌, ap}
use mathlib.Core.Bool.{Bool, true, false, cond, ◌&&◌}
use mathlib.Core.List.{List, [], ◌∷◌, ◌++◌}
use Rattle.std.specs.Prelude.{Option, None, Some, option_map}
use Rattle.std.proofs.lemmas.Option.{none-some}
use Prim.Native.Nat.{ℕ, zero, suc, ◌+◌, ◌*◌, ◌-◌, ◌/◌, ◌%◌, ◌≤◌, ◌<◌}
use native.Mathlib.Omega.{arith}
use lib.Bits.{bit_and, and_block, and_le_r}
use lib.Dec.{eqb, lit<}
use lib.ListN.{length, get_or, take, drop}
use lib.Seq.{take-add}
use borrow.Author.Tests.{eq-eqb, ne_eqb, eqb-true, eqb-false, lt-ltb}
use Rattle.digits.specs.Digits.{packed}
use Rattle.digits.proofs.DigitsLaws.{Below, packed-same}
use Rattle.columns.specs.Columns.{column_of, leading_from, both, fours_in}
use Rattle.columns.specs.ColumnsLaws.{leading-first}
use Rattle.columns.specs.Word.{each, low, value_behind, number_in, written, columns_read}
use Rattle.columns.proofs.Bytes.{four-bytes-at, eight-small, and_byte, bit-sixteen, low-length, digits-only, digits-clear}

-- The leading columns with these digits, behind those of v.
unfoldable columns_from : ℕ → List ℕ → List ℕ
columns_from v [] = []
columns_from v (d ∷ ds) = column_of (v * 10 + d) d ∷ columns_from (v * 10 + d) ds

columns-length : (v : ℕ) (ds : List ℕ) → length (columns_from v ds) ≡ length ds
unfolding columns_from
columns-length v [] = refl
columns-length v (d ∷ ds) = ap suc (columns-length (v * 10 + d) ds)

-- A column is a space where the number up to it is 0, and then its digit is 0; else a digit.
column-space : (n d : ℕ) → n ≡ 0 → column_of n d ≡ 32
unfolding column_of
column-space n d e = rw e

column-digit : (n d : ℕ) → 0 < n → column_of n d ≡ 48 + d
unfolding column_of
column-digit n d p = rw (ne_eqb n 0 (λ e. omega arith))

column-byte : (n d : ℕ) → d < 10 → column_of n d < 256
unfolding column_of
column-byte n d h = go (eqb n 0)
  where
    go : (b : Bool) → cond b 32 (48 + d) < 256
    go true = omega arith
    go false = omega arith

columns-bytes : (v : ℕ) (ds : List ℕ) → Below 10 ds → Below 256 (columns_from v ds)
unfolding columns_from Below
columns-bytes v [] h = tt
columns-bytes v (d ∷ ds) h = (column-byte (v * 10 + d) d h.0, columns-bytes (v * 10 + d) ds h.1)

-- Bytes read as leading columns exactly where they are those of their digits.
leading-columns : (v : ℕ) (bytes : List ℕ) → Below 10 (low bytes) → bytes ≡ columns_from v (low bytes)
    → leading_from v bytes ≡ Some (value_behind v (low bytes))
unfolding leading_from columns_from low value_behind Below
leading-columns v [] h e = refl
leading-columns v (byte ∷ bytes) h e =
    let first : byte ≡ column_of (v * 10 + byte % 16) (byte % 16) = cc in
    let rest : bytes ≡ columns_from (v * 10 + byte % 16) (low bytes) = cc in
    rw (lt-ltb (byte % 16) 10 h.0, eq-eqb byte (column_of (v * 10 + byte % 16) (byte % 16)) first)
    (leading-columns (v * 10 + byte % 16) bytes h.1 rest)

leading-only : (v n : ℕ) (bytes : List ℕ) → leading_from v bytes ≡ Some n → Below 10 (low bytes) × (bytes ≡ columns_from v (low bytes))
unfolding leading_from columns_from low Below
leading-only v n [] e = (tt, refl)
leading-only v n (byte ∷ bytes) e =
    let column = leading-first v byte bytes e in
    let (digits, same) = leading-only (v * 10 + byte % 16) n bytes column.rest in
    ((column.digit, digits), cc (column.byte-is, same))

-- What is added to the digits of k columns and one: 127 above a 255 for each column before it.
unfoldable pub carry : ℕ → ℕ
carry zero = 127
carry (suc k) = 255 + 256 * carry k

-- Once a digit is not 0, the carry has come out of its column and no bit 16 is set any more.
clear : (k : ℕ) (ds : List ℕ) → length ds ≡ suc k → Below 10 ds → bit_and (packed ds + carry k + 1) (each (suc k) 16) ≡ 0
unfolding packed each Below carry
clear zero [] l h = absurd (omega arith)
clear (suc k) [] l h = absurd (omega arith)
clear zero (d ∷ e ∷ ds) l h = absurd (omega arith)
clear zero (d ∷ []) l h =
    let sum : d + 256 * 0 + 127 + 1 ≡ d + 128 + 256 * 0 = omega arith in
    let eight : (d + 128) / 16 ≡ 8 = omega (arith, h.0) in
    rw (sum, and_byte (d + 128) 16 0 0 (omega (arith, h.0)) (lit< tt), bit-sixteen (d + 128), eight)
clear (suc k) (d ∷ ds) l h =
    let more = packed ds + carry k + 1 in
    let sum : d + 256 * packed ds + (255 + 256 * carry k) + 1 ≡ d + 256 * more = omega arith in
    let None : d / 16 ≡ 0 = omega (arith, h.0) in
    rw (sum, and_byte d 16 more (each (suc k) 16) (omega (arith, h.0)) (lit< tt), bit-sixteen d, None, clear k ds (omega arith) h.1)

-- Behind a number that is not 0 every column is a digit.
columns-digits : (v : ℕ) (ds : List ℕ) → 0 < v → packed (columns_from v ds) ≡ packed ds + each (length ds) 48
unfolding packed each columns_from
columns-digits v [] p = refl
columns-digits v (d ∷ ds) p =
    rw (column-digit (v * 10 + d) d (omega arith), columns-digits (v * 10 + d) ds (omega arith)) (omega arith)

-- The columns of digits in a word: 16 is missing where bit 16 is set.
columns-word : (k : ℕ) (ds : List ℕ) → length ds ≡ suc k → Below 10 ds
    → packed (columns_from 0 ds) + bit_and (packed ds + carry k) (each (suc k) 16) ≡ packed ds + each (suc k) 48
unfolding packed each Below carry columns_from
columns-word zero [] l h = absurd (omega arith)
columns-word (suc k) [] l h = absurd (omega arith)
columns-word zero (d ∷ e ∷ ds) l h = absurd (omega arith)
columns-word zero (d ∷ []) l h =
    let sum : d + 256 * 0 + 127 ≡ d + 127 + 256 * 0 = omega arith in
    rw (sum, and_byte (d + 127) 16 0 0 (omega (arith, h.0)) (lit< tt), bit-sixteen (d + 127)) (go (eqb d 0) refl)
  where
    go : (b : Bool) → eqb d 0 ≡ b
        → column_of (0 * 10 + d) d + 256 * 0 + ((d + 127) / 16 % 2 * 16 + 256 * bit_and 0 0) ≡ d + 256 * 0 + (48 + 256 * 0)
    go true e = let z : d ≡ 0 = eqb-true d 0 e in rw z (rw column-space (omega arith))
    go false e = let n : d ≡ 0 → ⊥ = eqb-false d 0 e in rw (column-digit (0 * 10 + d) d (omega (arith, n))) (omega (arith, n, h.0))
columns-word (suc k) (d ∷ ds) l h = go (columns-word k ds (omega arith) h.1) (eqb d 0) refl
  where
    go : packed (columns_from 0 ds) + bit_and (packed ds + carry k) (each (suc k) 16) ≡ packed ds + each (suc k) 48
        → (b : Bool) → eqb d 0 ≡ b
        → column_of (0 * 10 + d) d + 256 * packed (columns_from (0 * 10 + d) ds)
        + bit_and (d + 256 * packed ds + (255 + 256 * carry k)) (16 + 256 * each (suc k) 16)
        ≡ d + 256 * packed ds + (48 + 256 * each (suc k) 48)
    go ih true e =
        let z : d ≡ 0 = eqb-true d 0 e in
        let more = packed ds + carry k in
        let sum : 0 + 256 * packed ds + (255 + 256 * carry k) ≡ 255 + 256 * more = omega arith in
        rw (z, column-space (0 * 10 + 0) 0 refl, sum, and_byte 255 16 more (each (suc k) 16) (lit< tt) (lit< tt))
        (omega arith)
    go ih false e =
        let n : d ≡ 0 → ⊥ = eqb-false d 0 e in
        let more = packed ds + carry k + 1 in
        let sum : d + 256 * packed ds + (255 + 256 * carry k) ≡ d - 1 + 256 * more = omega (arith, n) in
        let None : (d - 1) / 16 ≡ 0 = omega (arith, h.0) in
        let tail : length ds ≡ suc k = omega arith in
        rw (
          column-digit (0 * 10 + d) d (omega (arith, n)),
          columns-digits (0 * 10 + d) ds (omega (arith, n)),
          sum,
          and_byte (d - 1) 16 more (each (suc k) 16) (omega (arith, h.0)) (lit< tt),
          bit-sixteen (d - 1),
          None,
          clear k ds tail h.1,
          tail,
        )
        (omega arith)

-- So the tests of a word say that its bytes are leading columns, of the number that its digits make.
module _ (k : ℕ) (bytes : List ℕ) (long : length bytes ≡ suc k) (small : Below 256 bytes) where
  expected : ℕ
  expected = packed (low bytes) + each (length bytes) 48 - bit_and (packed (low bytes) + carry k) (each (length bytes) 16)

  columns-expected : Below 10 (low bytes) → packed (columns_from 0 (low bytes)) ≡ expected
  unfolding expected
  columns-expected h = rw long (omega (arith, columns-word k (low bytes) (low-length bytes ∙ long) h))

  sixes : ℕ
  sixes = bit_and (packed (low bytes) + each (length bytes) 6) (each (length bytes) 16)

  tested : (p q : Bool) → eqb sixes 0 ≡ p → eqb (packed bytes) expected ≡ q → leading_from 0 bytes ≡ None → (p && q) ≡ false
  unfolding sixes
  tested false q f g e = refl
  tested true false f g e = refl
  tested true true f g e =
      let digits = digits-only bytes (eqb-true sixes 0 f) in
      let same = packed-same bytes (columns_from 0 (low bytes)) (sym (columns-length 0 (low bytes) ∙ low-length bytes)) small
      (columns-bytes 0 (low bytes) digits) (eqb-true (packed bytes) expected g ∙ sym (columns-expected digits)) in
      absurd (none-some (value_behind 0 (low bytes)) (sym e ∙ leading-columns 0 bytes digits same))

  pub written-leading : cond (written (carry k) bytes) (Some (number_in bytes)) None ≡ leading_from 0 bytes
  unfolding written number_in expected sixes
  written-leading = go (leading_from 0 bytes) refl
    where
      go : (o : Option ℕ) → leading_from 0 bytes ≡ o → cond (written (carry k) bytes) (Some (number_in bytes)) None ≡ leading_from 0 bytes
      go None e = rw (e, tested (eqb sixes 0) (eqb (packed bytes) expected) refl refl e)
      go (Some n) e =
          let (digits, same) = leading-only 0 n bytes e in
          let packs : packed bytes ≡ expected = ap packed same ∙ columns-expected digits in
          rw (eq-eqb sixes 0 (digits-clear bytes digits), eq-eqb (packed bytes) expected packs) (sym (leading-columns 0 bytes digits same))

-- Two numbers in one word: each half is tested by itself.
packed-halves : (a b c d e f g h : ℕ) → packed (a ∷ b ∷ c ∷ d ∷ e ∷ f ∷ g ∷ h ∷ [])
    ≡ packed (a ∷ b ∷ c ∷ d ∷ []) + 4294967296 * packed (e ∷ f ∷ g ∷ h ∷ [])
unfolding packed
packed-halves a b c d e f g h = omega arith

below-packed : (bound a b c d : ℕ) → Below bound (a ∷ b ∷ c ∷ d ∷ []) → bound ≤ 256 → packed (a ∷ b ∷ c ∷ d ∷ []) ≤ 16843009 * (bound - 1)
unfolding packed Below
below-packed bound a b c d h i = omega arith

low_below : (bytes : List ℕ) → Below 16 (low bytes)
unfolding low Below
low_below [] = tt
low_below (byte ∷ bytes) = (omega arith, low_below bytes)

eqb-halves : (x y u v : ℕ) → x < 4294967296 → u < 4294967296 → eqb (x + 4294967296 * y) (u + 4294967296 * v) ≡ (eqb x u && eqb y v)
eqb-halves x y u v h i = go (eqb x u) (eqb y v) refl refl
  where
    go : (p q : Bool) → eqb x u ≡ p → eqb y v ≡ q → eqb (x + 4294967296 * y) (u + 4294967296 * v) ≡ (p && q)
    go true true f g = eq-eqb (x + 4294967296 * y) (u + 4294967296 * v) (omega (arith, eqb-true x u f, eqb-true y v g))
    go true false f g =
        let n : y ≡ v → ⊥ = eqb-false y v g in
        ne_eqb (x + 4294967296 * y) (u + 4294967296 * v) (λ e. n (omega arith))
    go false q f g =
        let n : x ≡ u → ⊥ = eqb-false x u f in
        ne_eqb (x + 4294967296 * y) (u + 4294967296 * v) (λ e. n (omega arith))

and-halves : (x y m n : ℕ) → x < 4294967296 → m < 4294967296
    → bit_and (x + 4294967296 * y) (m + 4294967296 * n) ≡ bit_and x m + 4294967296 * bit_and y n
and-halves x y m n h i =
    let p : x + 4294967296 * y ≡ y * 4294967296 + x = omega arith in
    let q : m + 4294967296 * n ≡ n * 4294967296 + m = omega arith in
    rw (p, q) (and_block 32 y n x m h i ∙ omega arith)

and-swap : (p q r s : Bool) → ((p && q) && (r && s)) ≡ ((p && r) && (q && s))
and-swap false q r s = refl
and-swap true true r s = refl
and-swap true false true s = refl
and-swap true false false s = refl

cond_map : (p : Bool) (m n : ℕ)
    → option_map (λ (x : ℕ × ℕ). x.0 * 10000 + x.1) (cond p (Some (m, n)) None) ≡ cond p (Some (m * 10000 + n)) None
cond_map true m n = refl
cond_map false m n = refl

cond_both : (p q : Bool) (m n : ℕ) → cond (p && q) (Some (m, n)) None ≡ both (cond p (Some m) None) (cond q (Some n) None)
unfolding both
cond_both true true m n = refl
cond_both true false m n = refl
cond_both false q m n = refl

module _ (a b c d e f g h : ℕ) (small : Below 256 (a ∷ b ∷ c ∷ d ∷ e ∷ f ∷ g ∷ h ∷ [])) where
  abbrev first : List ℕ
  first = a ∷ b ∷ c ∷ d ∷ []

  abbrev last : List ℕ
  last = e ∷ f ∷ g ∷ h ∷ []

  first_small : Below 256 first
  unfolding Below
  first_small = let (i, (j, (k, (l, rest)))) = small in (i, (j, (k, (l, tt))))

  last-small : Below 256 last
  unfolding Below
  last-small = small.1.1.1.1

  written-halves : written 9223372034707292159 (first ++ last) ≡ (written 2147483647 first && written 2147483647 last)
  unfolding written each low
  written-halves =
      let m = packed (low first) in
      let n = packed (low last) in
      let mb = below-packed 16 (a % 16) (b % 16) (c % 16) (d % 16) (low_below first) (omega arith) in
      let pb = below-packed 256 a b c d first_small (omega arith) in
      let six : m + 4294967296 * n + 434041037028460038 ≡ m + 101058054 + 4294967296 * (n + 101058054) = omega arith in
      let more : m + 4294967296 * n + 9223372034707292159 ≡ m + 2147483647 + 4294967296 * (n + 2147483647) = omega arith in
      let s = bit_and (m + 2147483647) 269488144 in
      let t = bit_and (n + 2147483647) 269488144 in
      let sb = and_le_r (m + 2147483647) 269488144 in
      let tb = and_le_r (n + 2147483647) 269488144 in
      let xb = and_le_r (m + 101058054) 269488144 in
      let columns : m + 4294967296 * n + 3472328296227680304 - (s + 4294967296 * t)
      ≡ m + 808464432 - s + 4294967296 * (n + 808464432 - t) = omega arith in
      rw (
        packed-halves a b c d e f g h,
        packed-halves (a % 16) (b % 16) (c % 16) (d % 16) (e % 16) (f % 16) (g % 16) (h % 16),
        six,
        more,
        and-halves (m + 101058054) (n + 101058054) 269488144 269488144 (omega arith) (lit< tt),
        and-halves (m + 2147483647) (n + 2147483647) 269488144 269488144 (omega arith) (lit< tt),
        columns,
        eqb-halves (bit_and (m + 101058054) 269488144) (bit_and (n + 101058054) 269488144) 0 0 (omega arith) (lit< tt),
        eqb-halves (packed first) (packed last) (m + 808464432 - s) (n + 808464432 - t) (omega arith) (omega arith),
      )
      (and-swap (eqb (bit_and (m + 101058054) 269488144) 0) (eqb (bit_and (n + 101058054) 269488144) 0)
      (eqb (packed first) (m + 808464432 - s)) (eqb (packed last) (n + 808464432 - t)))

  fours-leading : columns_read 9223372034707292159 first last ≡ both (leading_from 0 first) (leading_from 0 last)
  unfolding carry columns_read
  fours-leading =
      rw (written-halves, ← written-leading 3 first refl first_small, ← written-leading 3 last refl last-small)
      (cond_both (written 2147483647 first) (written 2147483647 last) (number_in first) (number_in last))

  eight-leading : (o : Option (ℕ × ℕ)) → o ≡ columns_read 9223372036854775807 first last
      → option_map (λ (x : ℕ × ℕ). x.0 * 10000 + x.1) o ≡ leading_from 0 (first ++ last)
  unfolding carry number_in low value_behind columns_read
  eight-leading o e =
      let value : number_in first * 10000 + number_in last ≡ number_in (first ++ last) = omega arith in
      rw (e, cond_map (written 9223372036854775807 (first ++ last)) (number_in first) (number_in last), value)
      (written-leading 7 (first ++ last) refl small)

-- The columns of a line.
module _ (line : List ℕ) (small : (k : ℕ) → get_or line k 0 < 256) where
  pub line-fours : 9 ≤ length line → columns_read 9223372034707292159 (take 4 line) (take 4 (drop 5 line)) ≡ fours_in line
  line-fours room =
      rw (four-bytes-at line 0 (omega arith), four-bytes-at line 5 (omega arith)) (fours-leading _ _ _ _ _ _ _ _ (eight-small line 5 small))

  pub line-eight : 8 ≤ length line → (o : Option (ℕ × ℕ)) → o ≡ columns_read 9223372036854775807 (take 4 line) (take 4 (drop 4 line))
      → option_map (λ (x : ℕ × ℕ). x.0 * 10000 + x.1) o ≡ leading_from 0 (take 8 line)
  line-eight room o e =
      let first = four-bytes-at line 0 (omega arith) in
      let last = four-bytes-at line 4 (omega arith) in
      rw (take-add 4 4 line, first, last) (eight-leading _ _ _ _ _ _ _ _ (eight-small line 4 small) o (e ∙ rw (first, last)))
