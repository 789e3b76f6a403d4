-- The numbers of eight columns, made two columns at a time from a word of their digits. Assumes nothing.
use mathlib.Core.Path.{◌≡◌, sym, ◌∙◌}
use mathlib.Core.List.{List, [], ◌∷◌, ◌++◌}
use Rattle.std.specs.Prelude.{Option, None, Some}
use Prim.Native.Nat.{ℕ, ◌+◌, ◌*◌, ◌/◌, ◌%◌, ◌-◌, ◌≤◌, ◌<◌}
use native.Mathlib.Omega.{arith}
use lib.Bits.{bit_and, and_block, and_mask, and_le_r, and_zero_r}
use lib.ListN.{length, get_or, take, drop}
use lib.Dec.{lit<}
use borrow.Author.Tests.{eq-eqb, ne_eqb}
use Rattle.digits.specs.Digits.{packed}
use Rattle.digits.proofs.DigitsLaws.{Below}
use Rattle.columns.specs.Word.{each, low, value_behind, number_in, written, columns_read}
use Rattle.columns.proofs.Bytes.{four_at, four-bytes-at, eight-small, low-packed, digits-only}

-- Digits d and e, with digits x above them: their pair is made where d stands, and the mask clears what comes beside it.
pair : (d e x mask : ℕ) → d < 10 → e < 10 → x % 256 < 10
    → bit_and ((d + 256 * (e + 256 * x)) * 10 + (d + 256 * (e + 256 * x)) / 256) (mask * 65536 + 255)
    ≡ 10 * d + e + 65536 * bit_and (x * 10 + x / 256) mask
pair d e x mask h i j =
    let low = 10 * d + e + 256 * (10 * e + x % 256) in
    let made : (d + 256 * (e + 256 * x)) * 10 + (d + 256 * (e + 256 * x)) / 256 ≡ (x * 10 + x / 256) * 65536 + low = omega arith in
    let kept : low % 256 ≡ 10 * d + e = omega arith in
    rw made (and_block 16 (x * 10 + x / 256) mask low 255 (omega arith) (lit< tt) ∙ rw (and_mask low 8, kept) (omega arith))

-- Pairs p and q, with pairs x above them, in the same way.
four : (p q x mask : ℕ) → p < 100 → q < 100 → x % 65536 < 100
    → bit_and ((p + 65536 * (q + 65536 * x)) * 100 + (p + 65536 * (q + 65536 * x)) / 65536) (mask * 4294967296 + 65535)
    ≡ 100 * p + q + 4294967296 * bit_and (x * 100 + x / 65536) mask
four p q x mask h i j =
    let low = 100 * p + q + 65536 * (100 * q + x % 65536) in
    let made : (p + 65536 * (q + 65536 * x)) * 100 + (p + 65536 * (q + 65536 * x)) / 65536
    ≡ (x * 100 + x / 65536) * 4294967296 + low = omega arith in
    let kept : low % 65536 ≡ 100 * p + q = omega arith in
    rw made (and_block 32 (x * 100 + x / 65536) mask low 65535 (omega arith) (lit< tt) ∙ rw (and_mask low 16, kept) (omega arith))

-- The lowest pair of some.
lowest : (p x : ℕ) → p < 100 → (p + 65536 * x) % 65536 < 100
lowest p x h = omega arith

-- As the code makes them.
abbrev pub pairs_of : ℕ → ℕ
pairs_of digits = bit_and (digits * 10 + digits / 256) 71777214294589695

abbrev pub fours_of : ℕ → ℕ
fours_of pairs = bit_and (pairs * 100 + pairs / 65536) 281470681808895

pub pairs_below : (digits : ℕ) → pairs_of digits ≤ 71777214294589695
pairs_below digits = and_le_r (digits * 10 + digits / 256) 71777214294589695

pub fours-below : (pairs : ℕ) → fours_of pairs ≤ 281470681808895
fours-below pairs = and_le_r (pairs * 100 + pairs / 65536) 281470681808895

module _ (a b c d e f g h : ℕ)
    (ha : a < 10) (hb : b < 10) (hc : c < 10) (hd : d < 10) (he : e < 10) (hf : f < 10) (hg : g < 10) (hh : h < 10) where
  -- The masks have 255 for each pair: less the lowest 16 bits 1095233372415, then 16711935, 255 and 0.
  pairs_made : pairs_of (packed (a ∷ b ∷ c ∷ d ∷ e ∷ f ∷ g ∷ h ∷ []))
      ≡ 10 * a + b + 65536 * (10 * c + d + 65536 * (10 * e + f + 65536 * (10 * g + h + 65536 * 0)))
  unfolding packed
  pairs_made =
      pair a b (c + 256 * (d + 256 * (e + 256 * (f + 256 * (g + 256 * (h + 256 * 0)))))) 1095233372415 ha hb (omega arith)
      ∙ rw (
        pair c d (e + 256 * (f + 256 * (g + 256 * (h + 256 * 0)))) 16711935 hc hd (omega arith),
        pair e f (g + 256 * (h + 256 * 0)) 255 he hf (omega arith),
        pair g h 0 0 hg hh (omega arith),
      )

  -- And 65535 for each number of four columns: less the lowest 32 bits 65535, then 0.
  pub fours-made : fours_of (pairs_of (packed (a ∷ b ∷ c ∷ d ∷ e ∷ f ∷ g ∷ h ∷ [])))
      ≡ 100 * (10 * a + b) + (10 * c + d) + 4294967296 * (100 * (10 * e + f) + (10 * g + h))
  fours-made =
      rw pairs_made
      (four (10 * a + b) (10 * c + d) (10 * e + f + 65536 * (10 * g + h + 65536 * 0)) 65535 (omega arith) (omega arith)
      (lowest (10 * e + f) (10 * g + h + 65536 * 0) (omega arith))
      ∙ rw (four (10 * e + f) (10 * g + h) 0 0 (omega arith) (omega arith) (omega arith)) (omega (arith, and_zero_r 0)))

-- Eight bytes of a line in a word: the first four, and four from `second` on.
pub record Packed (line : List ℕ) (second word : ℕ) : Type 0 where
  pub near : 4 ≤ second
  pub room : second + 4 ≤ length line
  pub small : (k : ℕ) → get_or line k 0 < 256
  pub packs : word ≡ packed (take 4 line) + packed (take 4 (drop second line)) * 4294967296

-- What the tests of the code say of them, and the numbers that it makes of them.
module _ {line : List ℕ} {second word : ℕ} (p : Packed line second word) (carry : ℕ) where
  abbrev bytes : List ℕ
  bytes = four_at line 0 ++ four_at line second

  abbrev digits : ℕ
  digits = bit_and word 1085102592571150095

  abbrev answer : Option (ℕ × ℕ)
  answer = columns_read carry (take 4 line) (take 4 (drop second line))

  answer-is : answer ≡ columns_read carry (four_at line 0) (four_at line second)
  answer-is = rw (four-bytes-at line 0 (omega (arith, p.near, p.room)), four-bytes-at line second p.room)

  word-is : word ≡ packed bytes
  unfolding packed
  word-is = p.packs ∙ rw (four-bytes-at line 0 (omega (arith, p.near, p.room)), four-bytes-at line second p.room) (omega arith)

  digits_are : digits ≡ packed (low bytes)
  unfolding each
  digits_are = rw word-is (low-packed bytes (eight-small line second p.small))

  pub no-digits : (bit_and (digits + 434041037028460038) 1157442765409226768 ≡ 0 → ⊥) → None ≡ answer
  unfolding written each columns_read
  no-digits other =
      rw (answer-is, ne_eqb (bit_and (packed (low bytes) + 434041037028460038) 1157442765409226768) 0 (λ z. other (rw digits_are z)))

  module _ (clear : bit_and (digits + 434041037028460038) 1157442765409226768 ≡ 0) where
    abbrev expected : ℕ
    expected = packed (low bytes) + 3472328296227680304 - bit_and (packed (low bytes) + carry) 1157442765409226768

    pub other-spaces : (word ≡ digits + 3472328296227680304 - bit_and (digits + carry) 1157442765409226768 → ⊥) → None ≡ answer
    unfolding written each columns_read
    other-spaces other =
        let z = rw digits_are at clear in
        rw (answer-is, z, ne_eqb (packed bytes) expected (λ s. other (word-is ∙ rw digits_are s)))

    numbers : (fours_of (pairs_of digits) ≡ number_in (four_at line 0) + 4294967296 * number_in (four_at line second))
        × (number_in (four_at line 0) < 10000)
    unfolding each Below low value_behind number_in
    numbers =
        let (i, (j, (k, (l, (m, (n, (o, (p, end)))))))) = digits-only bytes (rw digits_are at clear) in
        (rw digits_are (fours-made _ _ _ _ _ _ _ _ i j k l m n o p ∙ omega arith), omega arith)

    pub columns-read : word ≡ digits + 3472328296227680304 - bit_and (digits + carry) 1157442765409226768
        → Some (fours_of (pairs_of digits) % 65536, fours_of (pairs_of digits) / 4294967296) ≡ answer
    unfolding written each columns_read
    columns-read spaced =
        let z = rw digits_are at clear in
        let first : fours_of (pairs_of digits) % 65536 ≡ number_in (four_at line 0) = omega (arith, numbers.0, numbers.1) in
        let last : fours_of (pairs_of digits) / 4294967296 ≡ number_in (four_at line second) = omega (arith, numbers.0, numbers.1) in
        rw (answer-is, z, eq-eqb (packed bytes) expected (sym word-is ∙ rw digits_are at spaced), first, last)
