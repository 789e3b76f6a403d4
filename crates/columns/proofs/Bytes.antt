-- Packed bytes under a mask, byte by byte. Assumes nothing.
use mathlib.Core.Path.{◌≡◌, refl, ◌∙◌, ap}
use mathlib.Core.List.{List, [], ◌∷◌, ◌++◌}
use Prim.Native.Nat.{ℕ, suc, ◌+◌, ◌*◌, ◌/◌, ◌%◌, ◌≤◌, ◌<◌}
use native.Mathlib.Omega.{arith}
use lib.Bits.{bit_and, and_block, and_mask, and_high}
use lib.Dec.{lit<}
use lib.ListN.{length, get_or, take, drop}
use lib.Seq.{drop-cons}
use Rattle.digits.specs.Digits.{packed}
use Rattle.digits.proofs.DigitsLaws.{Below}
use Rattle.columns.specs.Word.{each, low}

-- Four bytes of a text, one by one.
abbrev pub four_at : List ℕ → ℕ → List ℕ
four_at s at = get_or s at 0 ∷ get_or s (at + 1) 0 ∷ get_or s (at + 2) 0 ∷ get_or s (at + 3) 0 ∷ []

pub four-bytes-at : (s : List ℕ) (at : ℕ) → at + 4 ≤ length s → take 4 (drop at s) ≡ four_at s at
four-bytes-at s at h =
    let one : at + 1 ≡ suc at = omega arith in
    let two : at + 2 ≡ suc (suc at) = omega arith in
    let three : at + 3 ≡ suc (suc (suc at)) = omega arith in
    rw (
      drop-cons s at 0 (omega arith),
      drop-cons s (suc at) 0 (omega arith),
      drop-cons s (suc (suc at)) 0 (omega arith),
      drop-cons s (suc (suc (suc at))) 0 (omega arith),
      one,
      two,
      three,
    )

-- Eight bytes of a line of bytes.
pub eight-small : (line : List ℕ) (second : ℕ) → ((k : ℕ) → get_or line k 0 < 256) → Below 256 (four_at line 0 ++ four_at line second)
unfolding Below
eight-small line second small = (small _, (small _, (small _, (small _, (small _, (small _, (small _, (small _, tt))))))))

-- The lowest byte, and the bytes above it.
pub and_byte : (x y a b : ℕ) → x < 256 → y < 256 → bit_and (x + 256 * a) (y + 256 * b) ≡ bit_and x y + 256 * bit_and a b
and_byte x y a b h i =
    let p : x + 256 * a ≡ a * 256 + x = omega arith in
    let q : y + 256 * b ≡ b * 256 + y = omega arith in
    rw (p, q) (and_block 8 a b x y h i ∙ omega arith)

-- Bit 16 of a number.
pub bit-sixteen : (x : ℕ) → bit_and x 16 ≡ x / 16 % 2 * 16
bit-sixteen x = and_high x 1 4

-- The lower halves of the bytes.
pub low-packed : (bytes : List ℕ) → Below 256 bytes → bit_and (packed bytes) (each (length bytes) 15) ≡ packed (low bytes)
unfolding packed each Below low
low-packed [] h = refl
low-packed (byte ∷ bytes) h =
    and_byte byte 15 (packed bytes) (each (length bytes) 15) h.0 (lit< tt)
    ∙ rw (and_mask byte 4, low-packed bytes h.1)

pub low-length : (bytes : List ℕ) → length (low bytes) ≡ length bytes
unfolding low
low-length [] = refl
low-length (byte ∷ bytes) = ap suc (low-length bytes)

-- Of half a byte and 6 more, bit 16 is clear exactly where the half is a digit; so it is in each of a word exactly where all are.
six-more : (x : ℕ) (bytes : List ℕ) → x < 16 → bit_and (packed (x ∷ low bytes) + each (suc (length bytes)) 6) (each (suc (length bytes)) 16)
    ≡ (x + 6) / 16 * 16 + 256 * bit_and (packed (low bytes) + each (length bytes) 6) (each (length bytes) 16)
unfolding packed each
six-more x bytes h =
    let more = packed (low bytes) + each (length bytes) 6 in
    let sum : x + 256 * packed (low bytes) + (6 + 256 * each (length bytes) 6) ≡ x + 6 + 256 * more = omega arith in
    let whole : (x + 6) / 16 % 2 ≡ (x + 6) / 16 = omega arith in
    rw (sum, and_byte (x + 6) 16 more (each (length bytes) 16) (omega arith) (lit< tt), bit-sixteen (x + 6), whole)

pub digits-only : (bytes : List ℕ) → bit_and (packed (low bytes) + each (length bytes) 6) (each (length bytes) 16) ≡ 0
    → Below 10 (low bytes)
unfolding Below low
digits-only [] e = tt
digits-only (byte ∷ bytes) e =
    let clear = six-more (byte % 16) bytes (omega arith) in
    (omega arith, digits-only bytes (omega arith))

pub digits-clear : (bytes : List ℕ) → Below 10 (low bytes)
    → bit_and (packed (low bytes) + each (length bytes) 6) (each (length bytes) 16) ≡ 0
unfolding packed each Below low
digits-clear [] h = refl
digits-clear (byte ∷ bytes) h =
    let none : (byte % 16 + 6) / 16 ≡ 0 = omega (arith, h.0) in
    six-more (byte % 16) bytes (omega arith) ∙ rw (none, digits-clear bytes h.1)
