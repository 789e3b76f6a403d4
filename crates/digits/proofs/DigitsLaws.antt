-- The digits of a number, pair by pair and behind those of another, and the bytes of a packed word. Assumes nothing.
use Rattle.std.specs.Prelude.{◌≡◌, refl, List, [], ◌∷◌, ◌++◌, ℕ, zero, suc, ◌+◌, ◌*◌, ◌/◌, ◌%◌, ◌^◌, ◌≤◌, ◌<◌, length}
use Rattle.std.proofs.Common.{sym, ◌∙◌, ap, append-nil, append_assoc, arith, pow-suc, length-append, le-leb}
use Rattle.std.proofs.Math.Nat.{div-div-eq-div-mul}
use Rattle.std.proofs.Math.Seq.{append_snoc}
use Rattle.digits.specs.Digits.{digits, digits_from, packed}

-- As many as asked for, whatever the number.
digits-length : (w n : ℕ) → length (digits w n) ≡ w
unfolding digits
digits-length zero n = refl
digits-length (suc w) n = simp (length-append, digits-length w (n / 10)) (omega arith)

pub digits_from-length : (first w n : ℕ) → length (digits_from first w n) ≡ w
unfolding digits_from
digits_from-length first zero n = refl
digits_from-length first (suc w) n = simp (length-append, digits_from-length first w (n / 10)) (omega arith)

-- Digits behind those of m, where the first column comes before them.
digits-behind : (first w k m d : ℕ) → first ≤ w → d < 10 ^ k
    → digits_from first (w + k) (m * 10 ^ k + d) ≡ digits_from first w m ++ digits k d
unfolding digits digits_from
digits-behind first w zero m d le h =
    let e : w + 0 ≡ w = omega arith in
    let f : m * 1 + d ≡ m = omega arith in
    rw (e, f, append-nil)
digits-behind first w (suc k) m d le h =
    let e : w + suc k ≡ suc (w + k) = omega arith in
    let f : (m * 10 ^ suc k + d) / 10 ≡ m * 10 ^ k + d / 10 = rw (pow-suc 10 k) (omega arith) in
    let g : (m * 10 ^ suc k + d) % 10 ≡ d % 10 = rw (pow-suc 10 k) (omega arith) in
    let l : d / 10 < 10 ^ k = omega (arith, pow-suc 10 k) in
    rw (e, f, g, le-leb first (w + k) (omega arith), digits-behind first w k m (d / 10) le l, append_assoc)

-- The last eight digits of a number.
pub eight-behind : (first w n : ℕ) → first ≤ w
    → digits_from first (w + 8) n ≡ digits_from first w (n / 100000000) ++ digits 8 (n % 100000000)
eight-behind first w n le =
    let whole : n ≡ n / 100000000 * 100000000 + n % 100000000 = omega arith in
    ap (digits_from first (w + 8)) whole ∙ digits-behind first w 8 (n / 100000000) (n % 100000000) le (omega arith)

-- A pair of digits.
abbrev pub pair : ℕ → List ℕ
pair p = (48 + p / 10) ∷ (48 + p % 10) ∷ []

-- A pair of digits behind those of m.
digits-pair : (w m p : ℕ) → p < 100 → digits (suc (suc w)) (m * 100 + p) ≡ digits w m ++ pair p
unfolding digits
digits-pair w m p h =
    let q : (m * 100 + p) / 10 / 10 ≡ m = omega arith in
    let t : (m * 100 + p) / 10 % 10 ≡ p / 10 = omega arith in
    let u : (m * 100 + p) % 10 ≡ p % 10 = omega arith in
    rw (q, t, u, append_snoc)

-- Two digits are a pair, and eight are four pairs.
two_digits : (p : ℕ) → p < 100 → digits 2 p ≡ pair p
unfolding digits
two_digits p h = let t : p / 10 % 10 ≡ p / 10 = omega arith in rw t

pub eight-digits : (a b c d : ℕ) → a < 100 → b < 100 → c < 100 → d < 100
    → digits 8 (((a * 100 + b) * 100 + c) * 100 + d) ≡ pair a ++ pair b ++ pair c ++ pair d
eight-digits a b c d h i j k =
    rw (digits-pair 6 ((a * 100 + b) * 100 + c) d k, digits-pair 4 (a * 100 + b) c j, digits-pair 2 a b i, two_digits a h)

-- Every element is below a bound: bytes below 256.
unfoldable pub Below : ℕ → List ℕ → Type 0
Below bound [] = Unit
Below bound (x ∷ xs) = (x < bound) × Below bound xs

below_more : (bound : ℕ) (xs : List ℕ) (x : ℕ) → Below bound xs → x < bound → Below bound (xs ++ (x ∷ []))
unfolding Below
below_more bound [] y h j = (j, tt)
below_more bound (x ∷ xs) y h j = (h.0, below_more bound xs y h.1 j)

digits-bytes : (w n : ℕ) → Below 256 (digits w n)
unfolding Below digits
digits-bytes zero n = tt
digits-bytes (suc w) n = below_more 256 (digits w (n / 10)) (48 + n % 10) (digits-bytes w (n / 10)) (omega arith)

-- So many bytes of a word, the lowest first.
unfoldable unpacked : ℕ → ℕ → List ℕ
unpacked zero word = []
unpacked (suc k) word = word % 256 ∷ unpacked k (word / 256)

unpacked-packed : (bytes : List ℕ) → Below 256 bytes → unpacked (length bytes) (packed bytes) ≡ bytes
unfolding Below unpacked packed
unpacked-packed [] h = refl
unpacked-packed (byte ∷ bytes) h =
    let low : (byte + 256 * packed bytes) % 256 ≡ byte = omega (arith, h.0) in
    let high : (byte + 256 * packed bytes) / 256 ≡ packed bytes = omega (arith, h.0) in
    rw (low, high, unpacked-packed bytes h.1)

-- A word packs no other bytes.
pub packed-same : (xs ys : List ℕ) → length xs ≡ length ys → Below 256 xs → Below 256 ys → packed xs ≡ packed ys → xs ≡ ys
packed-same xs ys l h i e = sym (unpacked-packed xs h) ∙ rw (l, e) (unpacked-packed ys i)

-- The eight bytes of the word, as they are taken from it.
pub word_bytes : (n word : ℕ) → word ≡ packed (digits 8 n)
    → word % 256
    ∷ word / 256 % 256
    ∷ word / 65536 % 256
    ∷ word / 16777216 % 256
    ∷ word / 4294967296 % 256
    ∷ word / 1099511627776 % 256
    ∷ word / 281474976710656 % 256
    ∷ word / 72057594037927936 % 256
    ∷ []
    ≡ digits 8 n
unfolding unpacked
word_bytes n word e =
    let bytes : unpacked 8 word ≡ digits 8 n = rw (digits-length 8 n, ← e) at (unpacked-packed (digits 8 n) (digits-bytes 8 n)) in
    rw (
      div-div-eq-div-mul word 256 256,
      div-div-eq-div-mul word 65536 256,
      div-div-eq-div-mul word 16777216 256,
      div-div-eq-div-mul word 4294967296 256,
      div-div-eq-div-mul word 1099511627776 256,
      div-div-eq-div-mul word 281474976710656 256,
    ) at
    bytes
