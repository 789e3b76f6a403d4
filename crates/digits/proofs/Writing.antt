-- What the writer of digits knows at each turn. Assumes nothing.
use mathlib.Core.Path.{◌≡◌, ◌∙◌}
use mathlib.Core.Logic.{◌⊎◌, inl, inr}
use mathlib.Core.Bool.{cond}
use mathlib.Core.List.{List, ◌∷◌, ◌++◌, append-nil}
use Prim.Native.Nat.{ℕ, zero, suc, ◌+◌, ◌-◌, ◌/◌, ◌%◌, ◌≤◌, ◌<◌}
use native.Mathlib.Omega.{arith}
use lib.Dec.{leb}
use lib.ListN.{length, set, drop, drop_of_length-le, length-set}
use lib.Seq.{drop-cons, get_or-set_same, drop-set-lt, lt-length-set, append_snoc}
use borrow.Author.Tests.{le-leb, lt-leb}
use Rattle.digits.specs.Digits.{digits_from}

-- The slice is w bytes long. The columns from i on are written; what `rest` gives in the first i is left to write.
pub record Writes (first w n i rest : ℕ) (bytes : List ℕ) : Type 0 where
  pub long : length bytes ≡ w
  pub left : i ≤ w
  pub written : digits_from first i rest ++ drop i bytes ≡ digits_from first w n

-- What a digit is added to is one of two numbers, so it is no more than their sum.
pub zero-most : {A B : Type 0} {zero_at x y : ℕ} → (A × (zero_at ≡ x)) ⊎ (B × (zero_at ≡ y)) → zero_at ≤ x + y
zero-most (inl q) = omega (arith, q.1)
zero-most (inr q) = omega (arith, q.1)

pub writes_start : (first n : ℕ) (bytes : List ℕ) → Writes first (length bytes) n (length bytes) n bytes
writes_start first n bytes =
    let same : length bytes ≤ length bytes = omega arith in
    record { long = omega arith; left = same; written = rw (drop_of_length-le bytes same, append-nil) }

drop-set : (k : ℕ) (bytes : List ℕ) (v : ℕ) → k < length bytes → drop k (set bytes k v) ≡ v ∷ drop (suc k) bytes
drop-set k bytes v h =
    drop-cons (set bytes k v) k 0 (lt-length-set bytes k v h)
    ∙ rw (get_or-set_same bytes k v 0 h, drop-set-lt (suc k) bytes k v (omega arith))

-- One column more to the left.
pub writes-turn : (first w n i rest : ℕ) (bytes : List ℕ) (zero_at : ℕ) → Writes first w n i rest bytes → 0 < i
    → ((first ≤ i - 1) × (zero_at ≡ 48)) ⊎ ((i - 1 < first) × (zero_at ≡ 32))
    → Writes first w n (i - 1) (rest / 10) (set bytes (i - 1) (zero_at + rest % 10))
unfolding digits_from
writes-turn first w n zero rest bytes zero_at k p came = absurd (omega arith)
writes-turn first w n (suc i) rest bytes zero_at k p came =
    let byte = zero_at + rest % 10 in
    let e : suc i - 1 ≡ i = omega arith in
    let h : i < length bytes = omega (arith, k.long, k.left) in
    rw e
    (record {
      long = length-set bytes i byte ∙ k.long;
      left = omega (arith, k.left);
      written =
          rw (drop-set i bytes byte h, column (rw e at came), ← append_snoc (digits_from first i (rest / 10)) _ (drop (suc i) bytes))
          k.written;
    })
  where
    column : ((first ≤ i) × (zero_at ≡ 48)) ⊎ ((i < first) × (zero_at ≡ 32)) → zero_at ≡ cond (leb first i) 48 32
    column (inl (from, is)) = is ∙ rw (le-leb first i from)
    column (inr (before, is)) = is ∙ rw (lt-leb first i before)

pub writes_end : (first w n i rest : ℕ) (bytes : List ℕ) → Writes first w n i rest bytes → i ≤ 0 → bytes ≡ digits_from first w n
unfolding digits_from
writes_end first w n zero rest bytes k e = k.written
writes_end first w n (suc i) rest bytes k e = absurd (omega arith)
