-- The width of a number, said without the search: every number has one, and no other. Assumes nothing.
use Rattle.std.specs.Prelude.{◌≡◌, Bool, ◌&&◌, ℕ, zero, suc, ◌+◌, ◌^◌, ◌≤◌, ◌<◌, leb, Option, None, Some, unwrap_or}
use Rattle.std.proofs.Math.Path.{refl}
use Rattle.std.proofs.Common.{sym, ◌∙◌, arith, pow-suc}
use Rattle.std.proofs.Math.Bool.{true, false}
use Rattle.std.proofs.lemmas.Bool.{false≢true}
use Rattle.std.proofs.Math.Nat.{pow-le-pow_right}
use Rattle.std.proofs.Math.Dec.{ltb}
use borrow.Author.Tests.{le-leb, leb-true, ltb-true, ltb-false}
use Rattle.lists.proofs.BoolLaws.{both-of-and}
use Rattle.lists.specs.First.{first}
use Rattle.lists.proofs.FirstLaws.{First, first-is}
use Rattle.digits.specs.Width.{fits, width_of}

-- "the least width, 1 at least, for which the number is below 10 to the power of that width"
pub record Width (n width : ℕ) : Type 0 where
  pub one : 1 ≤ width
  pub below : n < 10 ^ width
  pub least : (w : ℕ) → 1 ≤ w → n < 10 ^ w → width ≤ w

-- More columns hold no less.
more : {j k : ℕ} → j ≤ k → 10 ^ j ≤ 10 ^ k
more le = pow-le-pow_right {n = 10} (omega arith) le

-- n + 1 columns hold n.
enough : (n : ℕ) → n < 10 ^ suc n
enough zero = omega arith
enough (suc n) = omega (arith, pow-suc 10 (suc n), enough n)

both : {a b : Bool} → a ≡ true → b ≡ true → (a && b) ≡ true
both e f = rw (e, f)

module _ (n : ℕ) where
  fits-true : (w : ℕ) → 1 ≤ w → n < 10 ^ w → fits n w ≡ true
  unfolding fits
  fits-true w one below = both (le-leb _ w (omega arith)) (le-leb _ (10 ^ w) (omega arith))

  -- The lowest at which it fits is the width.
  least-of-first : (k : ℕ) → fits n k ≡ true → ((j : ℕ) → j < k → fits n j ≡ false) → Width n k
  unfolding fits
  least-of-first k holds lowest =
      let (one, below) = both-of-and (leb 1 k) (ltb n (10 ^ k)) holds in
      record { one = leb-true 1 k one; below = ltb-true n (10 ^ k) below; least = λ w o b. go w o b (ltb w k) refl }
    where
      go : (w : ℕ) → 1 ≤ w → n < 10 ^ w → (b : Bool) → ltb w k ≡ b → k ≤ w
      go w o b true t = absurd (false≢true (sym (lowest w (ltb-true w k t)) ∙ fits-true w o b))
      go w o b false t = ltb-false w k t

  -- What the search finds is the width.
  pub width_is : Width n (width_of n)
  unfolding width_of
  width_is = go (first (fits n) (n + 2)) (first-is (fits n) (n + 2))
    where
      go : (o : Option ℕ) → First (fits n) (n + 2) o → Width n (unwrap_or o 0)
      go None never = absurd (false≢true (sym (never (suc n) (omega arith)) ∙ fits-true (suc n) (omega arith) (enough n)))
      go (Some k) found = least-of-first k found.holds found.lowest

  -- There is no other.
  pub width-only : (k : ℕ) → Width n k → k ≡ width_of n
  width-only k h =
      let w = width_is in
      omega (arith, h.least (width_of n) w.one w.below, w.least k h.one h.below)

  -- A number that k columns do not hold, where k is 1 at least, and k + 1 do, is k + 1 wide.
  pub width-case : (k : ℕ) → (1 ≤ k → 10 ^ k ≤ n) → n < 10 ^ suc k → suc k ≡ width_of n
  width-case k over below = width-only (suc k) (record { one = omega arith; below = below; least = λ w o b. go w o b (ltb k w) refl })
    where
      go : (w : ℕ) → 1 ≤ w → n < 10 ^ w → (b : Bool) → ltb k w ≡ b → suc k ≤ w
      go w o b true t = ltb-true k w t
      go w o b false t = absurd (omega (arith, more {j = w} {k = k} (ltb-false k w t), over (omega (arith, ltb-false k w t))))

  -- As many columns as the width, or more, hold the number.
  pub width-within : (k : ℕ) → width_of n ≤ k → n < 10 ^ k
  width-within k le = omega (arith, width_is.below, more le)

  -- Fewer do not.
  pub width-beyond : (k : ℕ) → 1 ≤ k → k < width_of n → 10 ^ k ≤ n
  width-beyond k one lt = go (ltb n (10 ^ k)) refl
    where
      go : (b : Bool) → ltb n (10 ^ k) ≡ b → 10 ^ k ≤ n
      go true t = absurd (omega (arith, width_is.least k one (ltb-true n (10 ^ k) t)))
      go false t = ltb-false n (10 ^ k) t
