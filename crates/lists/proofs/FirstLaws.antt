-- What `first` is, said without its recursion: the lowest index that passes the test, or none passes. Assumes nothing.
use Rattle.std.specs.Prelude.{ℕ, zero, suc, ◌≤◌, ◌<◌, ◌≡◌, Bool, true, false, ltb, Option, None, Some}
use Rattle.std.proofs.Math.Path.{refl}
use Rattle.std.proofs.lemmas.Bool.{false≢true}
use Rattle.std.specs.Option.{option_or}
use Rattle.std.proofs.Common.{arith, ltb-true, ltb-false}
use Rattle.lists.specs.First.{met_at, first, is_some}

-- The lowest index that passes is k.
pub record FirstAt (test : ℕ → Bool) (limit k : ℕ) : Type 0 where
  pub below : k < limit
  pub holds : test k ≡ true
  pub lowest : (j : ℕ) → j < k → test j ≡ false

-- An answer says where the test first holds below the limit; `none`, that it holds nowhere there.
abbrev pub First : (ℕ → Bool) → ℕ → Option ℕ → Type 0
First test limit None = (j : ℕ) → j < limit → test j ≡ false
First test limit (Some k) = FirstAt test limit k

-- One index more.
first_step : (test : ℕ → Bool) (limit : ℕ) (o : Option ℕ) (b : Bool) → test limit ≡ b → First test limit o
    → First test (suc limit) (option_or o (met_at limit b))
unfolding met_at
first_step test limit (Some k) b e h = record { below = omega arith; holds = h.holds; lowest = h.lowest }
first_step test limit None true e h = record { below = omega arith; holds = e; lowest = h }
first_step test limit None false e h = λ j lt. go j lt (ltb j limit) refl
  where
    go : (j : ℕ) → j < suc limit → (b : Bool) → ltb j limit ≡ b → test j ≡ false
    go j lt true t = h j (ltb-true j limit t)
    go j lt false t = let same : j ≡ limit = omega (arith, ltb-false j limit t) in cc

-- What `first` answers is so.
pub first-is : (test : ℕ → Bool) (limit : ℕ) → First test limit (first test limit)
unfolding first
first-is test zero = λ j lt. absurd (omega arith)
first-is test (suc limit) = first_step test limit (first test limit) (test limit) refl (first-is test limit)

-- No other answer is so: a loop that comes to such an answer has the first.
pub first-only : (test : ℕ → Bool) (limit : ℕ) (o : Option ℕ) → First test limit o → first test limit ≡ o
first-only test limit o h = go (first test limit) o (first-is test limit) h
  where
    go : (o o' : Option ℕ) → First test limit o → First test limit o' → o ≡ o'
    go None None h h' = refl
    go None (Some k) h h' = let e = h k h'.below in cc
    go (Some k) None h h' = let e = h' k h.below in cc
    go (Some k) (Some j) h h' = at (ltb k j) (ltb j k) refl refl
      where
        at : (b c : Bool) → ltb k j ≡ b → ltb j k ≡ c → ◌≡◌ {A = Option ℕ} (Some k) (Some j)
        at true c s t = let e = h'.lowest k (ltb-true k j s) in cc
        at false true s t = let e = h.lowest j (ltb-true j k t) in cc
        at false false s t = let same : k ≡ j = omega (arith, ltb-false k j s, ltb-false j k t) in cc

-- Where it is found, it passes and nothing before it does.
pub first_some : (test : ℕ → Bool) (limit : ℕ) {k : ℕ} → first test limit ≡ Some k → FirstAt test limit k
first_some test limit e = rw e at (first-is test limit)

-- Where it is not found, nothing below the limit passes.
pub first-none : (test : ℕ → Bool) (limit : ℕ) → first test limit ≡ None
    → (j : ℕ) → j < limit → test j ≡ false
first-none test limit e = rw e at (first-is test limit)

-- It is k where k passes and nothing before it does.
pub first_found : (test : ℕ → Bool) (limit k : ℕ) → k < limit → test k ≡ true
    → ((j : ℕ) → j < k → test j ≡ false) → first test limit ≡ Some k
first_found test limit k below holds lowest =
    first-only test limit (Some k) (record { below = below; holds = holds; lowest = lowest })

-- There is none where nothing below the limit passes.
pub first_out : (test : ℕ → Bool) (limit : ℕ) → ((j : ℕ) → j < limit → test j ≡ false) → first test limit ≡ None
first_out test limit h = first-only test limit None h

-- Index 0 is the first wherever it passes.
pub first-zero : (test : ℕ → Bool) (limit : ℕ) → test 0 ≡ true → 0 < limit → first test limit ≡ Some 0
first-zero test limit holds below = first_found test limit 0 below holds (λ j lt. absurd (omega arith))

-- What is found below a limit is found below a greater one.
pub first_more : (test : ℕ → Bool) (limit more : ℕ) {k : ℕ} → limit ≤ more
    → first test limit ≡ Some k → first test more ≡ Some k
first_more test limit more {k} le e =
    let at = first_some test limit e in first_found test more k (omega arith) at.holds at.lowest

-- Tests that agree below the limit have the same first.
pub first_cong : (test test' : ℕ → Bool) (limit : ℕ)
    → ((j : ℕ) → j < limit → test j ≡ test' j) → first test limit ≡ first test' limit
unfolding first
first_cong test test' zero h = refl
first_cong test test' (suc limit) h =
    cc (first_cong test test' limit (λ j lt. h j (omega arith)), h limit (omega arith))

module _ {A : Type 0} where
  -- `is_some` holds of an answer.
  pub is_some-of-some : {o : Option A} {a : A} → o ≡ Some a → is_some o ≡ true
  unfolding is_some
  is_some-of-some e = rw e

  -- `is_some` fails of none.
  pub is_some-of-none : {o : Option A} → o ≡ None → is_some o ≡ false
  unfolding is_some
  is_some-of-none e = rw e

  -- Where `is_some` holds there is an answer.
  pub some-of-is_some : (o : Option A) → is_some o ≡ true → (a : A) × (o ≡ Some a)
  unfolding is_some
  some-of-is_some None e = absurd (false≢true e)
  some-of-is_some (Some a) e = (a, refl)

  -- Where `is_some` fails there is none.
  pub none-of-is_some : (o : Option A) → is_some o ≡ false → o ≡ None
  unfolding is_some
  none-of-is_some None e = refl
  none-of-is_some (Some a) e = cc

  -- Where nothing is the answer there is none.
  pub none-of-never : (o : Option A) → ((a : A) → o ≡ Some a → ⊥) → o ≡ None
  none-of-never None never = refl
  none-of-never (Some a) never = absurd (never a refl)
