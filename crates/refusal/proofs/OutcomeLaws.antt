-- What an outcome in another form says of the outcome, and what one operation after another comes to. Assumes nothing.
use Rattle.std.proofs.Math.Path.{◌≡◌, refl}
use Rattle.std.specs.Prelude.{ℕ}
use Rattle.std.proofs.Common.{arith}
use Rattle.refusal.specs.Outcome.{Outcome, answered, refused, answered_by, followed_by, on_answer}

module _ {A B : Type 0} where
  -- An answer in another form comes from an answer,
  pub answered-of-by : (f : A → B) (o : Outcome A) {b : B} → answered_by f o ≡ answered b → (a : A) × (o ≡ answered a) × (f a ≡ b)
  unfolding answered_by
  answered-of-by f (answered a) e = (a, refl, cc)
  answered-of-by f (refused number place) e = absurd (let z : ◌≡◌ {A = ℕ} 0 1 = cc in omega arith)

  -- and a refusal is the same refusal.
  pub refused-of-by : (f : A → B) (o : Outcome A) {number place : ℕ} → answered_by f o ≡ refused number place → o ≡ refused number place
  unfolding answered_by
  refused-of-by f (answered a) e = absurd (let z : ◌≡◌ {A = ℕ} 0 1 = cc in omega arith)
  refused-of-by f (refused number place) e = cc

  pub by-answered : (f : A → B) {o : Outcome A} {a : A} → o ≡ answered a → answered_by f o ≡ answered (f a)
  unfolding answered_by
  by-answered f e = rw e

  pub by-refused : (f : A → B) {o : Outcome A} {number place : ℕ} → o ≡ refused number place → answered_by f o ≡ refused number place
  unfolding answered_by
  by-refused f e = rw e

  -- A refusal of the first operation ends both; on its answer the second runs.
  pub followed-answered : {o : Outcome A} {a : A} (next : A → Outcome B) → o ≡ answered a → followed_by o next ≡ next a
  unfolding followed_by
  followed-answered next e = rw e

  pub followed-refused : {o : Outcome A} {number place : ℕ} (next : A → Outcome B)
      → o ≡ refused number place → followed_by o next ≡ refused number place
  unfolding followed_by
  followed-refused next e = rw e

  -- An answer of both comes from an answer of the first, on which the second answered.
  pub answered-of-followed : (o : Outcome A) (next : A → Outcome B) {b : B} → followed_by o next ≡ answered b
      → (a : A) × (o ≡ answered a) × (next a ≡ answered b)
  unfolding followed_by
  answered-of-followed (answered a) next e = (a, refl, e)
  answered-of-followed (refused number place) next e = absurd (let z : ◌≡◌ {A = ℕ} 0 1 = cc in omega arith)

  -- What is left behind an answer, and behind a refusal.
  pub left-answered : {o : Outcome A} {a : A} (this : A → B) (that : B) → o ≡ answered a → on_answer o this that ≡ this a
  unfolding on_answer
  left-answered this that e = rw e

  pub left-refused : {o : Outcome A} {number place : ℕ} (this : A → B) (that : B)
      → o ≡ refused number place → on_answer o this that ≡ that
  unfolding on_answer
  left-refused this that e = rw e
