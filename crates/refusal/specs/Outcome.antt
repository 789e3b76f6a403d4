-- What an operation comes to, whatever the code's enum for it. Assumes nothing.
use Rattle.std.specs.Prelude.{ℕ}

-- An answer, or "a refusal carries a number and a place": `refused number place`.
pub data Outcome (A : Type 0) : Type 0 where
  answered : A → Outcome A
  refused : ℕ → ℕ → Outcome A

-- The outcome with its answer put in another form; a refusal stays as it is.
unfoldable pub answered_by : {A B : Type 0} → (A → B) → Outcome A → Outcome B
answered_by f (answered a) = answered (f a)
answered_by f (refused number place) = refused number place

-- One operation after another: the second runs on the first one's answer, and a refusal of the first ends both.
unfoldable pub followed_by : {A B : Type 0} → Outcome A → (A → Outcome B) → Outcome B
followed_by (answered a) next = next a
followed_by (refused number place) next = refused number place

-- What an operation leaves: this, by its answer, or that where it refuses.
unfoldable pub on_answer : {A B : Type 0} → Outcome A → (A → B) → B → B
on_answer (answered a) this that = this a
on_answer (refused number place) this that = that
