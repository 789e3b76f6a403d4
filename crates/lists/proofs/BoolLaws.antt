-- What a test made of tests says of each, and an answer under a test of both. Assumes nothing.
use Rattle.std.specs.Prelude.{◌≡◌, refl, ◌⊎◌, Bool, true, false, cond, ◌&&◌, ◌||◌, Option, None, Some}
use Rattle.std.proofs.Common.{inl, inr, true≢false}
use Rattle.std.proofs.lemmas.Bool.{false≢true}
use Rattle.std.proofs.lemmas.Option.{none-some}

-- Both hold where their conjunction does.
pub both-of-and : (a b : Bool) → (a && b) ≡ true → (a ≡ true) × (b ≡ true)
both-of-and true b e = (refl, e)
both-of-and false b e = absurd (false≢true e)

-- Neither holds where their disjunction fails.
pub neither-of-or : (a b : Bool) → (a || b) ≡ false → (a ≡ false) × (b ≡ false)
neither-of-or true b e = absurd (true≢false e)
neither-of-or false b e = (refl, e)

-- One holds where their disjunction does.
pub either-of-or : (a b : Bool) → (a || b) ≡ true → (a ≡ true) ⊎ (b ≡ true)
either-of-or true b e = inl refl
either-of-or false b e = inr e

-- A test is true or false, and the equation is kept.
pub decided : (a : Bool) → (a ≡ true) ⊎ (a ≡ false)
decided true = inl refl
decided false = inr refl

-- Where there is an answer under a test, the test holds.
pub some-of-cond : {A : Type 0} (test : Bool) (o : Option A) {a : A} → cond test o None ≡ Some a → (test ≡ true) × (o ≡ Some a)
some-of-cond true o e = (refl, e)
some-of-cond false o {a} e = absurd (none-some a e)
