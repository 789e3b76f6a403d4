-- `tagless_seeds::worked::word_of_one_and_three` meets its contract: by the promise of `least_worded_seed` the answer is the seed and the
-- word that the definitions give. Assumes nothing.
use Prim.Native.Nat.{ℕ}
use mathlib.Core.Path.{◌≡◌, ◌∙◌, ap}
use Rattle.std.specs.Prelude.{Option, Some}
use Rattle.std.proofs.lemmas.Option.{same_Some}
use Rattle.tagless_group.proofs.Worked.{seed-and-word}
use Rattle.tagless_seeds.proofs.worked.word_of_one_and_three.Goals as goal

-- The word of a seed and its word.
word-is : {s t w v : ℕ} → ◌≡◌ {A = Option (ℕ × ℕ)} (Some (s, w)) (Some (t, v)) → w ≡ v
word-is {s} {t} {w} {v} e = ap (λ p. p.1) (same_Some (s, w) (t, v) e)

pub returns-in-Some : goal.returns-in-Some
returns-in-Some c =
    let promised = rw c.in-Some.is at c.least_worded_seed.ensures.answer in
    record { answer = word-is (promised ∙ seed-and-word) }

pub returns-in-None : goal.returns-in-None
returns-in-None c =
    let promised = rw c.in-None.is at c.least_worded_seed.ensures.answer in
    record { answer = cc seed-and-word }
