-- The early drop of a seed: nothing fills where another number of places is touched than there are keys. Assumes nothing.
use Rattle.std.specs.Prelude.{◌≡◌, ℕ, ◌<◌, Bool, List, length}
use Rattle.std.proofs.Common.{arith}
use Rattle.filling.specs.Filling.{Key, Fills, EachCandidate}
use Rattle.filling.specs.Touched.{touched}
use Rattle.filling.proofs.TouchedLaws.{fills-touched, touched-below}

-- The early drop: n keys on n places, of which another number than n is touched, are filled by nothing.
pub untouched-none : (n : ℕ) (keys : List Key) → length keys ≡ n → EachCandidate (λ x. x < n) keys → (touched keys ≡ n → ⊥)
    → (cs : List Bool) → Fills keys cs → ⊥
untouched-none n keys size below other cs f = other (omega (arith, fills-touched keys cs f, touched-below n keys below))
