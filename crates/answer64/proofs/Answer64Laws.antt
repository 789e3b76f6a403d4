-- The 64-bit answers keep apart all outcomes that fit: an answer is taken apart into its outcome. Assumes nothing.
use Rattle.std.specs.Prelude.{◌≡◌, refl, ℕ, ◌+◌, ◌*◌, ◌/◌, ◌%◌, ◌≤◌, ◌<◌}
use Rattle.std.proofs.Common.{sym, ◌∙◌, ap, arith, lt-ltb, le-ltb}
use Rattle.refusal.specs.Limits.{tag_end, tags_max}
use Rattle.refusal.specs.Outcome.{Outcome, answered, refused, answered_by}
use Rattle.refusal.proofs.PlaceLaws.{PlaceBelow, Numbered}
use Rattle.image.specs.Lookup.{Found, number, unknown}
use Rattle.answer64.specs.Answer64.{answer64, outcome64, found_number}

-- An outcome that fits 64 bits: an answer below 2^32, or a number that is not 0 and a place below 2^32.
abbrev pub Fits : Outcome ℕ → Type 0
Fits (answered n) = n < tag_end
Fits (refused reason place) = (0 < reason) × (place < tag_end)

-- Its answer is taken apart into it,
pub outcome-answer : (o : Outcome ℕ) → Fits o → outcome64 (answer64 o) ≡ o
unfolding answer64 outcome64
outcome-answer (answered n) fits = rw (lt-ltb n tag_end fits)
outcome-answer (refused reason place) (some-reason, below) =
    let high : tag_end ≤ reason * tag_end + place = omega arith in
    let quotient : (reason * tag_end + place) / tag_end ≡ reason = omega arith in
    let rest : (reason * tag_end + place) % tag_end ≡ place = omega arith in
    rw (le-ltb (reason * tag_end + place) tag_end high, quotient, rest)

-- so that what holds of the outcome holds of what the answer is taken apart into,
pub promised64 : (o : Outcome ℕ) → Fits o → (holds : Outcome ℕ → Type 0) {outcome : Outcome ℕ} {r : ℕ} → outcome ≡ o
    → r ≡ answer64 outcome → holds outcome → (r ≡ answer64 o) × holds (outcome64 r)
promised64 o fits holds told answer h =
    let of-outcome = answer ∙ ap answer64 told in
    let taken-apart = ap outcome64 of-outcome ∙ outcome-answer o fits ∙ sym told in
    (of-outcome, rw taken-apart h)

-- and two of them have two answers.
pub answers-apart : (o p : Outcome ℕ) → Fits o → Fits p → answer64 o ≡ answer64 p → o ≡ p
answers-apart o p fo fp e = sym (outcome-answer o fo) ∙ ap outcome64 e ∙ outcome-answer p fp

pub fits-of : (bound : ℕ) (o : Outcome ℕ) → bound ≤ tag_end → PlaceBelow bound o → Numbered o → ((n : ℕ) → o ≡ answered n → n < tag_end)
    → Fits o
fits-of bound (answered n) le place numbered below = below n refl
fits-of bound (refused reason place) le low numbered below = (numbered, omega arith)

-- A number that lookup answers is that of a slot, and unknown is no slot's.
abbrev pub SlotFound : Outcome Found → Type 0
SlotFound (answered (number j)) = j < tags_max
SlotFound (answered unknown) = Unit {0}
SlotFound (refused reason place) = Unit {0}

-- A number below 4,096, unknown, or a refusal that fits.
pub found-fits : (bound : ℕ) (o : Outcome Found) → bound ≤ tag_end → SlotFound o → PlaceBelow bound o → Numbered o
    → Fits (answered_by found_number o)
unfolding answered_by found_number
found-fits bound (answered (number j)) le slot place numbered = omega arith
found-fits bound (answered unknown) le slot place numbered = omega arith
found-fits bound (refused reason place) le slot low numbered = (numbered, omega arith)

pub found-apart : (o p : Outcome Found) → SlotFound o → SlotFound p → answered_by found_number o ≡ answered_by found_number p → o ≡ p
unfolding answered_by found_number
found-apart (answered (number i)) (answered (number j)) so sp e = let same : i ≡ j = cc in rw same
found-apart (answered (number i)) (answered unknown) so sp e = let same : i ≡ 4294967295 = cc in absurd (omega arith)
found-apart (answered unknown) (answered (number j)) so sp e = let same : j ≡ 4294967295 = cc in absurd (omega arith)
found-apart (answered unknown) (answered unknown) so sp e = refl
found-apart (answered f) (refused reason place) so sp e = absurd (let z : ◌≡◌ {A = ℕ} 0 1 = cc in omega arith)
found-apart (refused reason place) (answered f) so sp e = absurd (let z : ◌≡◌ {A = ℕ} 0 1 = cc in omega arith)
found-apart (refused reason place) (refused reason' place') so sp e = cc
