-- `parts::worked::parts_of_one_and_three` meets its contract: by the promise of `count_parts` the answer is what the definition
-- computes to, so that the seed does not serve. Assumes nothing.
use mathlib.Core.Path.{◌≡◌, ap, sym, ◌∙◌}
use mathlib.Core.Bool.{Bool, false, true≢false}
use mathlib.Core.List.{[], ◌∷◌}
use Prim.Native.Nat.{ℕ}
use Rattle.refusal.specs.Outcome.{answered}
use Rattle.graph.specs.Parts.{Parts}
use Rattle.counting.specs.Counting.{counting_of}
use Rattle.counting.proofs.Examples.{untouched-place}
use Rattle.parts.proofs.worked.parts_of_one_and_three.Goals as goal

-- What an answer says.
said : {serves : Bool} {number : ℕ} → answered (record { serves = serves; number = number }) ≡ counting_of (1 ∷ 3 ∷ []) 0
    → (serves ≡ false) × (number ≡ 2)
said {serves} {number} e =
    let same : ◌≡◌ {A = Parts} (record { serves = serves; number = number }) (record { serves = false; number = 2 }) = cc untouched-place in
    (ap (λ (p : Parts). p.serves) same, ap (λ (p : Parts). p.number) same)

pub returns-in-Ok : goal.returns-in-Ok
returns-in-Ok c = record { answer = absurd (true≢false (sym c.if-parts.true ∙ (said c.in-Ok.ensures.answer).0)) }

pub returns-in-Ok-2 : goal.returns-in-Ok-2
returns-in-Ok-2 c = record { answer = (said c.in-Ok.ensures.answer).1 }
