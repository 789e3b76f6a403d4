-- When a list passes check 17, and that tag 0 then stands nowhere in it. Assumes nothing.
use Rattle.std.specs.Prelude.{◌≡◌, refl, false, List, [], ◌∷◌, ℕ, zero, suc, ◌<◌, eqb, length, get_or, None}
use Rattle.std.proofs.Math.Bool.{not-eq-not}
use Rattle.std.proofs.Common.{arith, ne_eqb}
use Rattle.std.proofs.lemmas.Bool.{eqb-false}
use Rattle.refusal.specs.Limits.{unwired}
use Rattle.refusal.specs.Outcome.{answered}
use Rattle.refusal.proofs.ChecksLaws.{met-false, false-of-met, passed, in_order-answered}
use Rattle.lists.specs.Occurs.{occurs}
use Rattle.lists.proofs.OccursLaws.{occurs-not, get_or-occurs, occurs-get_or}
use Rattle.group.specs.Ascending.{Ascending}
use Rattle.group.proofs.AscendingLaws.{ascending-of-check, ascending-above}
use Rattle.group.specs.Unwired.{starts_unwired, unwired_check, FirstWired}
use Rattle.group.specs.Placing.{Placement, placing_checks, placement_of, placing_of}

-- Whether a list begins with tag 0, by its length and its first tag.
pub starts_none : (tags : List ℕ) → length tags ≡ 0 → starts_unwired tags ≡ false
unfolding starts_unwired
starts_none [] e = refl
starts_none (t ∷ tags) e = absurd (omega arith)

pub starts_with : (tags : List ℕ) → 0 < length tags → starts_unwired tags ≡ eqb (get_or tags 0 0) unwired
unfolding starts_unwired
starts_with [] some = absurd (omega arith)
starts_with (t ∷ tags) some = refl

-- Check 17 is not met exactly where the first tag is not 0.
pub wired-of-check : (tags : List ℕ) → (unwired_check tags).1 ≡ None → FirstWired tags
unfolding starts_unwired
wired-of-check [] e some = absurd (omega arith)
wired-of-check (t ∷ tags) e some = let other : t ≡ 0 → ⊥ = eqb-false t unwired (false-of-met _ e) in omega (arith, other)

pub check-of-wired : (tags : List ℕ) → FirstWired tags → (unwired_check tags).1 ≡ None
unfolding starts_unwired
check-of-wired [] wired = met-false refl
check-of-wired (t ∷ tags) wired = met-false (ne_eqb t unwired (λ e. omega (arith, wired (omega arith))))

-- A strictly ascending list whose first tag is not 0 has it nowhere.
pub wired-absent : (tags : List ℕ) → Ascending tags → FirstWired tags → occurs unwired tags ≡ false
wired-absent tags up wired =
    not-eq-not.0 (λ there. let found = occurs-get_or tags unwired there in at found.index found.inside found.value)
  where
    at : (i : ℕ) → i < length tags → get_or tags i 0 ≡ unwired → ⊥
    at zero inside is = omega (arith, wired inside)
    at (suc i) inside is = omega (arith, ascending-above tags up 0 (suc i) (omega arith) inside)

-- And a list without tag 0 does not begin with it.
pub absent-wired : (tags : List ℕ) → occurs unwired tags ≡ false → FirstWired tags
absent-wired tags absent some =
    let first : get_or tags 0 0 ≡ unwired → ⊥ = λ e. occurs-not unwired tags (rw e at (get_or-occurs tags 0 some)) absent in
    omega (arith, first)

-- "A list with tag 0 must not get a place for it": placing answers for no list that has it.
pub placing-wired : (tags : List ℕ) (limit : ℕ) {p : Placement} → placing_of tags limit ≡ answered p → occurs unwired tags ≡ false
unfolding placing_of placing_checks
placing-wired tags limit e =
    let checks = placing_checks tags limit in
    let (passes, told) = in_order-answered checks (answered (placement_of tags limit)) e in
    wired-absent tags (ascending-of-check tags (passed checks passes 6)) (wired-of-check tags (passed checks passes 17))
