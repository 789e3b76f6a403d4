-- When a list passes check 6, and what follows for its tags. Assumes nothing.
use Rattle.std.specs.Prelude.{◌≡◌, refl, Bool, true, false, List, ℕ, zero, suc, ◌-◌, ◌≤◌, ◌<◌, ltb, length, get_or, None}
use Rattle.std.proofs.Common.{arith, leb-false, le-leb, ltb-true, ltb-false}
use Rattle.std.proofs.lemmas.Bool.{lt-leb}
use Rattle.lists.proofs.FirstLaws.{first-none, first_out}
use Rattle.lists.specs.Occurs.{distinct}
use Rattle.lists.proofs.OccursLaws.{get_or-distinct}
use Rattle.group.specs.Ascending.{not_above, ascending_check, Ascending}

-- Check 6 is not met exactly where the list is strictly ascending.
pub ascending-of-check : (tags : List ℕ) → (ascending_check tags).1 ≡ None → Ascending tags
unfolding not_above
ascending-of-check tags e i lt =
    leb-false (get_or tags (suc i) 0) (get_or tags i 0) (first-none (not_above tags) (length tags) e (suc i) lt)

pub check-of-ascending : (tags : List ℕ) → Ascending tags → (ascending_check tags).1 ≡ None
unfolding not_above
check-of-ascending tags up = first_out (not_above tags) (length tags) above
  where
    above : (i : ℕ) → i < length tags → not_above tags i ≡ false
    above zero lt = refl
    above (suc i) lt = lt-leb (get_or tags (suc i) 0) (get_or tags i 0) (up i lt)

-- A later tag is above every earlier one,
pub ascending-above : (tags : List ℕ) → Ascending tags → (i j : ℕ) → i < j → j < length tags → get_or tags i 0 < get_or tags j 0
ascending-above tags up i zero lt below = absurd (omega arith)
ascending-above tags up i (suc j) lt below = go (ltb i j) refl (λ l. ascending-above tags up i j l (omega arith))
  where
    go : (b : Bool) → ltb i j ≡ b → (i < j → get_or tags i 0 < get_or tags j 0) → get_or tags i 0 < get_or tags (suc j) 0
    go true e lower = omega (arith, lower (ltb-true i j e), up j below)
    go false e lower = let same : i ≡ j = omega (arith, ltb-false i j e) in rw same (up j below)

-- so no tag comes twice.
pub ascending-distinct : (tags : List ℕ) → Ascending tags → distinct tags ≡ true
ascending-distinct tags up = get_or-distinct tags (λ i j li lj e. go i j li lj e (ltb i j) (ltb j i) refl refl)
  where
    go : (i j : ℕ) → i < length tags → j < length tags → get_or tags i 0 ≡ get_or tags j 0
        → (p q : Bool) → ltb i j ≡ p → ltb j i ≡ q → i ≡ j
    go i j li lj e true q f g = absurd (omega (arith, ascending-above tags up i j (ltb-true i j f) lj))
    go i j li lj e false true f g = absurd (omega (arith, ascending-above tags up j i (ltb-true j i g) li))
    go i j li lj e false false f g = omega (arith, ltb-false i j f, ltb-false j i g)

-- The test of check 6, index by index.
pub first_above : (tags : List ℕ) → not_above tags 0 ≡ false
unfolding not_above
first_above tags = refl

pub not-above : (tags : List ℕ) (i : ℕ) → 0 < i → get_or tags i 0 ≤ get_or tags (i - 1) 0 → not_above tags i ≡ true
unfolding not_above
not-above tags zero some le = absurd (omega arith)
not-above tags (suc i) some le =
    let e : suc i - 1 ≡ i = omega arith in le-leb (get_or tags (suc i) 0) (get_or tags i 0) (rw e at le)

pub above : (tags : List ℕ) (i : ℕ) → 0 < i → get_or tags (i - 1) 0 < get_or tags i 0 → not_above tags i ≡ false
unfolding not_above
above tags zero some lt = absurd (omega arith)
above tags (suc i) some lt =
    let e : suc i - 1 ≡ i = omega arith in lt-leb (get_or tags (suc i) 0) (get_or tags i 0) (rw e at lt)
