-- The groups of an image of which none is faulty: they follow one another from 0 to N, and each slot lies in exactly one.
-- Assumes nothing.
use Rattle.std.specs.Prelude.{◌≡◌, Bool, true, false, not, ◌&&◌, ◌||◌, ℕ, zero, suc, ◌+◌, ◌-◌, ◌≤◌, ◌<◌, eqb, Option, None, Some, unwrap_or}
use Rattle.std.proofs.Math.Path.{refl}
use Rattle.std.proofs.Common.{sym, ◌∙◌, true≢false, add-zero, arith}
use Rattle.std.proofs.Math.Bool.{or-true, or-false}
use Rattle.std.proofs.Math.Dec.{leb, ltb}
use borrow.Author.Tests.{ltb-true, ltb-false, lt-ltb, le-ltb, leb-true, le-leb, eqb-true, eq-eqb, not-false}
use Rattle.refusal.specs.Limits.{group_max}
use Rattle.lists.proofs.BoolLaws.{both-of-and, neither-of-or}
use Rattle.lists.specs.First.{first}
use Rattle.lists.proofs.FirstLaws.{first_some, first-none}
use Rattle.image.specs.View.{View, count_in, groups_in, start_in, end_in, faulty}
use Rattle.image.specs.Fair.{Fair, LiesIn, AllFair}
use Rattle.image.specs.Checking.{group_of_slot}

pub fair-of-faulty : (g start next : ℕ) → faulty g start next ≡ false → Fair g start next
unfolding faulty
fair-of-faulty g start next e =
    let (first_group, rest) = neither-of-or (eqb g 0 && not (eqb start 0)) (ltb next start || ltb (start + group_max) next) e in
    let (falls, large) = neither-of-or (ltb next start) (ltb (start + group_max) next) rest in
    record {
      zero-first = λ z. eqb-true start 0 (not-false (eqb start 0) (rw (eq-eqb g 0 z) at first_group));
      ascends = ltb-false next start falls;
      small = ltb-false (start + group_max) next large;
    }

pub faulty-of-fair : (g start next : ℕ) → Fair g start next → faulty g start next ≡ false
unfolding faulty
faulty-of-fair g start next fair =
    rw (le-ltb next start fair.ascends, le-ltb (start + group_max) next fair.small) (go (eqb g 0) refl)
  where
    go : (b : Bool) → eqb g 0 ≡ b → ((b && not (eqb start 0)) || false) ≡ false
    go true e = rw (eq-eqb start 0 (fair.zero-first (eqb-true g 0 e)))
    go false e = refl

-- The ways in which a group is faulty.
pub faulty-falls : (g start next : ℕ) → next < start → faulty g start next ≡ true
unfolding faulty
faulty-falls g start next falls = rw (lt-ltb next start falls, or-true)

pub faulty-large : (g start next : ℕ) → start + group_max < next → faulty g start next ≡ true
unfolding faulty
faulty-large g start next large = rw (lt-ltb (start + group_max) next large, or-true, or-true)

pub faulty-first : (start next : ℕ) → start ≤ next → next ≤ start + group_max → faulty 0 start next ≡ not (eqb start 0)
unfolding faulty
faulty-first start next ascends small =
    rw (le-ltb next start ascends, le-ltb (start + group_max) next small) (or-false (not (eqb start 0)))

-- A group ends where the next one starts, the last one at N.
pub end-next : (v : View) (g : ℕ) → suc g < groups_in v → end_in v g ≡ start_in v (suc g)
unfolding end_in
end-next v g lt = rw (lt-ltb (suc g) (groups_in v) lt)

pub end-last : (v : View) (g : ℕ) → groups_in v ≤ suc g → end_in v g ≡ count_in v
unfolding end_in
end-last v g le = rw (le-ltb (suc g) (groups_in v) le)

module _ (v : View) (fair : AllFair v) where
  -- A group ends where a later one starts, or before.
  end_before : (g d : ℕ) → suc g + d < groups_in v → end_in v g ≤ start_in v (suc g + d)
  end_before g zero lt = rw add-zero (omega (arith, end-next v g (omega arith)))
  end_before g (suc d) lt =
      let e : suc g + suc d ≡ suc (suc g + d) = omega arith in
      rw e
      (omega (
        arith,
        end_before g d (omega arith),
        (fair (suc g + d) (omega arith)).ascends,
        end-next v (suc g + d) (omega arith),
      ))

  -- Every group ends at N or before.
  pub end-most : (g : ℕ) → g < groups_in v → end_in v g ≤ count_in v
  end-most g lt = go (ltb (suc g) (groups_in v)) refl
    where
      last : ℕ
      last = groups_in v - 1

      go : (b : Bool) → ltb (suc g) (groups_in v) ≡ b → end_in v g ≤ count_in v
      go false e = omega (arith, end-last v g (ltb-false (suc g) (groups_in v) e))
      go true e =
          let later : suc g < groups_in v = ltb-true (suc g) (groups_in v) e in
          let k : suc g + (groups_in v - suc (suc g)) ≡ groups_in v - 1 = omega arith in
          let before = rw k at (end_before g (groups_in v - suc (suc g)) (omega arith)) in
          omega (arith, before, (fair (groups_in v - 1) (omega arith)).ascends, end-last v (groups_in v - 1) (omega arith))

  -- A slot lies in one group only.
  lies-not-before : (j g h : ℕ) → LiesIn v j g → LiesIn v j h → g < h → ⊥
  lies-not-before j g h a b lt =
      let e : suc g + (h - suc g) ≡ h = omega arith in
      let before = rw e at (end_before g (h - suc g) (omega (arith, b.group))) in
      omega (arith, a.below, b.from)

  pub lies-once : (j g h : ℕ) → LiesIn v j g → LiesIn v j h → g ≡ h
  lies-once j g h a b = go (ltb g h) (ltb h g) refl refl
    where
      go : (p q : Bool) → ltb g h ≡ p → ltb h g ≡ q → g ≡ h
      go true q e f = absurd (lies-not-before j g h a b (ltb-true g h e))
      go false true e f = absurd (lies-not-before j h g b a (ltb-true h g f))
      go false false e f = omega (arith, ltb-false g h e, ltb-false h g f)

  -- Each slot before a group's end lies in that group or a lower one.
  lies-upto : (j k : ℕ) → k < groups_in v → j < end_in v k → (g : ℕ) × LiesIn v j g
  lies-upto j zero lt below =
      (zero, record { group = lt; from = omega (arith, (fair zero lt).zero-first refl); below = below })
  lies-upto j (suc k) lt below = go (ltb j (start_in v (suc k))) refl (lies-upto j k (omega arith))
    where
      go : (b : Bool) → ltb j (start_in v (suc k)) ≡ b → (j < end_in v k → (g : ℕ) × LiesIn v j g) → (g : ℕ) × LiesIn v j g
      go true e lower = lower (omega (arith, ltb-true j (start_in v (suc k)) e, end-next v k lt))
      go false e lower = (suc k, record { group = lt; from = ltb-false j (start_in v (suc k)) e; below = below })

  -- Each slot of the image lies in a group, and `group_of_slot` is that group.
  pub group_of_slot-lies : (j : ℕ) → 0 < groups_in v → j < count_in v → LiesIn v j (group_of_slot v j)
  unfolding group_of_slot
  group_of_slot-lies j many below =
      let k = groups_in v - 1 in
      let (g, lies) = lies-upto j k (omega arith) (omega (arith, end-last v k (omega arith))) in
      go (first (λ g. leb (start_in v g) j && ltb j (end_in v g)) (groups_in v)) refl g lies
    where
      go : (o : Option ℕ) → first (λ g. leb (start_in v g) j && ltb j (end_in v g)) (groups_in v) ≡ o
          → (g : ℕ) → LiesIn v j g → LiesIn v j (unwrap_or o 0)
      go None e g lies =
          absurd (true≢false (sym (rw (le-leb (start_in v g) j lies.from, lt-ltb j (end_in v g) lies.below))
          ∙ first-none (λ g. leb (start_in v g) j && ltb j (end_in v g)) (groups_in v) e g lies.group))
      go (Some h) e g lies =
          let at = first_some (λ g. leb (start_in v g) j && ltb j (end_in v g)) (groups_in v) e in
          let (from, before) = both-of-and (leb (start_in v h) j) (ltb j (end_in v h)) at.holds in
          record { group = at.below; from = leb-true (start_in v h) j from; below = ltb-true j (end_in v h) before }
