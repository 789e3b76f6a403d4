-- The tags of a group and its start: who belongs where, and that the groups follow one another. Assumes nothing.
use Rattle.std.specs.Prelude.{◌≡◌, refl, ◌⊎◌, Bool, true, false, cond, List, [], ◌∷◌, ◌++◌, ℕ, zero, suc, ◌+◌, ◌-◌, ◌≤◌, ◌<◌, eqb, ltb}
use Rattle.std.specs.Prelude.{length, get_or}
use Rattle.std.proofs.Common.{inl, inr, add-zero, add-suc, arith, eqb-true, eq-eqb, ltb-true, ltb-false, lt-ltb, le-ltb}
use Rattle.std.proofs.Math.Bool.{not-eq-not}
use Rattle.std.proofs.lemmas.Bool.{eqb-false}
use Rattle.hash.specs.Formula.{group_of}
use Rattle.hash.proofs.FormulaLaws.{group-below}
use Rattle.lists.specs.Occurs.{occurs, distinct}
use Rattle.lists.proofs.OccursLaws.{occurs-here, occurs-there, occurs-cases, occurs-not, distinct_head, distinct_tail, distinct_cons}
use Rattle.group.specs.Ascending.{Ascending}
use Rattle.group.proofs.AscendingLaws.{ascending-above}
use Rattle.numbering.specs.Members.{select, members, start_of}

-- A number that is the first of a list occurs in it.
occurs-same : (x y : ℕ) (ys : List ℕ) → x ≡ y → occurs x (y ∷ ys) ≡ true
occurs-same x y ys same = rw same (occurs-here y ys)

-- A tag that passes the test is selected,
select-occurs : (test : ℕ → Bool) (xs : List ℕ) (x : ℕ) → occurs x xs ≡ true → test x ≡ true → occurs x (select test xs) ≡ true
unfolding select
select-occurs test [] x m e = m
select-occurs test (y ∷ ys) x m e = go (test y) refl (occurs-cases x y ys m) (λ n. select-occurs test ys x n e)
  where
    go : (b : Bool) → test y ≡ b → (x ≡ y) ⊎ (occurs x ys ≡ true) → (occurs x ys ≡ true → occurs x (select test ys) ≡ true)
        → occurs x (cond b (y ∷ select test ys) (select test ys)) ≡ true
    go true f (inl same) rest = rw same (occurs-here y (select test ys))
    go true f (inr n) rest = occurs-there x y (select test ys) (rest n)
    go false f (inl same) rest = cc
    go false f (inr n) rest = rest n

-- and what is selected is in the list and passes the test.
pub occurs-select : (test : ℕ → Bool) (xs : List ℕ) (x : ℕ) → occurs x (select test xs) ≡ true → (occurs x xs ≡ true) × (test x ≡ true)
unfolding select occurs
occurs-select test [] x m = (cc, cc)
occurs-select test (y ∷ ys) x m = go (test y) refl m (occurs-select test ys x)
  where
    later : (occurs x ys ≡ true) × (test x ≡ true) → (occurs x (y ∷ ys) ≡ true) × (test x ≡ true)
    later (n, e) = (occurs-there x y ys n, e)

    go : (b : Bool) → test y ≡ b → occurs x (cond b (y ∷ select test ys) (select test ys)) ≡ true
        → (occurs x (select test ys) ≡ true → (occurs x ys ≡ true) × (test x ≡ true)) → (occurs x (y ∷ ys) ≡ true) × (test x ≡ true)
    go true f m rest = at (occurs-cases x y (select test ys) m)
      where
        at : (x ≡ y) ⊎ (occurs x (select test ys) ≡ true) → (occurs x (y ∷ ys) ≡ true) × (test x ≡ true)
        at (inl same) = (occurs-same x y ys same, rw same f)
        at (inr n) = later (rest n)
    go false f m rest = later (rest m)

-- Different tags stay different.
pub select-distinct : (test : ℕ → Bool) (xs : List ℕ) → distinct xs ≡ true → distinct (select test xs) ≡ true
unfolding select
select-distinct test [] d = d
select-distinct test (y ∷ ys) d = go (test y) (select-distinct test ys (distinct_tail y ys d))
  where
    again : occurs y (select test ys) ≡ true → ⊥
    again m = occurs-not y ys (occurs-select test ys y m).0 (distinct_head y ys d)

    go : (b : Bool) → distinct (select test ys) ≡ true → distinct (cond b (y ∷ select test ys) (select test ys)) ≡ true
    go true rest = distinct_cons y (select test ys) (not-eq-not.0 again) rest
    go false rest = rest

-- A test that every tag passes selects all of them; one that none passes selects none.
pub select-all : (test : ℕ → Bool) (xs : List ℕ) → ((x : ℕ) → test x ≡ true) → select test xs ≡ xs
unfolding select
select-all test [] all = refl
select-all test (x ∷ xs) all = rw (all x, select-all test xs all)

pub select-none : (test : ℕ → Bool) (xs : List ℕ) → ((x : ℕ) → test x ≡ false) → select test xs ≡ []
unfolding select
select-none test [] none = refl
select-none test (x ∷ xs) none = rw (none x, select-none test xs none)

-- Selecting goes part by part, and never gives more than there is.
pub select-append : (test : ℕ → Bool) (xs ys : List ℕ) → select test (xs ++ ys) ≡ select test xs ++ select test ys
unfolding select
select-append test [] ys = refl
select-append test (x ∷ xs) ys = go (test x) (select-append test xs ys)
  where
    go : (b : Bool) → select test (xs ++ ys) ≡ select test xs ++ select test ys
        → cond b (x ∷ select test (xs ++ ys)) (select test (xs ++ ys)) ≡ cond b (x ∷ select test xs) (select test xs) ++ select test ys
    go true rest = rw rest
    go false rest = rest

pub select-length : (test : ℕ → Bool) (xs : List ℕ) → length (select test xs) ≤ length xs
unfolding select
select-length test [] = omega arith
select-length test (x ∷ xs) = go (test x) (select-length test xs)
  where
    go : (b : Bool) → length (select test xs) ≤ length xs → length (cond b (x ∷ select test xs) (select test xs)) ≤ suc (length xs)
    go true le = omega arith
    go false le = omega arith

-- What is above a number stays above it, and tags in ascending order stay so.
select-above : (test : ℕ → Bool) (m : ℕ) (xs : List ℕ) → ((i : ℕ) → i < length xs → m < get_or xs i 0)
    → (i : ℕ) → i < length (select test xs) → m < get_or (select test xs) i 0
unfolding select
select-above test m [] all i lt = all i lt
select-above test m (x ∷ xs) all i lt = go (test x) i lt (select-above test m xs (λ j l. all (suc j) (omega arith)))
  where
    go : (b : Bool) (i : ℕ) → i < length (cond b (x ∷ select test xs) (select test xs))
        → ((j : ℕ) → j < length (select test xs) → m < get_or (select test xs) j 0)
        → m < get_or (cond b (x ∷ select test xs) (select test xs)) i 0
    go true zero lt rest = all 0 (omega arith)
    go true (suc i) lt rest = rest i (omega arith)
    go false i lt rest = rest i lt

pub select-ascending : (test : ℕ → Bool) (xs : List ℕ) → Ascending xs → Ascending (select test xs)
unfolding select
select-ascending test [] up = up
select-ascending test (x ∷ xs) up = go (test x) (select-ascending test xs (λ i lt. up (suc i) (omega arith)))
  where
    over : (i : ℕ) → i < length (select test xs) → x < get_or (select test xs) i 0
    over = select-above test x xs (λ i lt. ascending-above (x ∷ xs) up 0 (suc i) (omega arith) (omega arith))

    go : (b : Bool) → Ascending (select test xs) → Ascending (cond b (x ∷ select test xs) (select test xs))
    go true rest zero lt = over 0 (omega arith)
    go true rest (suc i) lt = rest i (omega arith)
    go false rest i lt = rest i lt

-- A listed tag is a member of its group.
pub members-own : (groups : ℕ) (tags : List ℕ) (t : ℕ) → occurs t tags ≡ true → occurs t (members groups (group_of groups t) tags) ≡ true
unfolding members
members-own groups tags t m =
    select-occurs (λ u. eqb (group_of groups u) (group_of groups t)) tags t m (eq-eqb (group_of groups t) (group_of groups t) refl)

pub members-distinct : (groups g : ℕ) (tags : List ℕ) → distinct tags ≡ true → distinct (members groups g tags) ≡ true
unfolding members
members-distinct groups g tags d = select-distinct (λ t. eqb (group_of groups t) g) tags d

pub members-ascending : (groups g : ℕ) (tags : List ℕ) → Ascending tags → Ascending (members groups g tags)
unfolding members
members-ascending groups g tags up = select-ascending (λ t. eqb (group_of groups t) g) tags up

-- A tag that is not listed is in no group.
pub members-absent : (groups g : ℕ) (tags : List ℕ) (t : ℕ) → occurs t tags ≡ false → occurs t (members groups g tags) ≡ false
unfolding members
members-absent groups g tags t absent =
    not-eq-not.0 (λ there. occurs-not t tags (occurs-select (λ u. eqb (group_of groups u) g) tags t there).0 absent)

-- Group 0 starts at 0, the groups follow one another, and after the last one N is reached.
pub start-zero : (groups : ℕ) (tags : List ℕ) → start_of groups 0 tags ≡ 0
unfolding start_of
start-zero groups tags = rw (select-none (λ t. ltb (group_of groups t) 0) tags (λ t. le-ltb (group_of groups t) 0 (omega arith)))

pub start-all : (groups : ℕ) (tags : List ℕ) → 0 < groups → start_of groups groups tags ≡ length tags
unfolding start_of
start-all groups tags many =
    rw (select-all (λ t. ltb (group_of groups t) groups) tags (λ t. lt-ltb (group_of groups t) groups (group-below groups t many)))

pub start-suc : (groups g : ℕ) (tags : List ℕ) → start_of groups (suc g) tags ≡ start_of groups g tags + length (members groups g tags)
unfolding start_of members select
start-suc groups g [] = refl
start-suc groups g (t ∷ ts) = go (ltb k g) (eqb k g) refl refl (start-suc groups g ts)
  where
    k : ℕ
    k = group_of groups t

    go : (p q : Bool) → ltb k g ≡ p → eqb k g ≡ q → start_of groups (suc g) ts ≡ start_of groups g ts + length (members groups g ts)
        → start_of groups (suc g) (t ∷ ts) ≡ start_of groups g (t ∷ ts) + length (members groups g (t ∷ ts))
    go true true e f rest = absurd (omega (arith, ltb-true k g e, eqb-true k g f))
    go true false e f rest =
        let below : k < suc g = omega (arith, ltb-true k g e) in rw (lt-ltb k (suc g) below, e, f) (omega arith)
    go false true e f rest =
        let below : k < suc g = omega (arith, eqb-true k g f) in rw (lt-ltb k (suc g) below, e, f) (omega arith)
    go false false e f rest =
        let apart : k ≡ g → ⊥ = eqb-false k g f in
        let above : suc g ≤ k = omega (arith, ltb-false k g e, apart) in
        rw (le-ltb k (suc g) above, e, f) rest

-- A later group starts no earlier than a lower one ends.
pub start-before : (groups g h : ℕ) (tags : List ℕ) → g ≤ h → start_of groups g tags ≤ start_of groups h tags
start-before groups g h tags le =
    let e : g + (h - g) ≡ h = omega arith in rw e at (go (h - g))
  where
    go : (d : ℕ) → start_of groups g tags ≤ start_of groups (g + d) tags
    go zero = rw add-zero (omega arith)
    go (suc d) = rw add-suc (omega (arith, go d, start-suc groups (g + d) tags))
