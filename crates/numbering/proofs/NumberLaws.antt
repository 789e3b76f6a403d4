-- The numbering theorem: if in each group the places are all different and below n, then each number below N belongs to exactly one
-- tag. It says nothing of slots. And: sequences that fill give such places. Assumes nothing.
use Rattle.std.specs.Prelude.{◌≡◌, refl, ◌⊎◌, Bool, true, false, List, [], ◌∷◌, map, ℕ, suc, ◌+◌, ◌<◌, eqb, ltb, length}
use Rattle.std.proofs.Common.{sym, ◌∙◌, ap, inl, inr, true≢false, arith, eqb-true, eq-eqb, ne_eqb, ltb-true, ltb-false}
use Rattle.std.proofs.Math.Bool.{not-eq-not}
use Rattle.std.proofs.lemmas.List.{length-map}
use Rattle.std.proofs.lemmas.Bool.{eqb-false}
use Rattle.hash.specs.Formula.{group_of}
use Rattle.hash.proofs.FormulaLaws.{group-below, place-below}
use Rattle.lists.specs.Occurs.{occurs, distinct}
use Rattle.lists.proofs.OccursLaws.{occurs-here, occurs-there, occurs-cases, occurs-not, distinct_head, distinct_tail, distinct_cons, onto}
use Rattle.filling.specs.Filling.{Key, place_by, chosen, Fills}
use Rattle.group.specs.Group.{both_places, candidates, group_under}
use Rattle.group.proofs.GroupLaws.{fills-length}
use Rattle.numbering.specs.Members.{members, start_of}
use Rattle.numbering.proofs.MembersLaws.{members-own, members-distinct, start-all, start-suc, start-before}
use Rattle.numbering.specs.Number.{choice_of, place_in, tag_numbered}

-- A number that is the first of a list occurs in it.
occurs-same : (x y : ℕ) (ys : List ℕ) → x ≡ y → occurs x (y ∷ ys) ≡ true
occurs-same x y ys same = rw same (occurs-here y ys)

-- Numbers that a list is mapped to: which occur, and when they are different.
map-occurs : (f : ℕ → ℕ) (xs : List ℕ) (x : ℕ) → occurs x xs ≡ true → occurs (f x) (map f xs) ≡ true
unfolding occurs
map-occurs f [] x m = cc
map-occurs f (y ∷ ys) x m = go (occurs-cases x y ys m) (map-occurs f ys x)
  where
    go : (x ≡ y) ⊎ (occurs x ys ≡ true) → (occurs x ys ≡ true → occurs (f x) (map f ys) ≡ true) → occurs (f x) (map f (y ∷ ys)) ≡ true
    go (inl same) rest = occurs-same (f x) (f y) (map f ys) (ap f same)
    go (inr n) rest = occurs-there (f x) (f y) (map f ys) (rest n)

-- A number in the image of a list, and where it comes from.
pub record ImageOf (f : ℕ → ℕ) (xs : List ℕ) (y : ℕ) : Type 0 where
  pub from : ℕ
  pub listed : occurs from xs ≡ true
  pub value : f from ≡ y

occurs-map : (f : ℕ → ℕ) (xs : List ℕ) (y : ℕ) → occurs y (map f xs) ≡ true → ImageOf f xs y
unfolding occurs
occurs-map f [] y m = record { from = 0; listed = cc; value = cc }
occurs-map f (x ∷ xs) y m = go (occurs-cases y (f x) (map f xs) m) (occurs-map f xs y)
  where
    go : (y ≡ f x) ⊎ (occurs y (map f xs) ≡ true) → (occurs y (map f xs) ≡ true → ImageOf f xs y) → ImageOf f (x ∷ xs) y
    go (inl same) rest = record { from = x; listed = occurs-here x xs; value = sym same }
    go (inr n) rest = let r = rest n in record { from = r.from; listed = occurs-there r.from x xs r.listed; value = r.value }

map-distinct : (f : ℕ → ℕ) (xs : List ℕ) → distinct xs ≡ true
    → ((x y : ℕ) → occurs x xs ≡ true → occurs y xs ≡ true → f x ≡ f y → x ≡ y) → distinct (map f xs) ≡ true
map-distinct f [] d apart = d
map-distinct f (x ∷ xs) d apart =
    distinct_cons (f x) (map f xs) (not-eq-not.0 again)
    (map-distinct f xs (distinct_tail x xs d) (λ y z m n e. apart y z (occurs-there y x xs m) (occurs-there z x xs n) e))
  where
    again : occurs (f x) (map f xs) ≡ true → ⊥
    again m =
        let r = occurs-map f xs (f x) m in
        let same : r.from ≡ x = apart r.from x (occurs-there r.from x xs r.listed) (occurs-here x xs) r.value in
        occurs-not x xs (rw same at r.listed) (distinct_head x xs d)

distinct-map : (f : ℕ → ℕ) (xs : List ℕ) → distinct (map f xs) ≡ true
    → (x y : ℕ) → occurs x xs ≡ true → occurs y xs ≡ true → f x ≡ f y → x ≡ y
unfolding occurs
distinct-map f [] d x y m n e = cc
distinct-map f (z ∷ zs) d x y m n e =
    go (occurs-cases x z zs m) (occurs-cases y z zs n) (λ p q. distinct-map f zs (distinct_tail (f z) (map f zs) d) x y p q e)
  where
    off : (u : ℕ) → occurs u zs ≡ true → f u ≡ f z → ⊥
    off u m e = occurs-not (f z) (map f zs) (rw e at (map-occurs f zs u m)) (distinct_head (f z) (map f zs) d)

    go : (x ≡ z) ⊎ (occurs x zs ≡ true) → (y ≡ z) ⊎ (occurs y zs ≡ true) → (occurs x zs ≡ true → occurs y zs ≡ true → x ≡ y) → x ≡ y
    go (inl p) (inl q) rest = p ∙ sym q
    go (inl p) (inr q) rest = absurd (off y q (sym e ∙ ap f p))
    go (inr p) (inl q) rest = absurd (off x p (e ∙ ap f q))
    go (inr p) (inr q) rest = rest p q

-- Numbers below a list's length that are different for different elements are all numbers below it.
pub image-onto : (f : ℕ → ℕ) (xs : List ℕ) → distinct xs ≡ true
    → ((x y : ℕ) → occurs x xs ≡ true → occurs y xs ≡ true → f x ≡ f y → x ≡ y) → ((x : ℕ) → occurs x xs ≡ true → f x < length xs)
    → (j : ℕ) → j < length xs → ImageOf f xs j
image-onto f xs d apart below j lt =
    occurs-map f xs j (onto (length xs) (map f xs) (length-map xs f) (map-distinct f xs d apart) low j lt)
  where
    low : (y : ℕ) → occurs y (map f xs) ≡ true → y < length xs
    low y m = let r = occurs-map f xs y m in omega (arith, below r.from r.listed, r.value)

-- In each group the places are all different and below n.
pub record Placed (groups : ℕ) (tags : List ℕ) (place : ℕ → ℕ) : Type 0 where
  pub some-group : 0 < groups
  pub differ : distinct tags ≡ true
  pub inside : (t : ℕ) → occurs t tags ≡ true → place t < length (members groups (group_of groups t) tags)
  pub apart : (t u : ℕ) → occurs t tags ≡ true → occurs u tags ≡ true → group_of groups t ≡ group_of groups u → place t ≡ place u → t ≡ u

-- Start plus place.
abbrev pub numbered : ℕ → List ℕ → (ℕ → ℕ) → ℕ → ℕ
numbered groups tags place t = start_of groups (group_of groups t) tags + place t

module _ {groups : ℕ} {tags : List ℕ} {place : ℕ → ℕ} (p : Placed groups tags place) where
  -- A tag's number lies in its group.
  number-ends : (t : ℕ) → occurs t tags ≡ true → numbered groups tags place t < start_of groups (suc (group_of groups t)) tags
  number-ends t m = omega (arith, p.inside t m, start-suc groups (group_of groups t) tags)

  -- Numbers of lower groups are lower.
  number-before : (t u : ℕ) → occurs t tags ≡ true → group_of groups t < group_of groups u
      → numbered groups tags place t < numbered groups tags place u
  number-before t u m lt =
      omega (arith, number-ends t m, start-before groups (suc (group_of groups t)) (group_of groups u) tags lt)

  -- "each of its tags has" a number below N,
  pub number-below : (t : ℕ) → occurs t tags ≡ true → numbered groups tags place t < length tags
  number-below t m =
      omega (
        arith,
        number-ends t m,
        start-all groups tags p.some-group,
        start-before groups (suc (group_of groups t)) groups tags (group-below groups t p.some-group),
      )

  -- no two tags have one number,
  pub number-apart : (t u : ℕ) → occurs t tags ≡ true → occurs u tags ≡ true
      → numbered groups tags place t ≡ numbered groups tags place u → t ≡ u
  number-apart t u m n e = go (ltb (group_of groups t) (group_of groups u)) (ltb (group_of groups u) (group_of groups t)) refl refl
    where
      go : (a b : Bool) → ltb (group_of groups t) (group_of groups u) ≡ a → ltb (group_of groups u) (group_of groups t) ≡ b → t ≡ u
      go true b f g = absurd (omega (arith, number-before t u m (ltb-true (group_of groups t) (group_of groups u) f)))
      go false true f g = absurd (omega (arith, number-before u t n (ltb-true (group_of groups u) (group_of groups t) g)))
      go false false f g =
          let same : group_of groups t ≡ group_of groups u =
          omega (arith, ltb-false (group_of groups t) (group_of groups u) f, ltb-false (group_of groups u) (group_of groups t) g) in
          p.apart t u m n same (omega (arith, ap (λ (g : ℕ). start_of groups g tags) same))

  -- and "each number below N belongs to" one of them.
  pub number-onto : (j : ℕ) → j < length tags → ImageOf (numbered groups tags place) tags j
  number-onto = image-onto (numbered groups tags place) tags p.differ number-apart number-below

-- Maps of a list that agree on its elements agree.
map-agree : {A : Type 0} (f h : ℕ → A) (xs : List ℕ) → ((x : ℕ) → occurs x xs ≡ true → f x ≡ h x) → map f xs ≡ map h xs
map-agree f h [] agree = refl
map-agree f h (x ∷ xs) agree = rw (agree x (occurs-here x xs), map-agree f h xs (λ y m. agree y (occurs-there y x xs m)))

-- The chosen places of a group, tag by tag.
chosen-tags : (both : ℕ → Key) (tags : List ℕ) (choices : List Bool) → distinct tags ≡ true → length choices ≡ length tags
    → chosen (map both tags) choices ≡ map (λ t. place_by (choice_of tags choices t) (both t)) tags
unfolding chosen choice_of
chosen-tags both [] choices d l = refl
chosen-tags both (u ∷ us) [] d l = absurd (omega arith)
chosen-tags both (u ∷ us) (c ∷ cs) d l =
    rw (eq-eqb u u refl, chosen-tags both us cs (distinct_tail u us d) (omega arith))
    (ap (λ (xs : List ℕ). place_by c (both u) ∷ xs)
    (map-agree (λ t. place_by (choice_of us cs t) (both t)) (λ t. place_by (choice_of (u ∷ us) (c ∷ cs) t) (both t)) us rest))
  where
    rest : (t : ℕ) → occurs t us ≡ true → place_by (choice_of us cs t) (both t) ≡ place_by (choice_of (u ∷ us) (c ∷ cs) t) (both t)
    rest t m =
        let other : t ≡ u → ⊥ = λ e. occurs-not u us (rw e at m) (distinct_head u us d) in
        rw (ne_eqb t u other)

-- Under a sequence that fills, no two tags of the group have one place.
pub place-apart : (tags : List ℕ) (seed : ℕ) (choices : List Bool) → distinct tags ≡ true → Fills (group_under tags seed) choices
    → (t u : ℕ) → occurs t tags ≡ true → occurs u tags ≡ true → place_in tags seed choices t ≡ place_in tags seed choices u → t ≡ u
unfolding place_in candidates
place-apart tags seed choices d f =
    distinct-map (place_in tags seed choices) tags
    (rw (chosen-tags (both_places (length tags) seed) tags choices d (fills-length (length tags) seed tags f)) at f.apart)

-- A place is below the size of its group.
pub place_inside : (tags : List ℕ) (seed : ℕ) (choices : List Bool) (t : ℕ) → 0 < length tags → place_in tags seed choices t < length tags
unfolding place_in both_places place_by
place_inside tags seed choices t many = go (choice_of tags choices t)
  where
    go : (c : Bool) → place_by c (both_places (length tags) seed t) < length tags
    go false = place-below (length tags) seed 0 t many
    go true = place-below (length tags) seed 1 t many

-- A list with a tag in it is not empty.
pub some-listed : (xs : List ℕ) (x : ℕ) → occurs x xs ≡ true → 0 < length xs
unfolding occurs
some-listed [] x m = absurd (true≢false (sym m))
some-listed (y ∷ ys) x m = omega arith

-- A seed and a sequence for each group, of which every sequence fills its group under its seed.
pub record AllFill (groups : ℕ) (tags : List ℕ) (seed : ℕ → ℕ) (choices : ℕ → List Bool) : Type 0 where
  pub some-group : 0 < groups
  pub differ : distinct tags ≡ true
  pub fills : (g : ℕ) → g < groups → Fills (group_under (members groups g tags) (seed g)) (choices g)

-- The place of a tag in its own group.
abbrev pub own_place : ℕ → List ℕ → (ℕ → ℕ) → (ℕ → List Bool) → ℕ → ℕ
own_place groups tags seed choices t =
    place_in (members groups (group_of groups t) tags) (seed (group_of groups t)) (choices (group_of groups t)) t

-- Then the numbering theorem applies.
pub all_placed : {groups : ℕ} {tags : List ℕ} {seed : ℕ → ℕ} {choices : ℕ → List Bool}
    → AllFill groups tags seed choices → Placed groups tags (own_place groups tags seed choices)
all_placed {groups} {tags} {seed} {choices} a = record {
  some-group = a.some-group;
  differ = a.differ;
  inside = λ t m.
      let g = group_of groups t in
      let own = members groups g tags in
      place_inside own (seed g) (choices g) t (some-listed own t (members-own groups tags t m));
  apart = λ t u m n same e.
      let g = group_of groups t in
      let own = members groups g tags in
      place-apart own (seed g) (choices g) (members-distinct groups g tags a.differ)
      (a.fills g (group-below groups t a.some-group)) t u
      (members-own groups tags t m)
      (rw same (members-own groups tags u n))
      (e ∙ rw same);
}

-- What holds of a tag holds of an equal one.
listed_at : (number : ℕ → ℕ) (tags : List ℕ) (j : ℕ) {t u : ℕ} → t ≡ u → (occurs u tags ≡ true) × (number u ≡ j)
    → (occurs t tags ≡ true) × (number t ≡ j)
listed_at number tags j same h = rw same h

-- The tag whose number is j is a listed tag that has it, where there is one.
pub tag_numbered-is : (number : ℕ → ℕ) (tags : List ℕ) (j : ℕ) → ImageOf number tags j
    → (occurs (tag_numbered number tags j) tags ≡ true) × (number (tag_numbered number tags j) ≡ j)
unfolding tag_numbered occurs
tag_numbered-is number [] j r = (r.listed, cc r.listed)
tag_numbered-is number (t ∷ ts) j r =
    go (eqb (number t) j) refl (occurs-cases r.from t ts r.listed)
    (λ m. tag_numbered-is number ts j record { from = r.from; listed = m; value = r.value })
  where
    go : (b : Bool) → eqb (number t) j ≡ b → (r.from ≡ t) ⊎ (occurs r.from ts ≡ true)
        → (occurs r.from ts ≡ true → (occurs (tag_numbered number ts j) ts ≡ true) × (number (tag_numbered number ts j) ≡ j))
        → (occurs (tag_numbered number (t ∷ ts) j) (t ∷ ts) ≡ true) × (number (tag_numbered number (t ∷ ts) j) ≡ j)
    go true e o rest = listed_at number (t ∷ ts) j (rw e) (occurs-here t ts, eqb-true (number t) j e)
    go false e (inl same) rest = absurd (eqb-false (number t) j e (ap number (sym same) ∙ r.value))
    go false e (inr m) rest = listed_at number (t ∷ ts) j (rw e) (occurs-there (tag_numbered number ts j) t ts (rest m).0, (rest m).1)
