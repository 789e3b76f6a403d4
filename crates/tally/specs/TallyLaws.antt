-- What is counted by the labels in an array is counted by the parts of the graph. Assumes nothing.
use Rattle.std.specs.Prelude.{ℕ, ◌+◌, ◌≤◌, ◌<◌, ◌≡◌, ◌≢◌, Bool, ◌&&◌, not, List, eqb, set, replicate, Option, None, Some}
use Rattle.std.proofs.Math.Path.{refl, sym, ap}
use Rattle.std.proofs.Common.{◌∙◌, arith, get_or-set_same}
use Rattle.std.proofs.Math.Bool.{true, false, and_self, and-false}
use Rattle.std.proofs.Math.Decide.{ℕ_discrete}
use Rattle.std.proofs.Math.ListN.{length, get_or, length-set, length-replicate, get_or-replicate}
use Rattle.std.proofs.Math.Seq.{get_or-set_other, ext_get_or}
use borrow.Author.Tests.{eq-eqb, ne_eqb, ltb-true, ltb-false, lt-ltb, le-ltb}
use Rattle.refusal.specs.Limits.{group_max}
use Rattle.lists.specs.UpTo.{up_to}
use Rattle.lists.proofs.UpToLaws.{up_to-length, up_to-at, up_to-agree}
use Rattle.lists.specs.First.{first, is_some}
use Rattle.lists.proofs.FirstLaws.{first_some, first-none, first_out, is_some-of-some, is_some-of-none}
use Rattle.filling.specs.Filling.{Key, place_by}
use Rattle.filling.specs.Separate.{key_place}
use Rattle.graph.specs.HowMany.{how_many}
use Rattle.graph.proofs.HowManyLaws.{points-same, points_none, points-some}
use Rattle.graph.proofs.HowManyLaws.{how_many-at, how_many-map, how_many-empty, how_many-most, how_many-passes, how_many-fails}
use Rattle.graph.specs.Parts.{points, part_points, part_edges, more_edges, lowest, parts_of}
use Rattle.graph.specs.Label.{label}
use Rattle.graph.proofs.ConnectedLaws.{key-label}
use Rattle.graph.proofs.MergeLaws.{points_with, edges_with}
use Rattle.graph.proofs.NumberLaws.{label-again, label-below, root}
use Rattle.graph.proofs.PartLaws.{points-labelled, edges-labelled, served-labels, lowest-roots}
use Rattle.places.specs.Array.{keys_of}
use Rattle.labels.specs.LabelsLaws.{labels_at}
use Rattle.tally.specs.Tally.{labelled, both_labelled, by_label, LabelsBelow, positive, more, Graphed}

-- Two labels are one exactly for the label that both are.
pub both-same : (x y : ℕ) → y ≡ x → (eqb x x && eqb y x) ≡ true
both-same x y same = rw (eq-eqb x x refl, eq-eqb y x same)

pub both-other : (x y r : ℕ) → r ≢ x → (eqb x r && eqb y r) ≡ false
both-other x y r other = rw (ne_eqb x r (λ e. other (sym e)))

pub both-never : (x y r : ℕ) → y ≢ x → (eqb x r && eqb y r) ≡ false
both-never x y r different = go (ℕ_discrete r x)
  where
    go : Dec (r ≡ x) → (eqb x r && eqb y r) ≡ false
    go (yes same) = rw (ne_eqb y r (λ e. different (e ∙ same))) (and-false (eqb x r))
    go (no other) = both-other x y r other

-- A loop over the indices below n has come to i, and has counted those before it that pass.
pub record Tallied {A : Type 0} (test : A → Bool) (f : ℕ → A) (n count i : ℕ) : Type 0 where
  pub upto : i ≤ n
  pub counted : count ≡ how_many test (up_to i f)

module _ {A : Type 0} (test : A → Bool) (f : ℕ → A) (n : ℕ) where
  pub tallied-start : Tallied test f n 0 0
  tallied-start = record { upto = omega arith; counted = sym (how_many-empty test f) }

  module _ {count i : ℕ} (t : Tallied test f n count i) where
    pub tallied-most : count ≤ i
    tallied-most = omega (arith, t.counted, how_many-most test f i)

    pub tallied-passes : i < n → test (f i) ≡ true → Tallied test f n (count + 1) (i + 1)
    tallied-passes lt e = record { upto = omega arith; counted = omega (arith, t.counted, how_many-passes test f i e) }

    pub tallied-fails : i < n → test (f i) ≡ false → Tallied test f n count (i + 1)
    tallied-fails lt e = record { upto = omega arith; counted = omega (arith, t.counted, how_many-fails test f i e) }

    pub tallied-done : n ≤ i → count ≡ how_many test (up_to n f)
    tallied-done ge = let all : i ≡ n = omega (arith, t.upto) in rw all at t.counted

-- Such a loop that counts for each label.
pub record Counted {A : Type 0} (test : ℕ → A → Bool) (f : ℕ → A) (n : ℕ) (counts : List ℕ) (i : ℕ) : Type 0 where
  pub upto : i ≤ n
  pub counted : counts ≡ by_label test (up_to i f)

module _ {A : Type 0} (test : ℕ → A → Bool) (f : ℕ → A) (n : ℕ) where
  -- At first none,
  pub counted_start : (counts : List ℕ) → counts ≡ replicate group_max 0 → Counted test f n counts 0
  unfolding by_label
  counted_start counts zeros = record {
    upto = omega arith;
    counted =
        zeros ∙ ext_get_or 0 (replicate group_max 0) _ (length-replicate {A = ℕ} group_max 0 ∙ sym (up_to-length group_max _)) (λ r lt.
        let below : r < group_max = omega (arith, length-replicate {A = ℕ} group_max 0) in
        get_or-replicate group_max r 0 0 below ∙ sym (up_to-at group_max _ 0 r below ∙ how_many-empty (test r) f));
  }

  module _ {counts : List ℕ} {i : ℕ} (c : Counted test f n counts i) where
    pub counted-length : length counts ≡ group_max
    unfolding by_label
    counted-length = ap length c.counted ∙ up_to-length group_max _

    counted-at : (r : ℕ) → r < group_max → get_or counts r 0 ≡ how_many (test r) (up_to i f)
    unfolding by_label
    counted-at r lt = ap (λ l. get_or l r 0) c.counted ∙ up_to-at group_max _ 0 r lt

    pub counted-most : (r : ℕ) → r < group_max → get_or counts r 0 ≤ i
    counted-most r lt = omega (arith, counted-at r lt, how_many-most (test r) f i)

    -- then one more for the one label that it passes for,
    pub counted-one : (label : ℕ) → i < n → label < group_max → test label (f i) ≡ true → ((r : ℕ) → r ≢ label → test r (f i) ≡ false)
        → Counted test f n (set counts label (get_or counts label 0 + 1)) (i + 1)
    unfolding by_label
    counted-one label inside below passes others = record {
      upto = omega arith;
      counted = ext_get_or 0 _ _ (length-set counts label _ ∙ counted-length ∙ sym (up_to-length group_max _)) (λ r lt.
          let within : r < group_max = omega (arith, length-set counts label (get_or counts label 0 + 1), counted-length) in
          go r within (ℕ_discrete r label) ∙ sym (up_to-at group_max _ 0 r within));
    }
      where
        go : (r : ℕ) → r < group_max → Dec (r ≡ label)
            → get_or (set counts label (get_or counts label 0 + 1)) r 0 ≡ how_many (test r) (up_to (i + 1) f)
        go r lt (yes same) =
            rw same
            (get_or-set_same counts label _ 0 (omega (arith, counted-length))
            ∙ omega (arith, counted-at label below, how_many-passes (test label) f i passes))
        go r lt (no other) =
            get_or-set_other counts label r _ 0 other ∙ omega (arith, counted-at r lt, how_many-fails (test r) f i (others r other))

    -- or for none.
    pub counted_none : i < n → ((r : ℕ) → test r (f i) ≡ false) → Counted test f n counts (i + 1)
    unfolding by_label
    counted_none inside fails = record {
      upto = omega arith;
      counted = c.counted ∙ up_to-agree group_max _ _ (λ r lt. sym (how_many-fails (test r) f i (fails r)));
    }

    pub counted-done : n ≤ i → counts ≡ by_label test (up_to n f)
    counted-done ge = let all : i ≡ n = omega (arith, c.upto) in rw all at c.counted

module _ {places labels : List ℕ} {n : ℕ} (g : Graphed places labels n) where
  abbrev keys : List Key
  keys = keys_of n places

  label_at : (v : ℕ) → v < n → get_or labels v 0 ≡ label keys v
  label_at v lt = ap (λ l. get_or l v 0) g.labels-are ∙ labels_at group_max keys v (omega (arith, g.few))

  tally-points : (r : ℕ) → how_many (labelled labels r) (points n) ≡ points_with n keys r
  tally-points r = points-same (labelled labels r) (λ v. eqb (label keys v) r) n (λ v lt. ap (λ (z : ℕ). eqb z r) (label_at v lt))

  tally-edges : (r : ℕ) → how_many (both_labelled labels r) keys ≡ edges_with keys r
  tally-edges r =
      how_many-at (both_labelled labels r) (λ key. eqb (label keys (place_by false key)) r) (0, 0) keys (λ i lt.
      rw (
        label_at (key_place keys i false) (g.below i lt false),
        label_at (key_place keys i true) (g.below i lt true),
        ← key-label keys i lt,
      ) (and_self (eqb (label keys (key_place keys i false)) r)))
      ∙ sym (how_many-map (place_by false) (λ v. eqb (label keys v) r) keys)

  pub labels-below : LabelsBelow labels group_max
  labels-below v lt =
      let under = label-below group_max keys (λ i inside choice. omega (arith, g.below i inside choice, g.few)) v lt in
      omega (arith, ap (λ l. get_or l v 0) g.labels-are, labels_at group_max keys v lt)

  -- Counted by label, some label has more edges than points exactly where some part has.
  module _ {counted edged : List ℕ} (p : counted ≡ by_label (labelled labels) (points n))
      (e : edged ≡ by_label (both_labelled labels) keys) where
    counted-label : (r : ℕ) → r < n → (get_or counted r 0 ≡ points_with n keys r) × (get_or edged r 0 ≡ edges_with keys r)
    unfolding by_label
    counted-label r lt =
        let below : r < group_max = omega (arith, g.few) in (
          ap (λ l. get_or l r 0) p ∙ up_to-at group_max _ 0 r below ∙ tally-points r,
          ap (λ l. get_or l r 0) e ∙ up_to-at group_max _ 0 r below ∙ tally-edges r,
        )

    -- A label that some place has is the label of itself, and stands for a part: there are as many as parts.
    positive-root : (r : ℕ) → r < n → positive counted r ≡ root keys r
    positive-root r lt = go (ℕ_discrete (label keys r) r)
      where
        go : Dec (label keys r ≡ r) → positive counted r ≡ root keys r
        go (yes own) =
            let (ps, es) = counted-label r lt in
            let itself = points-some (λ v. eqb (label keys v) r) n r lt (eq-eqb (label keys r) r own) in
            lt-ltb 0 (get_or counted r 0) (omega arith) ∙ sym (eq-eqb (label keys r) r own)
        go (no other) =
            let (ps, es) = counted-label r lt in
            let absent = points_none (λ v. eqb (label keys v) r) n (λ v _. ne_eqb (label keys v) r (λ e. other
            (ap (label keys) (sym e) ∙ label-again keys v ∙ e))) in
            le-ltb 0 (get_or counted r 0) (omega arith) ∙ sym (ne_eqb (label keys r) r other)

    tally-number : how_many (positive counted) (points n) ≡ how_many (lowest keys) (points n)
    tally-number = points-same (positive counted) (root keys) n positive-root ∙ sym (lowest-roots n keys g.below)

    more-found : (v : ℕ) → v < n → get_or counted v 0 < get_or edged v 0 → is_some (first (more_edges n keys) n) ≡ true
    unfolding parts_of
    more-found v lt has = go (is_some (first (more_edges n keys) n)) refl
      where
        go : (b : Bool) → is_some (first (more_edges n keys) n) ≡ b → is_some (first (more_edges n keys) n) ≡ true
        go true t = t
        go false t =
            let (ps, es) = counted-label v lt in
            absurd (omega (arith, served-labels keys n g.below (rw t) v))

    more-none : ((v : ℕ) → v < n → get_or edged v 0 ≤ get_or counted v 0) → is_some (first (more_edges n keys) n) ≡ false
    unfolding more_edges
    more-none fine = is_some-of-none (first_out (more_edges n keys) n (λ v lt.
        let r = label keys v in
        let below = label-below n keys g.below v lt in
        let (ps, es) = counted-label r below in
        le-ltb (part_points n keys v) (part_edges keys v)
        (omega (arith, points-labelled keys n v, edges-labelled keys n v, fine r below))))

    tally-more : is_some (first (more counted edged) n) ≡ is_some (first (more_edges n keys) n)
    tally-more = go (first (more counted edged) n) refl
      where
        go : (o : Option ℕ) → first (more counted edged) n ≡ o
            → is_some (first (more counted edged) n) ≡ is_some (first (more_edges n keys) n)
        go None out =
            is_some-of-none out
            ∙ sym (more-none (λ v lt. ltb-false (get_or counted v 0) (get_or edged v 0) (first-none (more counted edged) n out v lt)))
        go (Some v) found =
            let at = first_some (more counted edged) n found in
            is_some-of-some found ∙ sym (more-found v at.below (ltb-true (get_or counted v 0) (get_or edged v 0) at.holds))

    -- So the answer is what the parts of the graph say.
    pub parts-counted : (number : ℕ) (b : Bool) → number ≡ how_many (positive counted) (points n)
        → b ≡ is_some (first (more counted edged) n) → record { serves = not b; number = number } ≡ parts_of n keys
    unfolding parts_of
    parts-counted number b n-is m-is = rw (m-is, n-is, tally-number, tally-more)
