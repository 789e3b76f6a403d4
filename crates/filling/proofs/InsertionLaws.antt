-- Weighted insertion, for any weights: a key is inserted into the lightest sequence of the keys before it with each of its choices,
-- and the lighter result is the lightest sequence with it. k evictions suffice for the key with index k. Assumes nothing.
use Prim.Native.Nat.{ℕ, zero, suc, ◌+◌, ◌-◌, ◌≤◌, ◌<◌}
use Rattle.std.specs.Prelude.{◌≡◌, Bool, true, false, not, cond, eqb}
use Rattle.std.proofs.Math.Path.{refl, ap}
use Rattle.std.proofs.Common.{sym, ◌∙◌, inl, inr, arith, eq-eqb, ne_eqb}
use Rattle.std.proofs.Math.Bool.{xor, Bool-discrete}
use Rattle.std.proofs.Math.Decide.{ℕ_discrete}
use Rattle.filling.specs.Separate.{Separate}
use Rattle.filling.proofs.FillingLaws.{separate-same}
use Rattle.filling.specs.Weight.{choice_weight, total}
use Rattle.filling.proofs.WeightLaws.{total-same, count_most, total-change}
use Rattle.filling.specs.Insertion.{distance, Toggled, Moved, SeparateBut, Lightest, LightestWith, NoneWith, Occupies, Unoccupied}
use Rattle.filling.specs.Insertion.{Agreement, Insertion, Taken, Walk}

-- A choice that is not another is that other, toggled.
other-choice : (a b : Bool) → (a ≡ b → ⊥) → not a ≡ b
other-choice false false n = absurd (n refl)
other-choice false true n = refl
other-choice true false n = refl
other-choice true true n = absurd (n refl)

-- A toggled choice is not what it was.
toggled-differs : (a : Bool) → not a ≡ a → ⊥
toggled-differs false e = let z : ◌≡◌ {A = ℕ} 0 1 = cc in omega arith
toggled-differs true e = let z : ◌≡◌ {A = ℕ} 0 1 = cc in omega arith

-- Equal choices have distance 0, others 1.
xor_same : (a b : Bool) → a ≡ b → xor a b ≡ false
unfolding xor
xor_same false false e = refl
xor_same false true e = sym e
xor_same true false e = e
xor_same true true e = refl

xor-other : (a b : Bool) → (a ≡ b → ⊥) → xor a b ≡ true
unfolding xor
xor-other false false n = absurd (n refl)
xor-other false true n = refl
xor-other true false n = refl
xor-other true true n = absurd (n refl)

-- A new key with its choice in common is at most at distance k.
distance-start : (c d : ℕ → Bool) (k : ℕ) → c k ≡ d k → distance c d (suc k) ≤ k
unfolding distance total choice_weight
distance-start c d k e = rw (xor_same (c k) (d k) e) (omega (arith, count_most (λ i. xor (c i) (d i)) k))

-- A choice that is brought into agreement brings the sequences closer by 1.
distance-closer : (c c' d : ℕ → Bool) (o n : ℕ) → o < n → (c o ≡ d o → ⊥) → c' o ≡ d o
    → ((i : ℕ) → (i ≡ o → ⊥) → c' i ≡ c i) → distance c d n ≡ distance c' d n + 1
unfolding distance choice_weight
distance-closer c c' d o n lt differs agrees others =
    let change =
    total-change (λ _. 1) (λ i. xor (c i) (d i)) (λ i. xor (c' i) (d i)) o n lt
    (λ i m. ap (λ (b : Bool). xor b (d i)) (sym (others i m))) in
    omega (arith, rw (xor-other (c o) (d o) differs, xor_same (c' o) (d o) agrees) at change)

-- The exchange: f's choice where the insertion left the choice as it was before, and that from before where it did not.
exchanged : Bool → Bool → Bool → Bool
exchanged c before f = cond (xor c before) before f

exchanged_same : (c before f : Bool) → c ≡ before → exchanged c before f ≡ f
unfolding exchanged
exchanged_same c before f e = rw (xor_same c before e)

exchanged-other : (c before f : Bool) → (c ≡ before → ⊥) → exchanged c before f ≡ before
unfolding exchanged
exchanged-other c before f n = rw (xor-other c before n)

-- Where the choices that changed are f's, nothing is gained or lost by it.
exchanged-weight : (c before f : Bool) (x : ℕ) → ((c ≡ before → ⊥) → c ≡ f)
    → choice_weight c x + choice_weight (exchanged c before f) x ≡ choice_weight before x + choice_weight f x
exchanged-weight c before f x agrees = go (Bool-discrete c before)
  where
    go : Dec (c ≡ before) → choice_weight c x + choice_weight (exchanged c before f) x ≡ choice_weight before x + choice_weight f x
    go (yes e) = rw (exchanged_same c before f e, e)
    go (no m) = rw (exchanged-other c before f m, agrees m) (omega arith)

-- c with the choice of key o toggled.
pub toggle : (ℕ → Bool) → ℕ → ℕ → Bool
toggle c o i = cond (eqb i o) (not (c i)) (c i)

pub toggle-toggled : (c : ℕ → Bool) (o : ℕ) → Toggled c (toggle c o) o
unfolding toggle
toggle-toggled c o = record { here = rw (eq-eqb o o refl); others = λ i n. rw (ne_eqb i o n) }

module _ (place : ℕ → Bool → ℕ) where
  -- Before the insertion: the keys below k are separate, and only key k is yet to be placed.
  start-separate : (k : ℕ) (c : ℕ → Bool) → Separate place k c → SeparateBut place k c k
  start-separate k c separate i j li lj ni nj e = separate i j (omega (arith, ni)) (omega (arith, nj)) e

  module _ {k : ℕ} {c : ℕ → Bool} {displaced : ℕ} (apart : SeparateBut place k c displaced) where
    -- An eviction: the occupant of the displaced key's place is toggled, and is the displaced key now.
    turn-separate : (d : ℕ → Bool) (o : ℕ) → Occupies place c k displaced o → Toggled c d o → SeparateBut place k d o
    turn-separate d o occupies toggled i j li lj ni nj e = go (ℕ_discrete i displaced) (ℕ_discrete j displaced)
      where
        was : place i (c i) ≡ place j (c j)
        was = sym (ap (place i) (toggled.others i ni)) ∙ e ∙ ap (place j) (toggled.others j nj)

        first : (l : ℕ) → l ≤ k → (l ≡ displaced → ⊥) → place displaced (c displaced) ≡ place l (c l) → o ≡ l
        first l ll nl e = apart o l occupies.within ll occupies.other nl (occupies.same ∙ e)

        go : Dec (i ≡ displaced) → Dec (j ≡ displaced) → i ≡ j
        go (yes p) (yes q) = p ∙ sym q
        go (yes p) (no q) = absurd (nj (sym (first j lj q (rw (← p) was))))
        go (no p) (yes q) = absurd (ni (sym (first i li p (rw (← q) (sym was)))))
        go (no p) (no q) = apart i j li lj p q was

    -- An insertion that ends at a free place leaves all keys separate.
    done-separate : Unoccupied place c k displaced → Separate place (suc k) c
    done-separate free i j li lj e = go (ℕ_discrete i displaced) (ℕ_discrete j displaced)
      where
        go : Dec (i ≡ displaced) → Dec (j ≡ displaced) → i ≡ j
        go (yes p) (yes q) = p ∙ sym q
        go (yes p) (no q) = absurd (free j (omega arith) q (rw (← p) (sym e)))
        go (no p) (yes q) = absurd (free i (omega arith) p (rw (← q) e))
        go (no p) (no q) = apart i j (omega arith) (omega arith) p q e

  -- Before the insertion nothing moved, and k evictions are enough.
  agreement-start : (f c : ℕ → Bool) (k : ℕ) → c k ≡ f k → Agreement place f c c k k k
  agreement-start f c k e = record {
    last = e;
    moved = inl refl;
    agrees = λ i lt m. absurd (m refl);
    vacated = λ i lt m. absurd (m refl);
    enough = distance-start c f k e;
  }

  module _ {f before c : ℕ → Bool} {k displaced left : ℕ} (separate : Separate place (suc k) f)
      (agreement : Agreement place f before c k displaced left) (upto : displaced ≤ k) where
    -- The displaced key is as f has it.
    displaced-agrees : c displaced ≡ f displaced
    displaced-agrees = go agreement.moved (ℕ_discrete displaced k)
      where
        go : Moved k before c displaced → Dec (displaced ≡ k) → c displaced ≡ f displaced
        go m (yes e) = rw e agreement.last
        go (inl e) (no n) = absurd (n e)
        go (inr m) (no n) = agreement.agrees displaced (omega (arith, n)) m

    module _ (o : ℕ) (occupies : Occupies place c k displaced o) where
      -- So the occupant is not as f has it,
      occupant-disagrees : c o ≡ f o → ⊥
      occupant-disagrees e =
          let same = sym (ap (place o) e) ∙ occupies.same ∙ ap (place displaced) displaced-agrees in
          occupies.other (separate o displaced (omega (arith, occupies.within)) (omega arith) same)

      -- is not the new key,
      occupant-below : o < k
      occupant-below = go (ℕ_discrete o k)
        where
          go : Dec (o ≡ k) → o < k
          go (yes e) = absurd (occupant-disagrees (rw e agreement.last))
          go (no n) = omega (arith, n, occupies.within)

      -- and did not move before.
      occupant-before : c o ≡ before o
      occupant-before = go (Bool-discrete (c o) (before o))
        where
          go : Dec (c o ≡ before o) → c o ≡ before o
          go (yes e) = e
          go (no m) = absurd (occupant-disagrees (agreement.agrees o occupant-below m))

      module _ (d : ℕ → Bool) (toggled : Toggled c d o) where
        -- Toggled, it is as f has it, and has moved.
        occupant-agrees : d o ≡ f o
        occupant-agrees = toggled.here ∙ other-choice (c o) (f o) occupant-disagrees

        occupant-moves : d o ≡ before o → ⊥
        occupant-moves e = toggled-differs (c o) (sym toggled.here ∙ e ∙ sym occupant-before)

        -- What moved before is still moved.
        moved_more : (g : ℕ) → Moved k before c g → Moved k before d g
        moved_more g (inl e) = inl e
        moved_more g (inr m) = go (ℕ_discrete g o)
          where
            go : Dec (g ≡ o) → Moved k before d g
            go (yes e) = inr (rw e occupant-moves)
            go (no n) = inr (λ z. m (sym (toggled.others g n) ∙ z))

        closer : distance c f (suc k) ≡ distance d f (suc k) + 1
        closer =
            distance-closer c d f o (suc k) (omega (arith, occupies.within)) occupant-disagrees occupant-agrees
            toggled.others

        -- An eviction was left to be made,
        eviction-left : 0 < left
        eviction-left = omega (arith, agreement.enough, closer)

        -- and after it one fewer is.
        agreement-turn : Agreement place f before d k o (left - 1)
        agreement-turn = record {
          last = toggled.others k (λ e. omega (arith, occupant-below)) ∙ agreement.last;
          moved = inr occupant-moves;
          agrees = λ i lt m. agrees' i lt m (ℕ_discrete i o);
          vacated = λ i lt m. vacated' i lt m (ℕ_discrete i o);
          enough = omega (arith, agreement.enough, closer);
        }
          where
            earlier : (i : ℕ) → (i ≡ o → ⊥) → (d i ≡ before i → ⊥) → c i ≡ before i → ⊥
            earlier i n m e = m (toggled.others i n ∙ e)

            agrees' : (i : ℕ) → i < k → (d i ≡ before i → ⊥) → Dec (i ≡ o) → d i ≡ f i
            agrees' i lt m (yes e) = rw e occupant-agrees
            agrees' i lt m (no n) = toggled.others i n ∙ agreement.agrees i lt (earlier i n m)

            vacated' : (i : ℕ) → i < k → (d i ≡ before i → ⊥) → Dec (i ≡ o)
                → (g : ℕ) × (g ≤ k) × Moved k before d g × (place g (f g) ≡ place i (before i))
            vacated' i lt m (yes e) =
                let same = sym (ap (place displaced) displaced-agrees) ∙ sym occupies.same ∙ ap (place o) occupant-before in
                (displaced, upto, moved_more displaced agreement.moved, rw e same)
            vacated' i lt m (no n) =
                let (g, lg, moved, same) = agreement.vacated i lt (earlier i n m) in
                (g, lg, moved_more g moved, same)

    -- The sequence made of what the insertion did not take from `before` and f.
    rest : ℕ → Bool
    rest i = exchanged (c i) (before i) (f i)

    -- It separates the keys below k,
    rest-separate : Separate place k before → Separate place k rest
    unfolding rest
    rest-separate old i j li lj e = go (Bool-discrete (c i) (before i)) (Bool-discrete (c j) (before j))
      where
        stays : (i : ℕ) → c i ≡ before i → place i (exchanged (c i) (before i) (f i)) ≡ place i (f i)
        stays i e = ap (place i) (exchanged_same (c i) (before i) (f i) e)

        moves : (i : ℕ) → (c i ≡ before i → ⊥) → place i (exchanged (c i) (before i) (f i)) ≡ place i (before i)
        moves i m = ap (place i) (exchanged-other (c i) (before i) (f i) m)

        never : (i j : ℕ) → i < k → j < k → c i ≡ before i → (c j ≡ before j → ⊥) → place i (f i) ≡ place j (before j) → ⊥
        never i j li lj e m same =
            let (g, lg, moved, left) = agreement.vacated j lj m in
            clash g (separate i g (omega arith) (omega arith) (same ∙ sym left)) moved
          where
            clash : (g : ℕ) → i ≡ g → Moved k before c g → ⊥
            clash g p (inl q) = omega arith
            clash g p (inr q) = q (rw (← p) e)

        go : Dec (c i ≡ before i) → Dec (c j ≡ before j) → i ≡ j
        go (yes p) (yes q) = separate i j (omega arith) (omega arith) (sym (stays i p) ∙ e ∙ stays j q)
        go (yes p) (no q) = absurd (never i j li lj p q (sym (stays i p) ∙ e ∙ moves j q))
        go (no p) (yes q) = absurd (never j i lj li q p (sym (stays j q) ∙ sym e ∙ moves i p))
        go (no p) (no q) = old i j li lj (sym (moves i p) ∙ e ∙ moves j q)

    -- and weighs, together with the insertion's result, what `before` and f weigh together.
    rest-total : (weight : ℕ → ℕ) (n : ℕ) → n ≤ k
        → total weight c n + total weight rest n ≡ total weight before n + total weight f n
    unfolding total rest
    rest-total weight zero le = refl
    rest-total weight (suc n) le =
        let this = exchanged-weight (c n) (before n) (f n) (weight n) (agreement.agrees n (omega arith)) in
        omega (arith, rest-total weight n (omega arith))

    -- So the insertion's result is not heavier than f, where the sequence before it was the lightest.
    agreement-lightest : (weight : ℕ → ℕ) → Lightest place weight k before → total weight c (suc k) ≤ total weight f (suc k)
    unfolding total
    agreement-lightest weight old =
        rw agreement.last
        (omega (arith, rest-total weight k (omega arith), old.lightest rest (rest-separate old.separate)))

  -- An insertion begins where the keys before k are separate, with k evictions left.
  pub insertion-start : (k : ℕ) (c : ℕ → Bool) → Separate place k c → Insertion place k c c k k
  insertion-start k c separate = record {
    upto = omega arith;
    apart = start-separate k c separate;
    agreement = λ f all e. agreement-start f c k (sym e);
  }

  module _ {k : ℕ} {before c : ℕ → Bool} {displaced left : ℕ} (insertion : Insertion place k before c displaced left) where
    -- It goes on by an eviction: the occupant's choice is toggled, and the occupant is displaced.
    pub insertion-turn : (d : ℕ → Bool) (o : ℕ) → Occupies place c k displaced o → Toggled c d o
        → Insertion place k before d o (left - 1)
    insertion-turn d o occupies toggled = record {
      upto = occupies.within;
      apart = turn-separate insertion.apart d o occupies toggled;
      agreement = λ f all e. agreement-turn all (insertion.agreement f all e) insertion.upto o occupies d toggled;
    }

    -- It ends at a free place with the lightest sequence that has the new key's choice, if it began with the lightest.
    pub insertion-done : (weight : ℕ → ℕ) → Lightest place weight k before → Unoccupied place c k displaced
        → LightestWith place weight k (before k) c
    insertion-done weight old free = record {
      separate = done-separate insertion.apart free;
      lightest = λ f all e. agreement-lightest all (insertion.agreement f all e) insertion.upto weight old;
    }

    -- Where it has no eviction left and the place is not free, no sequence with the new key's choice separates the keys.
    pub insertion-stuck : (o : ℕ) → Occupies place c k displaced o → left ≡ 0 → NoneWith place k (before k)
    insertion-stuck o occupies out f all e =
        let agreement = insertion.agreement f all e in
        let still = eviction-left all agreement insertion.upto o occupies (toggle c o) (toggle-toggled c o) in
        omega arith

    -- Nor does one where the occupant is a key that moved.
    pub insertion-returned : (g : ℕ) → Occupies place c k displaced g → Moved k before c g → NoneWith place k (before k)
    insertion-returned g occupies moved f all e = go moved
      where
        agreement : Agreement place f before c k displaced left
        agreement = insertion.agreement f all e

        go : Moved k before c g → ⊥
        go (inl same) = omega (arith, occupant-below all agreement insertion.upto g occupies)
        go (inr m) = m (occupant-before all agreement insertion.upto g occupies)

  -- Before the insertion nothing moved.
  pub walk_start : (k : ℕ) (c : ℕ → Bool) → Walk place k c c k
  walk_start k c = record {
    upto = omega arith;
    moved = inl refl;
    settled = λ i le m n. absurd (unmoved i m n);
    refilled = λ i lt m. absurd (m refl);
  }
    where
      unmoved : (i : ℕ) → Moved k c c i → (i ≡ k → ⊥) → ⊥
      unmoved i (inl e) n = n e
      unmoved i (inr m) n = m refl

  module _ {k : ℕ} {before c : ℕ → Bool} {displaced : ℕ} (walk : Walk place k before c displaced) where
    -- A place that was free is free.
    pub walk-free : (Taken place k before (place displaced (c displaced)) → ⊥) → Unoccupied place c k displaced
    walk-free free o le other same = go (ℕ_discrete o k) (Bool-discrete (c o) (before o))
      where
        settled : Moved k before c o → ⊥
        settled m = let (i, li, e) = walk.settled o le m other in free (i, li, e ∙ same)

        go : Dec (o ≡ k) → Dec (c o ≡ before o) → ⊥
        go (yes e) d = settled (inl e)
        go (no n) (no m) = settled (inr m)
        go (no n) (yes e) = free (o, omega (arith, n), sym (ap (place o) e) ∙ same)

    module _ (o : ℕ) (below : o < k) (had : place o (before o) ≡ place displaced (c displaced)) where
      -- The key that had the place has it still, if it did not move;
      pub walk-occupied : c o ≡ before o → Occupies place c k displaced o
      walk-occupied e = record { within = omega arith; other = other walk.moved; same = ap (place o) e ∙ had }
        where
          other : Moved k before c displaced → o ≡ displaced → ⊥
          other (inl p) q = omega arith
          other (inr m) q = m (rw (← q) e)

      -- if it did, another key that moved has it.
      pub walk-returned : (c o ≡ before o → ⊥) → (g : ℕ) × Occupies place c k displaced g × Moved k before c g
      walk-returned m =
          let (g, lg, moved, other, same) = walk.refilled o below m in
          (g, record { within = lg; other = other; same = same ∙ had }, moved)

      -- An eviction of a key that did not move.
      pub walk_turn : (d : ℕ → Bool) → c o ≡ before o → Toggled c d o → Walk place k before d o
      walk_turn d e toggled = record {
        upto = omega arith;
        moved = inr moves;
        settled = λ i le m n. settled' i le (earlier i n m) n (ℕ_discrete i displaced);
        refilled = λ i lt m. refilled' i lt m (ℕ_discrete i o);
      }
        where
          occupies : Occupies place c k displaced o
          occupies = walk-occupied e

          moves : d o ≡ before o → ⊥
          moves z = toggled-differs (c o) (sym toggled.here ∙ z ∙ sym e)

          earlier : (i : ℕ) → (i ≡ o → ⊥) → Moved k before d i → Moved k before c i
          earlier i n (inl z) = inl z
          earlier i n (inr m) = inr (λ z. m (toggled.others i n ∙ z))

          later : (i : ℕ) → (i ≡ o → ⊥) → Moved k before c i → Moved k before d i
          later i n (inl z) = inl z
          later i n (inr m) = inr (λ z. m (sym (toggled.others i n) ∙ z))

          still : (i : ℕ) → (i ≡ o → ⊥) → place i (d i) ≡ place i (c i)
          still i n = ap (place i) (toggled.others i n)

          settled' : (i : ℕ) → i ≤ k → Moved k before c i → (i ≡ o → ⊥) → Dec (i ≡ displaced)
              → Taken place k before (place i (d i))
          settled' i le m n (yes z) = (o, below, rw (still i n, z) had)
          settled' i le m n (no z) = rw (still i n) (walk.settled i le m z)

          apart : (g : ℕ) → Moved k before c g → g ≡ o → ⊥
          apart g (inl z) q = omega arith
          apart g (inr m) q = m (rw q e)

          displaced-apart : displaced ≡ o → ⊥
          displaced-apart z = occupies.other (sym z)

          refilled' : (i : ℕ) → i < k → (d i ≡ before i → ⊥) → Dec (i ≡ o)
              → (g : ℕ) × (g ≤ k) × Moved k before d g × (g ≡ o → ⊥) × (place g (d g) ≡ place i (before i))
          refilled' i lt m (yes z) =
              let free = displaced-apart in
              let same : place displaced (d displaced) ≡ place i (before i) = still displaced free ∙ rw z (sym had) in
              (displaced, walk.upto, later displaced free walk.moved, free, same)
          refilled' i lt m (no n) =
              let (g, lg, moved, other, same) = walk.refilled i lt (λ z. m (toggled.others i n ∙ z)) in
              let free = apart g moved in
              (g, lg, later g free moved, free, still g free ∙ same)

  module _ (weight : ℕ → ℕ) where
    -- The lightest with one choice of the new key is the lightest, where none with the other choice is lighter.
    one-lightest : (k : ℕ) (choice : Bool) (c : ℕ → Bool) → LightestWith place weight k choice c
        → ((f : ℕ → Bool) → Separate place (suc k) f → f k ≡ not choice → total weight c (suc k) ≤ total weight f (suc k))
        → Lightest place weight (suc k) c
    one-lightest k choice c one others = record {
      separate = one.separate;
      lightest = λ f all. go f all (Bool-discrete choice (f k));
    }
      where
        go : (f : ℕ → Bool) → Separate place (suc k) f → Dec (choice ≡ f k) → total weight c (suc k) ≤ total weight f (suc k)
        go f all (yes e) = one.lightest f all (sym e)
        go f all (no n) = others f all (sym (other-choice choice (f k) n))

    -- Of the results of the two insertions, the lighter is the lightest sequence with the new key.
    pub lighter-lightest : (k : ℕ) (choice : Bool) (c d : ℕ → Bool) → LightestWith place weight k choice c
        → LightestWith place weight k (not choice) d → total weight c (suc k) ≤ total weight d (suc k)
        → Lightest place weight (suc k) c
    lighter-lightest k choice c d one other le = one-lightest k choice c one (λ f all e. omega (arith, other.lightest f all e))

    -- Where only one insertion has a result, it is the lightest sequence with the new key.
    pub only-lightest : (k : ℕ) (choice : Bool) (c : ℕ → Bool) → LightestWith place weight k choice c
        → NoneWith place k (not choice) → Lightest place weight (suc k) c
    only-lightest k choice c one none_other = one-lightest k choice c one (λ f all e. absurd (none_other f all e))

  -- Where neither has one, nothing separates the keys.
  pub neither-separate : (k : ℕ) → NoneWith place k false → NoneWith place k true
      → (f : ℕ → Bool) → Separate place (suc k) f → ⊥
  neither-separate k None-first none-second f all = go (f k) refl
    where
      go : (b : Bool) → f k ≡ b → ⊥
      go false e = None-first f all e
      go true e = none-second f all e

-- Only the places and choices of the first n keys count.
pub lightest-same : (place place' : ℕ → Bool → ℕ) (weight : ℕ → ℕ) (n : ℕ) (c d : ℕ → Bool)
    → ((i : ℕ) → i < n → (b : Bool) → place i b ≡ place' i b) → ((i : ℕ) → i < n → c i ≡ d i)
    → Lightest place weight n c → Lightest place' weight n d
lightest-same place place' weight n c d places choices old = record {
  separate = separate-same (λ i lt. ap (place i) (choices i lt) ∙ places i lt (d i)) old.separate;
  lightest = λ f all.
      let le = old.lightest f (separate-same (λ i lt. sym (places i lt (f i))) all) in
      omega (arith, le, total-same weight weight c d n (λ i lt. refl) choices);
}
