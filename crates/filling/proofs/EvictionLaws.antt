-- Bounded cuckoo insertion decides whether anything fills: where the chain gives up nothing does, and where all keys are seated
-- their choices do. It holds for equal places, equal pairs, and a chain that passes a key twice.
--
-- The argument needs no graphs. Let m keys be in, the moving key among them, and let cs be any sequence under which these m take
-- different places. A key agrees if its place is its place under cs; for the moving key, the place where it is to go. Let a of the m
-- agree. The potential is m - a while the moving key agrees, and m + a while it does not. Every eviction lowers it:
--   the moving key agrees: the occupant does not, since cs gives them different places, so its other choice agrees, and a rises;
--   the moving key does not agree, nor the occupant: the occupant's other choice agrees, and the potential is m - (a + 1);
--   the moving key does not agree, the occupant does: either its other choice does not, and a falls, or both its places are equal,
--   and the potential is m - a, where a is not 0.
-- It is at most 2k + 1 when a key enters with k seated: as many evictions as are allowed. So a chain that has none left and needs one
-- refutes every cs. Assumes nothing.
use Prim.Native.Nat.{ℕ, zero, suc, ◌+◌, ◌-◌, ◌≤◌, ◌<◌}
use Rattle.std.specs.Prelude.{◌≡◌, refl, ◌≢◌, Bool, true, false, List, ltb, length, set, take, replicate}
use Rattle.std.proofs.Math.Path.{sym, ap}
use Rattle.std.proofs.Common.{◌∙◌, get_or-set_same, get_or-set_other, get_or-take, length-take-le}
use Rattle.std.proofs.lemmas.Bool.{false≢true}
use Rattle.std.proofs.Math.Decide.{ℕ_discrete}
use native.Mathlib.Omega.{arith}
use Rattle.std.proofs.Math.Dec.{eqb}
use Rattle.std.proofs.Math.ListN.{get_or, length-set, get_or-map, get_or-eq_default}
use Rattle.std.proofs.lemmas.List.{length-map, length-replicate, get_or-replicate}
use Rattle.std.proofs.Math.Seq.{set_out}
use borrow.Author.Tests.{eqb-true, eqb-false, eq-eqb, ltb-true, ltb-false}
use Rattle.filling.specs.Filling.{Key, place_by, Fills, EachCandidate}
use Rattle.filling.proofs.FillingLaws.{fills-apart, apart-fills}
use Rattle.filling.specs.Separate.{by_index, key_place, Apart}
use Rattle.filling.specs.Weight.{choice_weight, total, count}
use Rattle.filling.proofs.WeightLaws.{count_most, total-has, total-change}
use Rattle.filling.specs.Eviction.{State, allowance, place_under, goal, occupant, start, seat_key, evict_key, Reached, started, seats}
use Rattle.filling.specs.Eviction.{evicts, GivesUp, sequence_of}

-- The potential of m keys, a of which agree, the moving key among these or not.
abbrev pub potential_of : Bool → ℕ → ℕ → ℕ
potential_of true m a = m - a
potential_of false m a = m + a

-- When a key enters with k seated it is within the allowance: a counts the moving key only where it agrees.
potential_of-enter : (b : Bool) (k a : ℕ) → a ≤ k → potential_of b (suc k) (a + choice_weight b 1) ≤ allowance k
unfolding choice_weight
potential_of-enter true k a most = omega arith
potential_of-enter false k a most = omega arith

-- An eviction lowers it. h: the moving key agrees; o: its occupant does; o': the occupant does by its other choice.
potential_of-less : (h o o' : Bool) (m a a' : ℕ) → a + choice_weight o' 1 ≡ a' + choice_weight o 1 → choice_weight o 1 ≤ a → a' ≤ m
    → 0 < m → (h ≡ true → o ≡ true → ⊥) → (o ≡ false → o' ≡ true) → potential_of o' m a' < potential_of h m a
unfolding choice_weight
potential_of-less true true o' m a a' e has most some apart turned = absurd (apart refl refl)
potential_of-less h false false m a a' e has most some apart turned = absurd (false≢true (turned refl))
potential_of-less true false true m a a' e has most some apart turned = omega arith
potential_of-less false false true m a a' e has most some apart turned = omega arith
potential_of-less false true true m a a' e has most some apart turned = omega arith
potential_of-less false true false m a a' e has most some apart turned = omega arith

-- Does key i agree with a sequence: is its place by its choice its place under the sequence?
abbrev pub agrees : List Key → List Bool → List ℕ → ℕ → Bool
agrees keys cs choices i = eqb (place_under keys choices i) (key_place keys i (by_index cs i))

-- The potential of a state against a sequence.
unfoldable pub potential : List Key → List Bool → State → ℕ
potential keys cs s =
    let test = agrees keys cs s.choices in
    potential_of (test s.moving) (suc s.seated) (count test (suc s.seated))

-- The bound at which a key enters, whatever its choice, against any sequence.
potential-enter : (keys : List Key) (cs : List Bool) (s : State) → s.moving ≡ s.seated → potential keys cs s ≤ allowance s.seated
unfolding potential total
potential-enter keys cs s e =
    let test = agrees keys cs s.choices in
    rw e (potential_of-enter (test s.seated) s.seated (count test s.seated) (count_most test s.seated))

-- Key i has place v.
pub record Has (keys : List Key) (s : State) (i v : ℕ) : Type 0 where
  pub upto : i ≤ s.seated
  pub still : i ≢ s.moving
  pub place : v ≡ place_under keys s.choices i

-- What holds of every state that is reached.
record Invariant (keys : List Key) (s : State) : Type 0 where
  -- each key that is in, but the moving one, is the occupant of its place,
  sits : (i : ℕ) → i ≤ s.seated → i ≢ s.moving → get_or s.occupants (place_under keys s.choices i) 0 ≡ i + 1
  -- and an occupant is such a key
  who : (v i : ℕ) → get_or s.occupants v 0 ≡ i + 1 → Has keys s i v
  two : (i : ℕ) → get_or s.choices i 0 < 2
  among : s.moving ≤ s.seated
  upto : s.seated ≤ length keys
  last : s.seated ≡ length keys → s.moving ≡ length keys
  room : EachCandidate (λ x. x < length s.occupants) keys
  cells : length keys ≤ length s.choices
  -- the potential against any sequence is no more than the evictions that are left
  enough : (cs : List Bool) → Apart keys (suc s.seated) cs → potential keys cs s ≤ s.left

-- Every cell of a list of zeros is 0, and past its end 0 is read too.
pub replicate-zero : (m i : ℕ) → ◌≡◌ {A = ℕ} (get_or (replicate m 0) i 0) 0
replicate-zero m i = go (ltb i m) refl
  where
    go : (b : Bool) → ltb i m ≡ b → ◌≡◌ {A = ℕ} (get_or (replicate m 0) i 0) 0
    go true e = get_or-replicate m i 0 0 (ltb-true i m e)
    go false e = get_or-eq_default (replicate m 0) 0 (omega (arith, length-replicate {A = ℕ} m 0, ltb-false i m e))

-- The choice of one key is set: the places of the others stay,
set-place : (keys : List Key) (choices : List ℕ) (o i c : ℕ) → i ≢ o → place_under keys (set choices o c) i ≡ place_under keys choices i
unfolding place_under
set-place keys choices o i c other = rw (get_or-set_other choices o i c 0 other)

-- and all choices are 0 or 1, if this one is.
set-two : (choices : List ℕ) (o i c : ℕ) → c < 2 → get_or choices i 0 < 2 → get_or (set choices o c) i 0 < 2
set-two choices o i c two was = go (ℕ_discrete i o) (ltb o (length choices)) refl
  where
    go : Dec (i ≡ o) → (b : Bool) → ltb o (length choices) ≡ b → get_or (set choices o c) i 0 < 2
    go (yes same) true e = rw (same, get_or-set_same choices o c 0 (ltb-true o (length choices) e)) two
    go (yes same) false e = rw (set_out choices o c (ltb-false o (length choices) e)) was
    go (no other) b e = rw (get_or-set_other choices o i c 0 other) was

invariant-start : (keys : List Key) (places cells : ℕ) → EachCandidate (λ x. x < places) keys → length keys ≤ cells
    → Invariant keys (start places cells)
unfolding start
invariant-start keys places cells below fits = record {
  sits = λ i le other. absurd (other (omega arith));
  who = λ v i e. absurd (omega (arith, replicate-zero places v));
  two = λ i. omega (arith, replicate-zero cells i);
  among = omega arith;
  upto = omega arith;
  last = λ e. e;
  room = λ i lt choice. omega (arith, below i lt choice, length-replicate {A = ℕ} places 0);
  cells = omega (arith, length-replicate {A = ℕ} cells 0);
  enough = λ cs apart. potential-enter keys cs (start places cells) refl;
}

module _ {keys : List Key} {s : State} (inv : Invariant keys s) (more : s.seated < length keys) where
  -- Where the moving key is to go there is a place.
  goal-inside : goal keys s < length s.occupants
  unfolding goal place_under
  goal-inside = inv.room s.moving (omega (arith, inv.among)) (eqb (get_or s.choices s.moving 0) 1)

  -- The moving key takes its place. Then those have a place that had one, without whoever had this one, and the moving key.
  abbrev taken : List ℕ
  taken = set s.occupants (goal keys s) (s.moving + 1)

  taken_here : get_or taken (goal keys s) 0 ≡ s.moving + 1
  taken_here = get_or-set_same s.occupants (goal keys s) (s.moving + 1) 0 goal-inside

  taken-there : (v : ℕ) → v ≢ goal keys s → get_or taken v 0 ≡ get_or s.occupants v 0
  taken-there v other = get_or-set_other s.occupants (goal keys s) v (s.moving + 1) 0 other

  -- A next state with these occupants, in which only the next moving key's choice is another.
  record Next (t : State) : Type 0 where
    occupants : t.occupants ≡ taken
    kept : (i : ℕ) → i ≢ t.moving → place_under keys t.choices i ≡ place_under keys s.choices i
    -- has a place in t: had one in s that is not the goal, or was moving
    into : (i : ℕ) → i ≤ t.seated → i ≢ t.moving → (i ≤ s.seated) × (occupant keys s ≢ i + 1)
    from : (i : ℕ) → i ≤ s.seated → occupant keys s ≢ i + 1 → (i ≤ t.seated) × (i ≢ t.moving)

  next-sits : (t : State) → Next t → (i : ℕ) → i ≤ t.seated → i ≢ t.moving
      → get_or t.occupants (place_under keys t.choices i) 0 ≡ i + 1
  unfolding goal occupant
  next-sits t next i le other = rw (next.occupants, next.kept i other) (go (ℕ_discrete i s.moving))
    where
      go : Dec (i ≡ s.moving) → get_or taken (place_under keys s.choices i) 0 ≡ i + 1
      go (yes same) = rw same taken_here
      go (no still) =
          let was = next.into i le other in
          let at = inv.sits i was.0 still in
          taken-there (place_under keys s.choices i) (λ e. was.1 (ap (λ v. get_or s.occupants v 0) (sym e) ∙ at)) ∙ at

  next-who : (t : State) → Next t → (v i : ℕ) → get_or t.occupants v 0 ≡ i + 1 → Has keys t i v
  unfolding goal occupant
  next-who t next v i e = go (ℕ_discrete v (goal keys s)) (rw next.occupants at e)
    where
      at : v ≡ place_under keys s.choices i → (i ≤ t.seated) × (i ≢ t.moving) → Has keys t i v
      at place q = record { upto = q.0; still = q.1; place = place ∙ sym (next.kept i q.1) }

      go : Dec (v ≡ goal keys s) → get_or taken v 0 ≡ i + 1 → Has keys t i v
      go (yes same) e =
          let q : i ≡ s.moving = omega (arith, taken_here, (rw same at e)) in
          at (same ∙ ap (place_under keys s.choices) (sym q))
          (next.from i (omega (arith, inv.among)) (λ z. (inv.who (goal keys s) i z).still q))
      go (no other) e =
          let has = inv.who v i (sym (taken-there v other) ∙ e) in
          at has.place
          (next.from i has.upto (λ z. other (has.place ∙ sym (inv.who (goal keys s) i z).place)))

  -- The place was free.
  invariant-seat : (choice : ℕ) → choice < 2 → occupant keys s ≡ 0 → Invariant keys (seat_key keys choice s)
  unfolding seat_key
  invariant-seat choice two free = record {
    sits = next-sits (seat_key keys choice s) next;
    who = next-who (seat_key keys choice s) next;
    two = λ i. set-two s.choices (s.seated + 1) i choice two (inv.two i);
    among = omega arith;
    upto = omega arith;
    last = λ e. e;
    room = λ i lt c. simp length-set (inv.room i lt c);
    cells = simp length-set inv.cells;
    enough = λ cs apart. potential-enter keys cs (seat_key keys choice s) refl;
  }
    where
      next : Next (seat_key keys choice s)
      next = record {
        occupants = refl;
        kept = λ i other. set-place keys s.choices (s.seated + 1) i choice other;
        into = λ i le other. (omega arith, λ e. omega arith);
        from = λ i le other. (omega arith, λ e. omega arith);
      }

-- Where a choice does not lead to the place that a sequence gives the key, the other choice does.
other-choice : (key : Key) (c : ℕ) (d : Bool) → c < 2 → eqb (place_by (eqb c 1) key) (place_by d key) ≡ false
    → eqb (place_by (eqb (1 - c) 1) key) (place_by d key) ≡ true
other-choice key zero false lt e = absurd (eqb-false (place_by false key) (place_by false key) e refl)
other-choice key zero true lt e = eq-eqb (place_by true key) (place_by true key) refl
other-choice key (suc zero) false lt e = eq-eqb (place_by false key) (place_by false key) refl
other-choice key (suc zero) true lt e = absurd (eqb-false (place_by true key) (place_by true key) e refl)
other-choice key (suc (suc c)) d lt e = absurd (omega arith)

module _ {keys : List Key} {s : State} (inv : Invariant keys s) (more : s.seated < length keys) (full : occupant keys s ≢ 0) where
  abbrev evicted : ℕ
  evicted = occupant keys s - 1

  abbrev turned : List ℕ
  turned = set s.choices evicted (1 - get_or s.choices evicted 0)

  -- The occupant has the place where the moving key is to go, and is another key.
  evicted-has : Has keys s evicted (goal keys s)
  unfolding occupant
  evicted-has = inv.who (goal keys s) evicted (omega arith)

  turned-here : get_or turned evicted 0 ≡ 1 - get_or s.choices evicted 0
  turned-here =
      get_or-set_same s.choices evicted (1 - get_or s.choices evicted 0) 0 (omega (arith, evicted-has.upto, inv.cells))

  turned-place : (i : ℕ) → i ≢ evicted → place_under keys turned i ≡ place_under keys s.choices i
  turned-place i other = set-place keys s.choices evicted i (1 - get_or s.choices evicted 0) other

  -- Where the moving key agrees with a sequence its occupant does not: they would take one place,
  evicted-differs : (cs : List Bool) → Apart keys (suc s.seated) cs
      → agrees keys cs s.choices s.moving ≡ true → agrees keys cs s.choices evicted ≡ true → ⊥
  unfolding goal
  evicted-differs cs apart a b =
      let p = eqb-true (place_under keys s.choices s.moving) (key_place keys s.moving (by_index cs s.moving)) a in
      let q = eqb-true (place_under keys s.choices evicted) (key_place keys evicted (by_index cs evicted)) b in
      let inside : evicted < suc s.seated = omega (arith, evicted-has.upto) in
      evicted-has.still (sym (apart s.moving evicted (omega (arith, inv.among)) inside (sym p ∙ evicted-has.place ∙ q)))

  -- and where the occupant does not agree it does by its other choice.
  evicted-agrees : (cs : List Bool) → agrees keys cs s.choices evicted ≡ false → agrees keys cs turned evicted ≡ true
  unfolding place_under
  evicted-agrees cs e =
      rw turned-here
      (other-choice (get_or keys evicted (0, 0)) (get_or s.choices evicted 0) (get_or cs evicted false) (inv.two evicted) e)

  -- Every eviction lowers the potential.
  evict-lowers : (cs : List Bool) → Apart keys (suc s.seated) cs → potential keys cs (evict_key keys s) < potential keys cs s
  unfolding potential evict_key
  evict-lowers cs apart =
      let m = suc s.seated in
      let test = agrees keys cs s.choices in
      let test' = agrees keys cs turned in
      let inside : evicted < m = omega (arith, evicted-has.upto) in
      let change : (i : ℕ) → i ≢ evicted → test i ≡ test' i =
      λ i other. ap (λ v. eqb v (key_place keys i (by_index cs i))) (sym (turned-place i other)) in
      potential_of-less (test s.moving) (test evicted) (test' evicted) m (count test m) (count test' m)
      (total-change (λ _. 1) test test' evicted m inside change)
      (total-has (λ _. 1) test m evicted inside) (count_most test' m) (omega arith) (evicted-differs cs apart) (evicted-agrees cs)

  -- The place was taken, and an eviction left.
  invariant-evict : 0 < s.left → Invariant keys (evict_key keys s)
  unfolding evict_key
  invariant-evict some = record {
    sits = next-sits inv more (evict_key keys s) next;
    who = next-who inv more (evict_key keys s) next;
    two = λ i. set-two s.choices evicted i (1 - get_or s.choices evicted 0) (omega arith) (inv.two i);
    among = evicted-has.upto;
    upto = inv.upto;
    last = λ e. absurd (omega arith);
    room = λ i lt choice. simp length-set (inv.room i lt choice);
    cells = simp length-set inv.cells;
    enough = λ cs apart. omega (arith, evict-lowers cs apart, inv.enough cs apart);
  }
    where
      next : Next inv more (evict_key keys s)
      next = record {
        occupants = refl;
        kept = turned-place;
        into = λ i le other. (le, λ e. other (omega arith));
        from = λ i le other. (le, λ e. other (omega arith));
      }

-- What is reached has the invariant.
reached-invariant : {keys : List Key} {s : State} → Reached keys s → Invariant keys s
reached-invariant {keys} (started places cells below fits) = invariant-start keys places cells below fits
reached-invariant (seats choice two r more free) = invariant-seat (reached-invariant r) more choice two free
reached-invariant (evicts r more full some) = invariant-evict (reached-invariant r) more full some

module _ {keys : List Key} {s : State} (r : Reached keys s) where
  -- The potential is at most what is left of the allowance, against every sequence that fills the keys so far,
  pub potential-left : (cs : List Bool) → Apart keys (suc s.seated) cs → potential keys cs s ≤ s.left
  potential-left cs apart = (reached-invariant r).enough cs apart

  -- and every eviction lowers it.
  pub eviction-lowers : s.seated < length keys → (occupant keys s ≡ 0 → ⊥) → (cs : List Bool) → Apart keys (suc s.seated) cs
      → potential keys cs (evict_key keys s) < potential keys cs s
  eviction-lowers more full cs apart = evict-lowers (reached-invariant r) more full cs apart

  -- What a program over the state has to know.
  pub reached-choice : (i : ℕ) → get_or s.choices i 0 < 2
  reached-choice i = (reached-invariant r).two i

  pub reached-among : s.moving ≤ s.seated
  reached-among = (reached-invariant r).among

  pub reached-who : (v i : ℕ) → get_or s.occupants v 0 ≡ i + 1 → Has keys s i v
  reached-who v i e = (reached-invariant r).who v i e

  pub reached-cells : length keys ≤ length s.choices
  reached-cells = (reached-invariant r).cells

  pub reached-goal : s.seated < length keys → goal keys s < length s.occupants
  reached-goal more = goal-inside (reached-invariant r) more

-- COMPLETENESS: where the bounded chain gives up, no choice sequence fills.
pub gives-up-none : {keys : List Key} {s : State} → GivesUp keys s → (cs : List Bool) → Fills keys cs → ⊥
gives-up-none {keys} {s} g cs f =
    omega (arith, eviction-lowers g.reached g.unfinished g.taken cs apart, potential-left g.reached cs apart, g.spent)
  where
    apart : Apart keys (suc s.seated) cs
    apart i j li lj e = fills-apart keys cs f i j (omega (arith, g.unfinished)) (omega (arith, g.unfinished)) e

-- The choice with an index.
sequence_of-at : (keys : List Key) (s : State) (i : ℕ) → i < length keys
    → by_index (sequence_of keys s) i ≡ eqb (get_or s.choices i 0) 1
unfolding sequence_of
sequence_of-at keys s i lt =
    get_or-map (λ choice. eqb choice 1) (take (length keys) s.choices) i 0 ∙ rw (get_or-take (length keys) s.choices i 0 lt)

-- SOUNDNESS: where all keys are seated, their choices fill.
pub seated-fills : {keys : List Key} {s : State} → Reached keys s → s.seated ≡ length keys → Fills keys (sequence_of keys s)
unfolding sequence_of place_under
seated-fills {keys} {s} r all = apart-fills keys (sequence_of keys s) whole apart
  where
    inv : Invariant keys s
    inv = reached-invariant r

    whole : length (sequence_of keys s) ≡ length keys
    whole = length-map (take (length keys) s.choices) (λ choice. eqb choice 1) ∙ length-take-le (length keys) s.choices inv.cells

    under : (i : ℕ) → i < length keys → key_place keys i (by_index (sequence_of keys s) i) ≡ place_under keys s.choices i
    under i lt = rw (sequence_of-at keys s i lt)

    sits : (i : ℕ) → i < length keys → get_or s.occupants (place_under keys s.choices i) 0 ≡ i + 1
    sits i lt = inv.sits i (omega arith) (λ e. omega (arith, inv.last all))

    apart : Apart keys (length keys) (sequence_of keys s)
    apart i j li lj e =
        let same = sym (under i li) ∙ e ∙ under j lj in
        omega (arith, sits i li, sits j lj, ap (λ v. get_or s.occupants v 0) same)
