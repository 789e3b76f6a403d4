-- The lightest sequence is the one taken: where the weights of the keys and the order of choices meet. Assumes nothing.
use Rattle.std.specs.Prelude.{ℕ, suc, ◌+◌, ◌≤◌, ◌<◌, ◌≡◌, refl, Bool, true, false, List, length, Some}
use Rattle.std.proofs.Math.Path.{sym, ap}
use Rattle.std.proofs.Common.{◌∙◌, arith}
use Rattle.std.proofs.Math.Bool.{not-eq-not}
use Rattle.std.proofs.Math.Decide.{ℕ_discrete, dec_lt}
use Rattle.lists.specs.UpTo.{up_to}
use Rattle.lists.proofs.UpToLaws.{up_to-length, up_to-at}
use Rattle.filling.specs.Filling.{Key, Fills}
use Rattle.filling.specs.Separate.{by_index, key_place, Separate}
use Rattle.filling.proofs.FillingLaws.{separate-same, apart-fills, fills-apart}
use Rattle.filling.specs.Taken.{sequence_taken}
use Rattle.filling.proofs.TakenLaws.{not_after-antisym, sequence-fills, sequence-first, sequence-only}
use Rattle.filling.specs.Weight.{key_weight, choice_weight, total}
use Rattle.filling.proofs.WeightLaws.{total-same, total-change, weight-not_after}
use Rattle.filling.specs.Insertion.{Lightest, LightestWith}
use Rattle.filling.proofs.InsertionLaws.{toggle, toggle-toggled}

-- Among the sequences that fill at most 32 keys, the lightest is taken.
pub lightest-fills : (keys : List Key) (cs : List Bool) → length keys ≤ 32 → Fills keys cs
    → ((ds : List Bool) → Fills keys ds
    → total key_weight (by_index cs) (length keys) ≤ total key_weight (by_index ds) (length keys)) → sequence_taken keys ≡ Some cs
lightest-fills keys cs few fills lightest =
    sequence-only keys cs fills (λ ds f.
    weight-not_after cs ds (fills.whole ∙ sym f.whole) (omega (arith, fills.whole))
    (rw (fills.whole, f.whole) (lightest ds f)))

-- So the lightest sequence that insertion gives is the one taken.
pub lightest-taken : (keys : List Key) (cs : List Bool) → length cs ≡ length keys → length keys ≤ 32
    → Lightest (key_place keys) key_weight (length keys) (by_index cs) → sequence_taken keys ≡ Some cs
lightest-taken keys cs l few light =
    lightest-fills keys cs few (apart-fills keys cs l light.separate)
    (λ ds f. light.lightest (by_index ds) (fills-apart keys ds f))

-- Choices that separate the keys fill, as a sequence.
pub separate-fills : (keys : List Key) (f : ℕ → Bool) → Separate (key_place keys) (length keys) f → Fills keys (up_to (length keys) f)
separate-fills keys f apart =
    apart-fills keys (up_to (length keys) f) (up_to-length (length keys) f)
    (separate-same (λ i lt. ap (key_place keys i) (sym (up_to-at (length keys) f false i lt))) apart)

-- The sequence taken is the lightest: what separates the keys does not come before it, so it is not lighter.
pub taken-lightest : (keys : List Key) {cs : List Bool} → length keys ≤ 32 → sequence_taken keys ≡ Some cs
    → Lightest (key_place keys) key_weight (length keys) (by_index cs)
taken-lightest keys {cs} few e = record {
  separate = fills-apart keys cs fills;
  lightest = λ f apart. go f apart (dec_lt (total key_weight f (length keys)) (total key_weight (by_index cs) (length keys)));
}
  where
    fills : Fills keys cs
    fills = sequence-fills keys e

    go : (f : ℕ → Bool) → Separate (key_place keys) (length keys) f
        → Dec (total key_weight f (length keys) < total key_weight (by_index cs) (length keys))
        → total key_weight (by_index cs) (length keys) ≤ total key_weight f (length keys)
    go f apart (no n) = omega (arith, n)
    go f apart (yes lt) =
        let long : length (up_to (length keys) f) ≡ length keys = up_to-length (length keys) f in
        let level =
        total-same key_weight key_weight (by_index (up_to (length keys) f)) f (length keys) (λ i lt. refl)
        (up_to-at (length keys) f false) in
        let before =
        weight-not_after (up_to (length keys) f) cs (long ∙ sym fills.whole) (omega (arith, long))
        (rw (long, fills.whole) (omega (arith, level))) in
        let after = sequence-first keys e (up_to (length keys) f) (separate-fills keys f apart) in
        let same = not_after-antisym cs (up_to (length keys) f) after before in
        omega (arith, level, ap (λ (xs : List Bool). total key_weight (by_index xs) (length keys)) same)

-- Keys o and k have the same first place. Under f key k has it, so key o has its second; with o back at the first, the keys before k
-- are separate as well, and their choices are lighter by the weight of o.
module _ (place : ℕ → Bool → ℕ) (k o : ℕ) (below : o < k) (had : place o false ≡ place k false)
    (f : ℕ → Bool) (all : Separate place (suc k) f) (e : f k ≡ false) where
  elsewhere : (j : ℕ) → j < k → place j (f j) ≡ place o false → ⊥
  elsewhere j lt z = let clash = all j k (omega arith) (omega arith) (z ∙ had ∙ sym (ap (place k) e)) in omega arith

  moved : f o ≡ true
  moved = not-eq-not.0 (λ z. elsewhere o below (ap (place o) z))

  back : ℕ → Bool
  back = toggle f o

  back-first : back o ≡ false
  unfolding back
  back-first = (toggle-toggled f o).here ∙ rw moved

  still : (i : ℕ) → (i ≡ o → ⊥) → place i (back i) ≡ place i (f i)
  unfolding back
  still i n = ap (place i) ((toggle-toggled f o).others i n)

  back-separate : Separate place k back
  back-separate i j li lj z = pair (ℕ_discrete i o) (ℕ_discrete j o)
    where
      pair : Dec (i ≡ o) → Dec (j ≡ o) → i ≡ j
      pair (yes p) (yes q) = p ∙ sym q
      pair (yes p) (no q) = absurd (elsewhere j lj (sym (still j q) ∙ sym z ∙ rw (p, back-first)))
      pair (no p) (yes q) = absurd (elsewhere i li (sym (still i p) ∙ z ∙ rw (q, back-first)))
      pair (no p) (no q) = all i j (omega arith) (omega arith) (sym (still i p) ∙ z ∙ still j q)

  first-place-heavier : (weight : ℕ → ℕ) (before : ℕ → Bool) → Lightest place weight k before
      → total weight before k + weight o ≤ total weight f k
  unfolding choice_weight back
  first-place-heavier weight before light =
      let change = total-change weight f back o k below (λ i n. sym ((toggle-toggled f o).others i n)) in
      omega (arith, light.lightest back back-separate, (rw (moved, back-first) at change))

-- So where the second place of key k is free and the key that has its first stands at its own first place, the lightest choices of
-- the keys before k and the second place of k are the lightest, under any weights that do not rise from that key to k.
pub second-place-lightest : (place : ℕ → Bool → ℕ) (weight : ℕ → ℕ) (k : ℕ) (before c : ℕ → Bool) → Lightest place weight k before
    → ((i : ℕ) → i < k → before i ≡ c i) → c k ≡ true → LightestWith place weight k true c
    → (o : ℕ) → o < k → place o false ≡ place k false → weight k ≤ weight o
    → Lightest place weight (suc k) c
unfolding total choice_weight
second-place-lightest place weight k before c light same last own o below had falls = record {
  separate = own.separate;
  lightest = λ f all. go f all (f k) refl;
}
  where
    level : total weight before k ≡ total weight c k
    level = total-same weight weight before c k (λ i lt. refl) same

    go : (f : ℕ → Bool) → Separate place (suc k) f → (b : Bool) → f k ≡ b → total weight c (suc k) ≤ total weight f (suc k)
    go f all true e = own.lightest f all e
    go f all false e = rw (last, e) (omega (arith, level, first-place-heavier place k o below had f all e weight before light))

-- A key with equal places takes its first: with its choice toggled the keys have the same places, and the choices weigh less.
pub equal-places-first : (keys : List Key) {cs : List Bool} → length keys ≤ 32 → sequence_taken keys ≡ Some cs
    → (i : ℕ) → i < length keys → key_place keys i false ≡ key_place keys i true → by_index cs i ≡ false
unfolding choice_weight key_weight
equal-places-first keys {cs} few e i lt same = not-eq-not.0 second
  where
    light : Lightest (key_place keys) key_weight (length keys) (by_index cs)
    light = taken-lightest keys few e

    first : ℕ → Bool
    first = toggle (by_index cs) i

    second : by_index cs i ≡ true → ⊥
    second t =
        let apart = separate-same (λ j lj. stays j (ℕ_discrete j i)) light.separate in
        let change =
        total-change key_weight (by_index cs) first i (length keys) lt (λ j n. sym ((toggle-toggled (by_index cs) i).others j n)) in
        omega (arith, light.lightest first apart, (rw (t, back) at change))
      where
        back : first i ≡ false
        back = (toggle-toggled (by_index cs) i).here ∙ rw t

        stays : (j : ℕ) → Dec (j ≡ i) → key_place keys j (by_index cs j) ≡ key_place keys j (first j)
        stays j (yes z) = rw (z, back, t) (sym same)
        stays j (no n) = ap (key_place keys j) (sym ((toggle-toggled (by_index cs) i).others j n))
