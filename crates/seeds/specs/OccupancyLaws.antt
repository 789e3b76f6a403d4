-- The ones of the occupancy word are the number of places touched, so that a seed may be dropped by counting them. Assumes nothing.
use Rattle.std.specs.Prelude.{ℕ, ◌+◌, ◌<◌, ◌≡◌, refl, Bool, true, false, cond, ◌||◌, List, [], ◌∷◌, ◌++◌, map, eqb, length, get_or, take}
use Rattle.std.proofs.Common.{◌∙◌, ap, add-one, arith, take-suc, eqb-true}
use Rattle.std.proofs.lemmas.List.{map-append}
use Rattle.std.specs.Int.Bits.{bit_or, or_zero_l}
use Rattle.std.proofs.lemmas.Nat.{or_comm}
use Rattle.std.specs.Int.Count.{ones}
use Rattle.std.proofs.lemmas.Bool.{eqb-false}
use Rattle.bits.specs.Bit.{bit_at, set_bit}
use Rattle.bits.specs.BitLaws.{bit-zero, bit-same, bit-other, set_bit-comm, set_bit-ones, ones-zero, or-set_bit}
use Rattle.lists.specs.Occurs.{occurs}
use Rattle.filling.specs.Filling.{Key, place_by, Fills, EachCandidate}
use Rattle.filling.specs.Touched.{candidate_places, once, touched}
use Rattle.filling.proofs.UntouchedLaws.{untouched-none}
use Rattle.filling.specs.Word.{choice_number}
use Rattle.places.specs.Array.{places_by}
use Rattle.seeds.specs.Occupancy.{occupancy, occupancy_of}

-- Bit x is set exactly where place x is in the list.
pub occupancy-bit : (places : List ℕ) (x : ℕ) → bit_at (occupancy places) x ≡ choice_number (occurs x places)
unfolding occupancy occurs choice_number
occupancy-bit [] x = bit-zero x
occupancy-bit (p ∷ places) x = go (eqb x p) refl (occupancy-bit places x)
  where
    w : ℕ
    w = occupancy places

    go : (b : Bool) → eqb x p ≡ b → bit_at w x ≡ choice_number (occurs x places)
        → bit_at (set_bit w p) x ≡ choice_number (b || occurs x places)
    go true e rest = rw (eqb-true x p e) (bit-same w p)
    go false e rest = bit-other w p x (eqb-false x p e) ∙ rest

-- The ones are as many as the different places.
pub ones-once : (places : List ℕ) → ones (occupancy places) ≡ length (once places)
unfolding occupancy once choice_number
ones-once [] = ones-zero
ones-once (p ∷ places) = go (occurs p places) (occupancy-bit places p) (set_bit-ones (occupancy places) p) (ones-once places)
  where
    w : ℕ
    w = occupancy places

    go : (b : Bool) → bit_at w p ≡ choice_number b → ones (set_bit w p) + bit_at w p ≡ ones w + 1 → ones w ≡ length (once places)
        → ones (set_bit w p) ≡ length (cond b (once places) (p ∷ once places))
    go true e step rest = omega arith
    go false e step rest = omega arith

-- The ones of the occupancy word of keys are the number of places that they touch.
pub ones-touched : (keys : List Key) → ones (occupancy_of keys) ≡ touched keys
unfolding occupancy_of touched
ones-touched keys = ones-once (candidate_places keys)

-- THE EARLY DROP: where n keys on n places have an occupancy word with another number of ones than n, nothing fills.
pub ones_none : (n : ℕ) (keys : List Key) → length keys ≡ n → EachCandidate (λ x. x < n) keys → (ones (occupancy_of keys) ≡ n → ⊥)
    → (cs : List Bool) → Fills keys cs → ⊥
ones_none n keys size below other = untouched-none n keys size below (λ e. other (ones-touched keys ∙ e))

-- The bit of one place more is set.
pub occupancy-more : (places : List ℕ) (p : ℕ) → occupancy (places ++ (p ∷ [])) ≡ set_bit (occupancy places) p
unfolding occupancy
occupancy-more [] p = refl
occupancy-more (x ∷ places) p = rw (occupancy-more places p) (set_bit-comm (occupancy places) p x)

-- Under one choice: no key sets no bit,
pub half-none : (choice : Bool) (keys : List Key) → occupancy (places_by choice (take 0 keys)) ≡ 0
unfolding places_by occupancy
half-none choice keys = refl

-- and one key more sets the bit of its place.
pub half-more : (choice : Bool) (keys : List Key) (i : ℕ) → i < length keys
    → occupancy (places_by choice (take (i + 1) keys))
    ≡ set_bit (occupancy (places_by choice (take i keys))) (place_by choice (get_or keys i (0, 0)))
unfolding places_by
half-more choice keys i lt =
    rw (add-one i, take-suc keys i (0, 0) lt, map-append (place_by choice) (take i keys) (get_or keys i (0, 0) ∷ []))
    (occupancy-more (map (place_by choice) (take i keys)) (place_by choice (get_or keys i (0, 0))))

-- The places under choice 0 and those under choice 1 together are all.
pub halves-occupied : (keys : List Key) → bit_or (occupancy (places_by false keys)) (occupancy (places_by true keys)) ≡ occupancy_of keys
unfolding places_by occupancy_of candidate_places occupancy
halves-occupied [] = or_zero_l 0
halves-occupied (key ∷ keys) =
    let v = occupancy (map (place_by false) keys) in
    let w = occupancy (map (place_by true) keys) in
    let p = place_by false key in
    let q = place_by true key in
    or-set_bit v (set_bit w q) p
    ∙ ap (λ x. set_bit x p) (or_comm v (set_bit w q) ∙ or-set_bit w v q ∙ rw (or_comm w v, halves-occupied keys))
