-- Keys along a path: the first has the path's first place twice, each other key the place before and its own. Each but the first can
-- only take its own, by choice 1, so the word of the sequence taken has all bits but the lowest. Assumes nothing.
use Rattle.std.specs.Prelude.{ℕ, zero, suc, ◌+◌, ◌^◌, ◌≤◌, ◌≡◌, refl, Bool, true, false, not, ◌&&◌, List, [], ◌∷◌, length, replicate}
use Rattle.std.proofs.Common.{◌∙◌, arith, le-ltb}
use Rattle.std.specs.Prelude.{Some, option_map}
use Rattle.std.proofs.Math.Nat.{two-pow-succ}
use Rattle.std.proofs.lemmas.Bool.{not-true}
use Rattle.lists.proofs.BoolLaws.{both-of-and}
use Rattle.lists.specs.Occurs.{occurs}
use Rattle.lists.proofs.OccursLaws.{occurs-here}
use Rattle.filling.specs.Filling.{Key, place_by}
use Rattle.filling.specs.Word.{choice_number, word_of}
use Rattle.filling.specs.Order.{ones}
use Rattle.filling.specs.Least.{beginning}
use Rattle.filling.specs.Taken.{fewer_ones, taken_from, sequence_taken}

-- The keys behind a place, each with the place before it and its own.
abbrev pub path_from : ℕ → List ℕ → List Key
path_from place [] = []
path_from place (next ∷ rest) = (place, next) ∷ path_from next rest

abbrev pub path : ℕ → List ℕ → List Key
path place rest = (place, place) ∷ path_from place rest

-- Each place is none of those before it.
abbrev pub fresh : List ℕ → List ℕ → Bool
fresh used [] = true
fresh used (place ∷ rest) = not (occurs place used) && fresh (place ∷ used) rest

-- A key whose first place is used takes its second.
second-forced : (used : List ℕ) (place next : ℕ) (keys : List Key) → occurs place used ≡ true → occurs next used ≡ false
    → taken_from used ((place, next) ∷ keys) ≡ option_map (λ choices. true ∷ choices) (taken_from (next ∷ used) keys)
unfolding taken_from beginning place_by fewer_ones
second-forced used place next keys taken free = rw (taken, free)

-- Then so does every key behind it.
path-on : (used : List ℕ) (place : ℕ) (rest : List ℕ) → occurs place used ≡ true → fresh used rest ≡ true
    → taken_from used (path_from place rest) ≡ Some (replicate (length rest) true)
unfolding taken_from
path-on used place [] taken free = refl
path-on used place (next ∷ rest) taken free =
    let (own, later) = both-of-and (not (occurs next used)) (fresh (next ∷ used) rest) free in
    second-forced used place next (path_from next rest) taken (not-true (occurs next used) own)
    ∙ rw (path-on (next ∷ used) next rest (occurs-here next used) later)

-- Of two sequences that differ in the first choice alone, the one with choice 0 has fewer ones.
first-fewer : (cs : List Bool) → fewer_ones (Some (false ∷ cs)) (Some (true ∷ cs)) ≡ Some (false ∷ cs)
unfolding fewer_ones ones choice_number
first-fewer cs = rw (le-ltb (ones (true ∷ cs)) (ones (false ∷ cs)) (more cs))
  where
    more : (cs : List Bool) → ones (false ∷ cs) ≤ ones (true ∷ cs)
    more cs = omega arith

pub path-taken : (place : ℕ) (rest : List ℕ) → fresh (place ∷ []) rest ≡ true
    → sequence_taken (path place rest) ≡ Some (false ∷ replicate (length rest) true)
unfolding sequence_taken taken_from beginning place_by occurs
path-taken place rest free =
    rw (path-on (place ∷ []) place rest (occurs-here place []) free) (first-fewer (replicate (length rest) true))

-- The word of n choices 1 has n bits, so that of a path all but the lowest.
ones-word : (n : ℕ) → word_of (replicate n true) + 1 ≡ 2 ^ n
unfolding word_of choice_number
ones-word zero = refl
ones-word (suc n) = omega (arith, ones-word n, two-pow-succ n)

pub path-word : (n : ℕ) → word_of (false ∷ replicate n true) + 2 ≡ 2 ^ suc n
unfolding word_of choice_number
path-word n = omega (arith, ones-word n, two-pow-succ n)
