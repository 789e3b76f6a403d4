-- What the seed and the sequence taken are, of tags among any number of places, in the words of `Fills`: callers use these laws, never
-- the search. Assumes nothing.
use Rattle.std.specs.Prelude.{ℕ, ◌≤◌, ◌<◌, Bool, true, List, [], length, get_or, Option, None, Some, option_map, unwrap_or}
use Rattle.std.proofs.Math.Path.{◌≡◌, refl}
use Rattle.std.proofs.Common.{◌∙◌, arith}
use Rattle.std.proofs.Math.Bool.{false}
use Rattle.lists.specs.First.{is_some}
use Rattle.lists.proofs.FirstLaws.{some-of-is_some, first_some, first-none, first_found, first_out}
use Rattle.hash.proofs.FormulaLaws.{place-below}
use Rattle.filling.specs.Filling.{Fills, EachCandidate}
use Rattle.filling.specs.Word.{word_of}
use Rattle.filling.specs.Order.{NotAfter}
use Rattle.filling.specs.Least.{feasible}
use Rattle.filling.proofs.LeastLaws.{feasible-fills, infeasible-none, fills-feasible, none-infeasible}
use Rattle.filling.specs.Taken.{sequence_taken}
use Rattle.filling.proofs.TakenLaws.{sequence-fills, sequence-first, sequence-only, sequence-exists}
use Rattle.group.specs.Group.{candidates}
use Rattle.group.proofs.GroupLaws.{each-candidate}
use Rattle.group_places.specs.Places.{least_seed_on, taken_on, word_on}

-- Where there are no more tags than places, each candidate place is one of the places.
pub candidates-below : (n s : ℕ) (tags : List ℕ) → length tags ≤ n → EachCandidate (λ x. x < n) (candidates n s tags)
candidates-below n s tags room =
    each-candidate (λ x. x < n) n s tags (λ i c lt. place-below n s c (get_or tags i 0) (omega arith))

-- Nothing fills under seed s.
abbrev pub NoneFillsOn : ℕ → List ℕ → ℕ → Type 0
NoneFillsOn n tags s = (cs : List Bool) → Fills (candidates n s tags) cs → ⊥

-- s is the seed below the limit: the sequence taken fills under it, nothing that fills comes before that sequence, and nothing fills
-- under the seeds passed over.
pub record LeastSeedOn (n : ℕ) (tags : List ℕ) (limit s : ℕ) : Type 0 where
  pub below : s < limit
  pub fills : Fills (candidates n s tags) (taken_on n tags s)
  pub not_after : (cs : List Bool) → Fills (candidates n s tags) cs → NotAfter (taken_on n tags s) cs
  pub passed : (t : ℕ) → t < s → NoneFillsOn n tags t

-- The test that the search for a seed makes.
abbrev seed_test : ℕ → List ℕ → ℕ → Bool
seed_test n tags s = feasible (candidates n s tags)

module _ (n : ℕ) (tags : List ℕ) where
  -- The sequence taken of the candidate places, where there is one.
  taken_on-of-some : (s : ℕ) {cs : List Bool} → sequence_taken (candidates n s tags) ≡ Some cs → taken_on n tags s ≡ cs
  unfolding taken_on
  taken_on-of-some s e = rw e

  -- There is one where any sequence fills.
  pub taken_on-of-fills : (s : ℕ) (cs : List Bool) → Fills (candidates n s tags) cs
      → sequence_taken (candidates n s tags) ≡ Some (taken_on n tags s)
  taken_on-of-fills s cs f =
      let exists = sequence-exists (candidates n s tags) ∙ fills-feasible (candidates n s tags) cs f in
      let (ds, e) = some-of-is_some (sequence_taken (candidates n s tags)) exists in
      rw (taken_on-of-some s e) e

  -- The sequence taken fills where any does.
  pub taken_on-fills : (s : ℕ) (cs : List Bool) → Fills (candidates n s tags) cs → Fills (candidates n s tags) (taken_on n tags s)
  taken_on-fills s cs f = sequence-fills (candidates n s tags) (taken_on-of-fills s cs f)

  -- Nothing that fills comes before the sequence taken.
  pub taken_on-least : (s : ℕ) (cs : List Bool) → Fills (candidates n s tags) cs → NotAfter (taken_on n tags s) cs
  taken_on-least s cs f = sequence-first (candidates n s tags) (taken_on-of-fills s cs f) cs f

  -- A sequence that fills, with nothing that fills before it, is the one taken.
  pub taken_on-unique : (s : ℕ) (cs : List Bool) → Fills (candidates n s tags) cs
      → ((ds : List Bool) → Fills (candidates n s tags) ds → NotAfter cs ds) → taken_on n tags s ≡ cs
  taken_on-unique s cs f h = taken_on-of-some s (sequence-only (candidates n s tags) cs f h)

  -- The seed found is the least under which anything fills.
  pub least_seed_on-some : (limit : ℕ) {s : ℕ} → least_seed_on n tags limit ≡ Some s → LeastSeedOn n tags limit s
  unfolding least_seed_on
  least_seed_on-some limit {s} e =
      let at = first_some (seed_test n tags) limit e in
      let (cs, f) = feasible-fills (candidates n s tags) at.holds in
      record {
        below = at.below;
        fills = taken_on-fills s cs f;
        not_after = taken_on-least s;
        passed = λ t lt. infeasible-none (candidates n t tags) (at.lowest t lt);
      }

  -- Where none is found, nothing fills under any seed below the limit.
  pub least_seed_on-none : (limit : ℕ) → least_seed_on n tags limit ≡ None → (t : ℕ) → t < limit → NoneFillsOn n tags t
  unfolding least_seed_on
  least_seed_on-none limit e t lt =
      infeasible-none (candidates n t tags) (first-none (seed_test n tags) limit e t lt)

  -- The least seed below the limit under which anything fills is the one found.
  pub least_seed_on-only : (limit s : ℕ) (cs : List Bool) → s < limit → Fills (candidates n s tags) cs
      → ((t : ℕ) → t < s → NoneFillsOn n tags t) → least_seed_on n tags limit ≡ Some s
  unfolding least_seed_on
  least_seed_on-only limit s cs below f passed =
      let fails : (t : ℕ) → t < s → seed_test n tags t ≡ false = λ t lt. none-infeasible (candidates n t tags) (passed t lt) in
      first_found (seed_test n tags) limit s below (fills-feasible (candidates n s tags) cs f) fails

  -- Where nothing fills under any seed below the limit, none is found.
  pub least_seed_on-out : (limit : ℕ) → ((t : ℕ) → t < limit → NoneFillsOn n tags t) → least_seed_on n tags limit ≡ None
  unfolding least_seed_on
  least_seed_on-out limit out =
      first_out (seed_test n tags) limit (λ t lt. none-infeasible (candidates n t tags) (out t lt))

  -- Where something fills, the word is that of the sequence taken.
  pub word_on-taken : (s : ℕ) (cs : List Bool) → Fills (candidates n s tags) cs → word_on n tags s ≡ Some (word_of (taken_on n tags s))
  unfolding word_on
  word_on-taken s cs f = rw (taken_on-of-fills s cs f)

  -- A word says that something fills, and is that of the sequence taken;
  pub word_on-found : (s : ℕ) {word : ℕ} → word_on n tags s ≡ Some word
      → (feasible (candidates n s tags) ≡ true) × (word ≡ word_of (taken_on n tags s))
  unfolding word_on is_some taken_on
  word_on-found s {word} e = rw (← sequence-exists (candidates n s tags)) (go (sequence_taken (candidates n s tags)) e)
    where
      go : (o : Option (List Bool)) → option_map word_of o ≡ Some word → (is_some o ≡ true) × (word ≡ word_of (unwrap_or o []))
      go None e = absurd (let z : ◌≡◌ {A = ℕ} 0 1 = cc in omega arith)
      go (Some cs) e = (refl, cc)

  -- and where there is none nothing fills.
  pub word_on-none : (s : ℕ) → word_on n tags s ≡ None → feasible (candidates n s tags) ≡ false
  unfolding word_on is_some
  word_on-none s e = rw (← sequence-exists (candidates n s tags)) (go (sequence_taken (candidates n s tags)) e)
    where
      go : (o : Option (List Bool)) → option_map word_of o ≡ None → is_some o ≡ false
      go None e = refl
      go (Some cs) e = cc
