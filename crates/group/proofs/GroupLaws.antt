-- What the seed and the sequence taken are, in the words of `Fills`: callers use these laws, never the search. Assumes nothing.
use Rattle.std.specs.Prelude.{ℕ, zero, suc, ◌<◌, ◌≡◌, refl, Bool, true, List, [], ◌∷◌, length, get_or, None, Some}
use Rattle.std.proofs.Common.{◌∙◌, arith}
use Rattle.std.proofs.Math.Bool.{false}
use Rattle.std.proofs.lemmas.List.{length-map}
use Rattle.lists.proofs.FirstLaws.{some-of-is_some, first_some, first-none, first_found, first_out}
use Rattle.lists.specs.Occurs.{distinct}
use Rattle.hash.specs.Formula.{place_of}
use Rattle.hash.proofs.FormulaLaws.{place-below}
use Rattle.filling.specs.Filling.{place_by, chosen, Fills, EachCandidate}
use Rattle.filling.specs.Word.{choice_number}
use Rattle.filling.specs.Order.{NotAfter}
use Rattle.filling.specs.Least.{feasible}
use Rattle.filling.proofs.LeastLaws.{feasible-fills, infeasible-none, fills-feasible, none-infeasible}
use Rattle.filling.specs.Taken.{sequence_taken}
use Rattle.filling.proofs.TakenLaws.{sequence-fills, sequence-first, sequence-only, sequence-exists}
use Rattle.group.specs.Group.{both_places, candidates, group_under, least_seed, taken}

-- Each tag has its pair of candidate places.
pub candidates-length : (n s : ℕ) (tags : List ℕ) → length (candidates n s tags) ≡ length tags
unfolding candidates
candidates-length n s tags = length-map tags (both_places n s)

-- The place that a choice takes of the tag with index i is the tag's place by the formula.
pub candidate-place : (n s : ℕ) (tags : List ℕ) (i : ℕ) (choice : Bool) → i < length tags
    → place_by choice (get_or (candidates n s tags) i (0, 0)) ≡ place_of n s (choice_number choice) (get_or tags i 0)
unfolding candidates both_places place_by choice_number
candidate-place n s [] i choice lt = absurd (omega arith)
candidate-place n s (t ∷ ts) zero false lt = refl
candidate-place n s (t ∷ ts) zero true lt = refl
candidate-place n s (t ∷ ts) (suc i) choice lt = candidate-place n s ts i choice (omega arith)

-- What holds of every place of every tag by the formula holds of each candidate place.
pub each-candidate : (P : ℕ → Type 0) (n s : ℕ) (tags : List ℕ)
    → ((i c : ℕ) → i < length tags → P (place_of n s c (get_or tags i 0))) → EachCandidate P (candidates n s tags)
each-candidate P n s tags each i lt choice =
    let below : i < length tags = omega (arith, candidates-length n s tags) in
    rw (candidate-place n s tags i choice below) (each i (choice_number choice) below)

-- n tags have their n pairs of candidate places below n.
pub group-size : (tags : List ℕ) (s : ℕ) → length (group_under tags s) ≡ length tags
group-size tags s = candidates-length (length tags) s tags

pub group-below : (tags : List ℕ) (s : ℕ) → EachCandidate (λ x. x < length tags) (group_under tags s)
group-below tags s =
    each-candidate (λ x. x < length tags) (length tags) s tags
    (λ i c lt. place-below (length tags) s c (get_or tags i 0) (omega arith))

-- A sequence that fills has a choice for each tag.
pub fills-length : (n s : ℕ) (tags : List ℕ) {cs : List Bool} → Fills (candidates n s tags) cs → length cs ≡ length tags
fills-length n s tags f = f.whole ∙ candidates-length n s tags

-- Nothing fills the group under seed s.
abbrev pub NoneFills : List ℕ → ℕ → Type 0
NoneFills tags s = (cs : List Bool) → Fills (group_under tags s) cs → ⊥

-- s is the group's seed below the limit: the sequence taken fills under it, nothing that fills comes before that sequence, and
-- nothing fills under the seeds passed over.
pub record LeastSeed (tags : List ℕ) (limit s : ℕ) : Type 0 where
  pub below : s < limit
  pub fills : Fills (group_under tags s) (taken tags s)
  pub not_after : (cs : List Bool) → Fills (group_under tags s) cs → NotAfter (taken tags s) cs
  pub passed : (t : ℕ) → t < s → NoneFills tags t

-- The test that the search for a seed makes.
abbrev seed_test : List ℕ → ℕ → Bool
seed_test tags s = feasible (group_under tags s)

module _ (tags : List ℕ) where
  -- The sequence taken of the candidate places, where there is one.
  taken-of-some : (s : ℕ) {cs : List Bool} → sequence_taken (group_under tags s) ≡ Some cs → taken tags s ≡ cs
  unfolding taken
  taken-of-some s e = rw e

  -- There is one where any sequence fills.
  pub taken-of-fills : (s : ℕ) (cs : List Bool) → Fills (group_under tags s) cs
      → sequence_taken (group_under tags s) ≡ Some (taken tags s)
  taken-of-fills s cs f =
      let exists = sequence-exists (group_under tags s) ∙ fills-feasible (group_under tags s) cs f in
      let (ds, e) = some-of-is_some (sequence_taken (group_under tags s)) exists in
      rw (taken-of-some s e) e

  -- The sequence taken fills where any does.
  pub taken-fills : (s : ℕ) (cs : List Bool) → Fills (group_under tags s) cs → Fills (group_under tags s) (taken tags s)
  taken-fills s cs f = sequence-fills (group_under tags s) (taken-of-fills s cs f)

  -- Nothing that fills comes before the sequence taken.
  pub taken-least : (s : ℕ) (cs : List Bool) → Fills (group_under tags s) cs → NotAfter (taken tags s) cs
  taken-least s cs f = sequence-first (group_under tags s) (taken-of-fills s cs f) cs f

  -- A sequence that fills, with nothing that fills before it, is the one taken.
  pub taken-unique : (s : ℕ) (cs : List Bool) → Fills (group_under tags s) cs
      → ((ds : List Bool) → Fills (group_under tags s) ds → NotAfter cs ds) → taken tags s ≡ cs
  taken-unique s cs f h = taken-of-some s (sequence-only (group_under tags s) cs f h)

  -- The seed found is the least under which anything fills.
  pub least_seed-some : (limit : ℕ) {s : ℕ} → least_seed tags limit ≡ Some s → LeastSeed tags limit s
  unfolding least_seed
  least_seed-some limit {s} e =
      let at = first_some (seed_test tags) limit e in
      let (cs, f) = feasible-fills (group_under tags s) at.holds in
      record {
        below = at.below;
        fills = taken-fills s cs f;
        not_after = taken-least s;
        passed = λ t lt. infeasible-none (group_under tags t) (at.lowest t lt);
      }

  -- Where none is found, nothing fills under any seed below the limit.
  pub least_seed-none : (limit : ℕ) → least_seed tags limit ≡ None → (t : ℕ) → t < limit → NoneFills tags t
  unfolding least_seed
  least_seed-none limit e t lt =
      infeasible-none (group_under tags t) (first-none (seed_test tags) limit e t lt)

  -- The least seed below the limit under which anything fills is the one found.
  pub least_seed-only : (limit s : ℕ) (cs : List Bool) → s < limit → Fills (group_under tags s) cs
      → ((t : ℕ) → t < s → NoneFills tags t) → least_seed tags limit ≡ Some s
  unfolding least_seed
  least_seed-only limit s cs below f passed =
      let fails : (t : ℕ) → t < s → seed_test tags t ≡ false = λ t lt. none-infeasible (group_under tags t) (passed t lt) in
      first_found (seed_test tags) limit s below (fills-feasible (group_under tags s) cs f) fails

  -- Where nothing fills under any seed below the limit, none is found.
  pub least_seed-out : (limit : ℕ) → ((t : ℕ) → t < limit → NoneFills tags t) → least_seed tags limit ≡ None
  unfolding least_seed
  least_seed-out limit out =
      first_out (seed_test tags) limit (λ t lt. none-infeasible (group_under tags t) (out t lt))

-- The empty sequence fills the empty group.
fills-empty : (s : ℕ) → Fills (group_under [] s) []
unfolding candidates chosen distinct
fills-empty s = record { whole = refl; apart = refl }

-- The empty group has seed 0.
pub least_seed-empty : (limit : ℕ) → 0 < limit → least_seed [] limit ≡ Some 0
least_seed-empty limit below = least_seed-only [] limit 0 [] below (fills-empty 0) (λ t lt. absurd (omega arith))

-- Of the empty group the empty sequence is taken, under every seed.
pub taken-empty : (s : ℕ) → taken [] s ≡ []
taken-empty s = go (taken [] s) (fills-length 0 s [] (taken-fills [] s [] (fills-empty s)))
  where
    go : (cs : List Bool) → length cs ≡ 0 → cs ≡ []
    go [] e = refl
    go (c ∷ cs) e = absurd (omega arith)
