-- What the sequence taken is, said without its search: it fills, nothing that fills comes before it, it is unique, and it exists
-- exactly when something fills. Callers use these laws, never the search. Assumes nothing.
use Rattle.std.specs.Prelude.{ℕ, ◌≤◌, ◌<◌, ◌≡◌, refl, Bool, true, false, cond, List, [], ◌∷◌, ltb, Option, None, Some}
use Rattle.std.proofs.Common.{sym, inl, inr, arith, ltb-true, ltb-false}
use Rattle.std.proofs.Math.Decide.{dec_lt}
use Rattle.lists.specs.First.{is_some}
use Rattle.filling.specs.Filling.{Key, place_by, Fills}
use Rattle.filling.specs.Order.{ones, LowestDecides, NotAfter}
use Rattle.filling.specs.Least.{feasible}
use Rattle.filling.proofs.LeastLaws.{fills-feasible, none-infeasible}
use Rattle.filling.proofs.SearchLaws.{FillsOver, FirstOf, Better, first-empty, first_key, first-fills}
use Rattle.filling.specs.Taken.{fewer_ones, taken_from, sequence_taken}

-- Two sequences of which neither comes after the other are one.
lowest-antisym : (cs ds : List Bool) → LowestDecides cs ds → LowestDecides ds cs → cs ≡ ds
unfolding LowestDecides
lowest-antisym [] [] p q = refl
lowest-antisym [] (d ∷ ds) p q = absurd q
lowest-antisym (c ∷ cs) [] p q = absurd p
lowest-antisym (false ∷ cs) (false ∷ ds) p q = rw (lowest-antisym cs ds p q)
lowest-antisym (false ∷ cs) (true ∷ ds) p q = absurd q
lowest-antisym (true ∷ cs) (false ∷ ds) p q = absurd p
lowest-antisym (true ∷ cs) (true ∷ ds) p q = rw (lowest-antisym cs ds p q)

pub not_after-antisym : (cs ds : List Bool) → NotAfter cs ds → NotAfter ds cs → cs ≡ ds
unfolding NotAfter
not_after-antisym cs ds (inl p) (inl q) = absurd (omega arith)
not_after-antisym cs ds (inl p) (inr q) = absurd (omega arith)
not_after-antisym cs ds (inr p) (inl q) = absurd (omega arith)
not_after-antisym cs ds (inr p) (inr q) = lowest-antisym cs ds p.1 q.1

-- What does not come after has no more ones,
pub not_after-ones : (cs ds : List Bool) → NotAfter cs ds → ones cs ≤ ones ds
unfolding NotAfter
not_after-ones cs ds (inl p) = omega arith
not_after-ones cs ds (inr p) = omega arith

-- and between equals the lowest key decides.
pub not_after-lowest : (cs ds : List Bool) → NotAfter cs ds → ones cs ≡ ones ds → LowestDecides cs ds
unfolding NotAfter
not_after-lowest cs ds (inl p) e = absurd (omega arith)
not_after-lowest cs ds (inr p) e = p.1

-- The same choice before both changes nothing.
not_after-cons : (c : Bool) (cs ds : List Bool) → NotAfter cs ds → NotAfter (c ∷ cs) (c ∷ ds)
unfolding NotAfter LowestDecides ones
not_after-cons c cs ds (inl p) = inl (omega arith)
not_after-cons false cs ds (inr p) = inr (omega arith, p.1)
not_after-cons true cs ds (inr p) = inr (omega arith, p.1)

-- Choice 0 comes before choice 1 where it has no more ones.
not_after-first : (cs ds : List Bool) → ones (false ∷ cs) ≤ ones (true ∷ ds) → NotAfter (false ∷ cs) (true ∷ ds)
unfolding NotAfter LowestDecides
not_after-first cs ds le = go (dec_lt (ones (false ∷ cs)) (ones (true ∷ ds)))
  where
    go : Dec (ones (false ∷ cs) < ones (true ∷ ds)) → NotAfter (false ∷ cs) (true ∷ ds)
    go (yes lt) = inl lt
    go (no n) = inr (omega (arith, n), tt)

-- Of the first that begins with choice 0 and the first that begins with choice 1, the one with fewer ones is the first of all.
fewer_ones-better : Better NotAfter fewer_ones
unfolding fewer_ones NotAfter ones
fewer_ones-better P nil None None h₀ h₁ = elim [ [] ↦ λ p. nil p | false ∷ ds ↦ λ p. h₀ ds p | true ∷ ds ↦ λ p. h₁ ds p ]
fewer_ones-better P nil None (Some es) h₀ h₁ = (
  h₁.0,
  elim [
    | [] ↦ λ p. absurd (nil p)
    | false ∷ ds ↦ λ p. absurd (h₀ ds p)
    | true ∷ ds ↦ λ p. not_after-cons true es ds (h₁.1 ds p)
  ],
)
fewer_ones-better P nil (Some cs) None h₀ h₁ = (
  h₀.0,
  elim [
    | [] ↦ λ p. absurd (nil p)
    | false ∷ ds ↦ λ p. not_after-cons false cs ds (h₀.1 ds p)
    | true ∷ ds ↦ λ p. absurd (h₁ ds p)
  ],
)
fewer_ones-better P nil (Some cs) (Some es) h₀ h₁ = go _ refl
  where
    go : (b : Bool) → ltb (ones (true ∷ es)) (ones (false ∷ cs)) ≡ b
        → FirstOf NotAfter P (cond b (Some (true ∷ es)) (Some (false ∷ cs)))
    go true e = (
      h₁.0,
      elim [
        | [] ↦ λ p. absurd (nil p)
        | false ∷ ds ↦ λ p. inl (omega (arith, ltb-true (ones (true ∷ es)) (ones (false ∷ cs)) e, not_after-ones cs ds (h₀.1 ds p)))
        | true ∷ ds ↦ λ p. not_after-cons true es ds (h₁.1 ds p)
      ],
    )
    go false e = (
      h₀.0,
      elim [
        | [] ↦ λ p. absurd (nil p)
        | false ∷ ds ↦ λ p. not_after-cons false cs ds (h₀.1 ds p)
        | true ∷ ds ↦ λ p.
            not_after-first cs ds
            (omega (arith, ltb-false (ones (true ∷ es)) (ones (false ∷ cs)) e, not_after-ones es ds (h₁.1 ds p)))
      ],
    )

-- The search over the places used so far.
taken_from-is : (used : List ℕ) (keys : List Key) → FirstOf NotAfter (FillsOver used keys) (taken_from used keys)
unfolding taken_from NotAfter LowestDecides
taken_from-is used [] = first-empty NotAfter (inr (refl, tt)) used
taken_from-is used (key ∷ keys) =
    first_key NotAfter fewer_ones fewer_ones-better used key keys (λ c. taken_from (place_by c key ∷ used) keys)
    (λ c. taken_from-is (place_by c key ∷ used) keys)

sequence-is : (keys : List Key) → FirstOf NotAfter (Fills keys) (sequence_taken keys)
unfolding sequence_taken
sequence-is keys = first-fills NotAfter keys (taken_from [] keys) (taken_from-is [] keys)

-- "it fills"
pub sequence-fills : (keys : List Key) {cs : List Bool} → sequence_taken keys ≡ Some cs → Fills keys cs
sequence-fills keys e = (rw e at (sequence-is keys)).0

-- "nothing that fills comes before it"
pub sequence-first : (keys : List Key) {cs : List Bool} → sequence_taken keys ≡ Some cs → (ds : List Bool) → Fills keys ds
    → NotAfter cs ds
sequence-first keys e = (rw e at (sequence-is keys)).1

-- "it is unique": what fills, with nothing that fills before it, is the sequence taken.
pub sequence-only : (keys : List Key) (cs : List Bool) → Fills keys cs
    → ((ds : List Bool) → Fills keys ds → NotAfter cs ds) → sequence_taken keys ≡ Some cs
sequence-only keys cs f h = go (sequence_taken keys) (sequence-is keys)
  where
    go : (o : Option (List Bool)) → FirstOf NotAfter (Fills keys) o → o ≡ Some cs
    go None n = absurd (n cs f)
    go (Some ds) l = rw (not_after-antisym ds cs (l.1 cs f) (h ds l.0))

-- "it exists exactly when something fills"
pub sequence-none : (keys : List Key) → sequence_taken keys ≡ None → (cs : List Bool) → Fills keys cs → ⊥
sequence-none keys e = rw e at (sequence-is keys)

pub sequence-exists : (keys : List Key) → is_some (sequence_taken keys) ≡ feasible keys
unfolding is_some
sequence-exists keys = go (sequence_taken keys) (sequence-is keys)
  where
    go : (o : Option (List Bool)) → FirstOf NotAfter (Fills keys) o → is_some o ≡ feasible keys
    go None n = sym (none-infeasible keys n)
    go (Some cs) l = sym (fills-feasible keys cs l.0)

-- Of no keys the empty sequence is taken.
pub sequence-empty : sequence_taken [] ≡ Some []
unfolding sequence_taken taken_from
sequence-empty = refl
