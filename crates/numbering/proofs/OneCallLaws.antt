-- "For every list, B, L and buffer, writing after planning leaves what building left": building, held against document 01's building in
-- one call. Assumes nothing.
use Rattle.std.specs.Prelude.{◌≡◌, ◌⊎◌, ℕ, ltb, length, Option, None, Some}
use Rattle.std.proofs.Math.Path.{refl}
use Rattle.std.proofs.Common.{sym, ◌∙◌, inl, inr}
use mathlib.Core.List.{List, [], ◌∷◌}
use Rattle.refusal.specs.Outcome.{Outcome, answered, refused, on_answer}
use Rattle.lists.specs.First.{first}
use Rattle.refusal.specs.Checks.{Check, met, in_order, Pass}
use Rattle.refusal.specs.ChecksBefore.{checks_before}
use Rattle.refusal.proofs.ChecksLaws.{in_order-append, in_order-pass}
use Rattle.image.specs.Sheet.{image_length}
use Rattle.numbering.specs.Planning.{too_large, seedless, size_check, seed_check, earlier_checks, planning_checks}
use Rattle.numbering.specs.Writing.{room_check, written}
use Rattle.numbering.specs.Building.{building_of, buffer_after}
use Rattle.numbering.proofs.BuildingLaws.{building-in-order, buffer-after}
use Rattle.numbering.specs.OneCall.{one_call_checks, one_call_of, one_call_after}

-- One check before two others or behind them: as long as one of the two places is not met, the outcome is the same,
module _ {A : Type 0} (o : Outcome A) where
  moved : (a b c : ℕ) (p q r : Option ℕ) → (p ≡ None) ⊎ ((q ≡ None) × (r ≡ None))
      → in_order ((a, p) ∷ (b, q) ∷ (c, r) ∷ []) o ≡ in_order ((b, q) ∷ (c, r) ∷ (a, p) ∷ []) o
  unfolding in_order
  moved a b c None None None h = refl
  moved a b c None None (Some k) h = refl
  moved a b c None (Some j) None h = refl
  moved a b c None (Some j) (Some k) h = refl
  moved a b c (Some i) None None h = refl
  moved a b c (Some i) None (Some k) (inl h) = cc
  moved a b c (Some i) None (Some k) (inr h) = cc h.1
  moved a b c (Some i) (Some j) None (inl h) = cc
  moved a b c (Some i) (Some j) None (inr h) = cc h.0
  moved a b c (Some i) (Some j) (Some k) (inl h) = cc
  moved a b c (Some i) (Some j) (Some k) (inr h) = cc h.0

-- and what is left is the same in every case.
module _ {A B : Type 0} (this : A → B) (that : B) where
  moved-left : (a : A) (i j k : ℕ) (p q r : Option ℕ)
      → on_answer (in_order ((i, p) ∷ (j, q) ∷ (k, r) ∷ []) (answered a)) this that
      ≡ on_answer (in_order ((j, q) ∷ (k, r) ∷ (i, p) ∷ []) (answered a)) this that
  unfolding in_order on_answer
  moved-left a i j k None None None = refl
  moved-left a i j k None None (Some z) = refl
  moved-left a i j k None (Some y) None = refl
  moved-left a i j k None (Some y) (Some z) = refl
  moved-left a i j k (Some x) None None = refl
  moved-left a i j k (Some x) None (Some z) = refl
  moved-left a i j k (Some x) (Some y) None = refl
  moved-left a i j k (Some x) (Some y) (Some z) = refl

  front-left : (front : List Check) (o p : Outcome A) → on_answer o this that ≡ on_answer p this that
      → on_answer (in_order front o) this that ≡ on_answer (in_order front p) this that
  unfolding in_order on_answer
  front-left [] o p same = same
  front-left ((number, None) ∷ front) o p same = front-left front o p same
  front-left ((number, Some place) ∷ front) o p same = refl

module _ (tags : List ℕ) (groups limit room : ℕ) where
  abbrev size : Outcome ℕ
  size = answered (image_length groups (length tags))

  -- 8, 4, 5, 6 and 17, which both begin with.
  abbrev pub front : List Check
  front = checks_before 9 (one_call_checks tags groups limit room)

  one-call-order : one_call_of tags groups limit room
      ≡ in_order front (in_order (room_check groups tags room ∷ size_check groups tags ∷ seed_check groups tags limit ∷ []) size)
  unfolding one_call_of one_call_checks
  one-call-order = in_order-append front (room_check groups tags room ∷ size_check groups tags ∷ seed_check groups tags limit ∷ []) size

  two-call-order : building_of tags groups limit room
      ≡ in_order front (in_order (size_check groups tags ∷ seed_check groups tags limit ∷ room_check groups tags room ∷ []) size)
  unfolding planning_checks earlier_checks one_call_checks
  two-call-order =
      building-in-order tags groups limit room
      ∙ in_order-append front (size_check groups tags ∷ seed_check groups tags limit ∷ room_check groups tags room ∷ []) size

  -- The answer is the same, except where 9 and one of 10 and 7 are both due:
  pub same_answer : (met (ltb room (image_length groups (length tags))) ≡ None)
      ⊎ ((first (too_large groups tags) groups ≡ None) × (first (seedless groups tags limit) groups ≡ None))
      → building_of tags groups limit room ≡ one_call_of tags groups limit room
  same_answer h = two-call-order ∙ sym (rw (moved size 9 10 7 _ _ _ h) at one-call-order)

  -- there one call answers 9, and the two in turn answer what planning does.
  pub both-due : Pass front → met (ltb room (image_length groups (length tags))) ≡ Some 0
      → (one_call_of tags groups limit room ≡ refused 9 0)
      × ((g : ℕ) → first (too_large groups tags) groups ≡ Some g → building_of tags groups limit room ≡ refused 10 g)
      × ((g : ℕ) → first (too_large groups tags) groups ≡ None → first (seedless groups tags limit) groups ≡ Some g
      → building_of tags groups limit room ≡ refused 7 g)
  unfolding in_order
  both-due passes short = (
    one-call-order ∙ in_order-pass front _ passes ∙ rw short,
    λ g large. two-call-order ∙ in_order-pass front _ passes ∙ rw large,
    λ g small without. two-call-order ∙ in_order-pass front _ passes ∙ rw (small, without),
  )

-- The bytes are the same on every input.
pub same_bytes : (tags : List ℕ) (groups limit : ℕ) (before : List ℕ)
    → buffer_after tags groups limit before ≡ one_call_after tags groups limit before
unfolding one_call_after written
same_bytes tags groups limit before =
    let room = length before in
    buffer-after tags groups limit before
    ∙ rw (two-call-order tags groups limit room, one-call-order tags groups limit room)
    (sym (front-left _ _ (front tags groups limit room) _ _ (moved-left _ _ (image_length groups (length tags)) 9 10 7 _ _ _)))

-- The law, whole: the two in turn held against building in one call.
pub record AsOneCall (tags : List ℕ) (groups limit : ℕ) (before : List ℕ) : Type 0 where
  pub bytes : buffer_after tags groups limit before ≡ one_call_after tags groups limit before
  pub answer : (met (ltb (length before) (image_length groups (length tags))) ≡ None)
      ⊎ ((first (too_large groups tags) groups ≡ None) × (first (seedless groups tags limit) groups ≡ None))
      → building_of tags groups limit (length before) ≡ one_call_of tags groups limit (length before)

pub as-one-call : (tags : List ℕ) (groups limit : ℕ) (before : List ℕ) → AsOneCall tags groups limit before
as-one-call tags groups limit before =
    record { bytes = same_bytes tags groups limit before; answer = same_answer tags groups limit (length before) }
