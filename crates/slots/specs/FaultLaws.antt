-- The walk through the slots: the fault of the slots up to one more, from that of the slots before it. Assumes nothing.
use Rattle.std.specs.Prelude.{◌≡◌, Bool, ℕ, ◌+◌, ◌<◌, Option, None, Some}
use Rattle.std.proofs.Math.Path.{refl}
use Rattle.std.proofs.Common.{◌∙◌, ap, add-one}
use Rattle.std.proofs.Math.Bool.{true, false}
use Rattle.std.specs.Option.{option_or}
use Rattle.lists.specs.First.{first, met_at}
use Rattle.lists.proofs.FirstLaws.{first-none, first_found}
use Rattle.image.specs.View.{View}
use Rattle.image.specs.Checking.{misplaced, repeated}
use Rattle.slots.specs.declared.SlotFault.{SlotFault}
use Rattle.slots.specs.declared.SlotFault.TheVariants.{Misplaced, Repeated}
use Rattle.slots.specs.Fault.{fault_of, or_repeated, fault_at, fault_before}

-- The walk has come to slot k: no slot before it is misplaced, and this is their fault.
pub record Walked (v : View) (fault : Option SlotFault) (k : ℕ) : Type 0 where
  pub placed : first (misplaced v) k ≡ None
  pub fault-is : fault ≡ fault_before v k

pub walk_start : (v : View) → Walked v None 0
unfolding fault_before first
walk_start v = record { placed = refl; fault-is = refl }

module _ (v : View) (k : ℕ) where
  -- What the fault of a slot says of it.
  at-misplaced : {j : ℕ} → fault_at v k ≡ Some (Misplaced j) → (misplaced v k ≡ true) × (j ≡ k)
  unfolding fault_at met_at
  at-misplaced {j} e = go (misplaced v k) (repeated v k) refl e
    where
      go : (p q : Bool) → misplaced v k ≡ p → fault_of (met_at k p) (met_at k q) ≡ Some (Misplaced j) → (misplaced v k ≡ true) × (j ≡ k)
      go true q f e = (f, cc)
      go false true f e = (cc, cc)
      go false false f e = (cc, cc)

  at-repeated : {j : ℕ} → fault_at v k ≡ Some (Repeated j) → (misplaced v k ≡ false) × (repeated v k ≡ true)
  unfolding fault_at met_at
  at-repeated {j} e = go (misplaced v k) (repeated v k) refl refl e
    where
      go : (p q : Bool) → misplaced v k ≡ p → repeated v k ≡ q → fault_of (met_at k p) (met_at k q) ≡ Some (Repeated j)
          → (misplaced v k ≡ false) × (repeated v k ≡ true)
      go true q f h e = (cc, cc)
      go false true f h e = (f, h)
      go false false f h e = (cc, cc)

  at-sound : fault_at v k ≡ None → (misplaced v k ≡ false) × (repeated v k ≡ false)
  unfolding fault_at met_at
  at-sound e = go (misplaced v k) (repeated v k) refl refl e
    where
      go : (p q : Bool) → misplaced v k ≡ p → repeated v k ≡ q → fault_of (met_at k p) (met_at k q) ≡ None
          → (misplaced v k ≡ false) × (repeated v k ≡ false)
      go true q f h e = (cc, cc)
      go false true f h e = (cc, cc)
      go false false f h e = (f, h)

  -- One slot more: a misplaced slot is the fault of all, another leaves the walk to go on.
  module _ (fault : Option SlotFault) (walked : Walked v fault k) where
    pub walk-found : (all : ℕ) → k < all → {j : ℕ} → fault_at v k ≡ Some (Misplaced j) → Some (Misplaced j) ≡ fault_before v all
    unfolding fault_before
    walk-found all below e =
        let (holds, same) = at-misplaced e in
        rw (same, first_found (misplaced v) all k below holds (first-none (misplaced v) k walked.placed))

    -- The fault by the slots that repeat a tag.
    module _ (placed : misplaced v k ≡ false) where
      next : {fault' : Option SlotFault} → fault' ≡ fault_of None (first (repeated v) (k + 1)) → Walked v fault' (k + 1)
      unfolding fault_before first met_at
      next e =
          let none_yet : first (misplaced v) (k + 1) ≡ None = rw (add-one, walked.placed, placed) in
          record { placed = none_yet; fault-is = e ∙ rw none_yet }

      fault-now : fault ≡ fault_of None (first (repeated v) k)
      unfolding fault_before
      fault-now = walked.fault-is ∙ rw walked.placed

    pub walk-repeated : {j : ℕ} → fault_at v k ≡ Some (Repeated j) → Walked v (or_repeated fault k) (k + 1)
    unfolding first met_at
    walk-repeated e =
        let (placed, again) = at-repeated e in
        next placed (ap (λ (f : Option SlotFault). or_repeated f k) (fault-now placed) ∙ rw (add-one, again) (go (first (repeated v) k)))
      where
        go : (o : Option ℕ) → or_repeated (fault_of None o) k ≡ fault_of None (option_or o (Some k))
        go None = refl
        go (Some i) = refl

    pub walk-on : fault_at v k ≡ None → Walked v fault (k + 1)
    unfolding first met_at
    walk-on e =
        let (placed, once) = at-sound e in
        next placed (fault-now placed ∙ rw (add-one, once) (go (first (repeated v) k)))
      where
        go : (o : Option ℕ) → fault_of None o ≡ fault_of None (option_or o None)
        go None = refl
        go (Some i) = refl
