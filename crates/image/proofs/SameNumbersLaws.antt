-- Behind its lines an image is checked by the numbers that they state alone. Assumes nothing.
use Rattle.image.specs.SameNumbers.{SameNumbers}
use Rattle.std.specs.Prelude.{◌≡◌, Bool, true, false, ◌&&◌, ℕ, suc, ◌<◌, Option, None, Some, unwrap_or}
use Rattle.std.proofs.Math.Path.{refl, ap}
use Rattle.std.proofs.Common.{sym, ◌∙◌, arith, ltb-true, ltb-false}
use Rattle.std.proofs.Math.Dec.{leb, ltb}
use Rattle.lists.specs.First.{first, is_some}
use Rattle.lists.proofs.FirstLaws.{first_some, first_cong}
use Rattle.image.specs.View.{View, count_in, groups_in, start_in, end_in, slot_in, faulty, candidate_in}
use Rattle.image.specs.Checking.{group_of_slot, holds_unwired, misplaced, repeated}
use Rattle.image.proofs.FaultLaws.{end-next, end-last}

module _ (v w : View) (same : SameNumbers v w) where
  pub same_end : (g : ℕ) → g < groups_in v → end_in v g ≡ end_in w g
  same_end g below = go (ltb (suc g) (groups_in v)) refl
    where
      go : (b : Bool) → ltb (suc g) (groups_in v) ≡ b → end_in v g ≡ end_in w g
      go true e =
          let next = ltb-true (suc g) (groups_in v) e in
          end-next v g next ∙ same.starts (suc g) next ∙ sym (end-next w g (omega (arith, same.groups)))
      go false e =
          let last = ltb-false (suc g) (groups_in v) e in
          end-last v g last ∙ same.count ∙ sym (end-last w g (omega (arith, same.groups)))

  pub same-faulty : first (λ g. faulty g (start_in v g) (end_in v g)) (groups_in v)
      ≡ first (λ g. faulty g (start_in w g) (end_in w g)) (groups_in w)
  same-faulty =
      first_cong _ _ (groups_in v) (λ g below. rw (same.starts g below, same_end g below))
      ∙ ap (first (λ g. faulty g (start_in w g) (end_in w g))) same.groups

  -- The group of a slot is the same, and is one of the groups.
  same-group : (j : ℕ) → group_of_slot v j ≡ group_of_slot w j
  unfolding group_of_slot
  same-group j =
      ap (λ (o : Option ℕ). unwrap_or o 0)
      (first_cong _ _ (groups_in v) (λ g below. rw (same.starts g below, same_end g below))
      ∙ ap (first (λ g. leb (start_in w g) j && ltb j (end_in w g))) same.groups)

  group-below : (j : ℕ) → group_of_slot v j < groups_in v
  unfolding group_of_slot
  group-below j = go (first (λ g. leb (start_in v g) j && ltb j (end_in v g)) (groups_in v)) refl
    where
      go : (o : Option ℕ) → first (λ g. leb (start_in v g) j && ltb j (end_in v g)) (groups_in v) ≡ o → unwrap_or o 0 < groups_in v
      go None e = same.some-group
      go (Some g) e = (first_some _ (groups_in v) e).below

  same-candidate : (g c t : ℕ) → g < groups_in v → candidate_in v g c t ≡ candidate_in w g c t
  unfolding candidate_in
  same-candidate g c t below = rw (same.starts g below, same_end g below, same.seeds g below)

  same-misplaced-at : (j : ℕ) → j < count_in v → misplaced v j ≡ misplaced w j
  unfolding misplaced
  same-misplaced-at j below =
      let g = group_of_slot v j in
      let t = slot_in v j in
      rw (same-candidate g 0 t (group-below j), same-candidate g 1 t (group-below j), same.groups, same.slots j below, same-group j)

  same-repeated-at : (j : ℕ) → j < count_in v → repeated v j ≡ repeated w j
  unfolding repeated
  same-repeated-at j below =
      ap is_some
      (first_cong _ _ j (λ i lower.
      rw (same.starts (group_of_slot v j) (group-below j), same-group j, same.slots i (omega arith), same.slots j below)))

  same-unwired-at : (j : ℕ) → j < count_in v → holds_unwired v j ≡ holds_unwired w j
  unfolding holds_unwired
  same-unwired-at j below = rw (same.slots j below)

  pub same-unwired : first (holds_unwired v) (count_in v) ≡ first (holds_unwired w) (count_in w)
  same-unwired = first_cong (holds_unwired v) (holds_unwired w) (count_in v) same-unwired-at ∙ ap (first (holds_unwired w)) same.count

  pub same-misplaced : first (misplaced v) (count_in v) ≡ first (misplaced w) (count_in w)
  same-misplaced = first_cong (misplaced v) (misplaced w) (count_in v) same-misplaced-at ∙ ap (first (misplaced w)) same.count

  pub same-repeated : first (repeated v) (count_in v) ≡ first (repeated w) (count_in w)
  same-repeated = first_cong (repeated v) (repeated w) (count_in v) same-repeated-at ∙ ap (first (repeated w)) same.count
