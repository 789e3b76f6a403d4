-- The groups of a checked image are those that the cells hold, and they decide the strict check. Assumes nothing.
use Rattle.std.specs.Prelude.{ℕ, ◌+◌, ◌-◌, ◌≤◌, ◌<◌, ◌≡◌, List, [], ◌∷◌, length, get_or, drop, None, Some}
use Rattle.std.proofs.Math.Path.{sym}
use Rattle.std.proofs.Common.{◌∙◌, arith, length-take, length-drop, ext_get_or, get_or-take, get_or-drop}
use Rattle.refusal.specs.Outcome.{Outcome, answered, refused}
use Rattle.refusal.specs.Checks.{in_order}
use Rattle.lists.specs.First.{first}
use Rattle.lists.proofs.FirstLaws.{first_cong}
use Rattle.image.specs.View.{View, view_of, groups_in, start_in, seed_in, end_in}
use Rattle.image.specs.Checking.{checking_of}
use Rattle.image.proofs.SameNumbersLaws.{same_end}
use Rattle.slots.specs.Cells.{cells_view}
use Rattle.slots.specs.CellsLaws.{cells_count, cells-groups, cells-start, cells-seed, cells-slot, cells-end}
use Rattle.checking.specs.Steps.{Stated}
use Rattle.strict.specs.AsBuilt.{slots_in, not_as_built}
use Rattle.strict.specs.StrictCheck.{strict_check_of}
use Rattle.strict_condition.specs.Condition.{StrictCondition}
use Rattle.strict.proofs.HeldLaws.{all_fair, servable, slots-size, slots_at_lem, slot-below}
use Rattle.strict.proofs.StrictTheorem.{nineteen-decides, strict-condition}
use Rattle.image.proofs.FaultLaws.{end-most}
use Rattle.strict_checking.specs.Groups.{slots_at, differs_at, AllServable}

module _ (image : List ℕ) {groups : ℕ} {starts seeds tags : List ℕ} (accepted : checking_of image ≡ answered 0)
    (stated : Stated (view_of image) groups starts seeds tags) where
  abbrev v : View
  v = view_of image

  abbrev w : View
  w = cells_view starts seeds tags groups

  groups-is : groups_in v ≡ groups
  groups-is = stated.same.groups ∙ cells-groups starts seeds tags groups

  module _ (g : ℕ) (lt : g < groups) where
    below : g < groups_in v
    below = rw groups-is lt

    start_is : start_in v g ≡ get_or starts g 0
    start_is = stated.same.starts g below ∙ cells-start starts seeds tags groups g

    seed-is : seed_in v g ≡ get_or seeds g 0
    seed-is = stated.same.seeds g below ∙ cells-seed starts seeds tags groups g

    end_is : end_in v g ≡ get_or starts (g + 1) 0
    end_is = same_end v w stated.same g below ∙ cells-end starts seeds tags groups g lt

    ascends : get_or starts g 0 ≤ get_or starts (g + 1) 0
    ascends = omega (arith, (all_fair image accepted g below).ascends, start_is, end_is)

    inside : get_or starts (g + 1) 0 ≤ length tags
    inside =
        let most = end-most v (all_fair image accepted) g below in
        let count = stated.same.count ∙ cells_count starts seeds tags groups in
        omega (arith, most, end_is, count, stated.legal.count-legal, stated.tags-long)

    slots-are : slots_in v g ≡ slots_at starts tags g
    slots-are =
        let size = slots-size image accepted g below in
        ext_get_or 0 (slots_in v g) (slots_at starts tags g)
        (size ∙ rw (start_is, end_is) (sym (simp (length-take, length-drop) (omega (arith, ascends, inside)))))
        (λ p lp.
        let lp' : p < end_in v g - start_in v g = rw size at lp in
        let lp'' : p < get_or starts (g + 1) 0 - get_or starts g 0 = omega (arith, lp', start_is, end_is) in
        slots_at_lem image accepted g below p lp'
        ∙ stated.same.slots (start_in v g + p) (slot-below image accepted g below p lp')
        ∙ cells-slot starts seeds tags groups (start_in v g + p)
        ∙ rw start_is (sym (get_or-take _ (drop (get_or starts g 0) tags) p 0 lp'' ∙ get_or-drop (get_or starts g 0) tags p 0)))

  pub all-servable : AllServable starts seeds tags groups
  all-servable = record {
    groups-legal = stated.legal.groups-legal;
    tags-legal = omega (arith, stated.tags-long);
    ascends = ascends;
    inside = inside;
    servable = λ g lt. rw (seed-is g lt, slots-are g lt) at (servable image accepted g (below g lt));
  }

  -- So 19 is decided by the cells.
  pub cells-decide : strict_check_of image ≡ in_order ((19, first (differs_at starts seeds tags) groups) ∷ []) (answered 0)
  unfolding not_as_built
  cells-decide =
      let each = first_cong (not_as_built v) (differs_at starts seeds tags) groups (λ g lt. rw (seed-is g lt, slots-are g lt)) in
      nineteen-decides image accepted ∙ rw (groups-is, each)

  pub decided-at : {g : ℕ} → first (differs_at starts seeds tags) groups ≡ Some g → refused 19 g ≡ strict_check_of image
  unfolding in_order
  decided-at found = sym (cells-decide ∙ rw found)

  pub decided-nowhere : first (differs_at starts seeds tags) groups ≡ None → answered 0 ≡ strict_check_of image
  unfolding in_order
  decided-nowhere found = sym (cells-decide ∙ rw found)

-- What is owed of the definition is owed of an answer that equals it.
pub owed : (image : List ℕ) {outcome : Outcome ℕ} → outcome ≡ strict_check_of image → StrictCondition image outcome
owed image answer = rw answer (strict-condition image)
