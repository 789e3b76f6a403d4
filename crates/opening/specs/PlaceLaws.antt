-- How far the place of a refusal of checking or lookup can lie: below the number of lines that an image may have. Assumes nothing.
use Rattle.std.specs.Prelude.{◌≡◌, false, cond, not, List, [], ◌∷◌, ℕ, suc, ◌+◌, ◌-◌, ◌<◌, eqb, ltb}
use Rattle.std.proofs.Common.{arith, ltb-false}
use Rattle.std.proofs.lemmas.Bool.{eqb-false}
use Rattle.refusal.specs.Limits.{tags_max, groups_max, unwired}
use Rattle.refusal.specs.Outcome.{Outcome, answered}
use Rattle.lists.proofs.BoolLaws.{neither-of-or}
use Rattle.lists.specs.First.{met_at, is_some}
use Rattle.refusal.specs.Checks.{in_order}
use Rattle.refusal.proofs.ChecksLaws.{◌then◌, passed, in_order-pass, in_order-append, false-of-met_at}
use Rattle.hash.specs.Formula.{group_of}
use Rattle.hash.proofs.FormulaLaws.{group-below, place-below}
use Rattle.image.specs.View.{View, view_of, count_in, groups_in, start_in, end_in, seed_in, slot_line_in, slot_in, faulty, candidate_in}
use Rattle.image.specs.Checking.{opening_checks, malformed_in, holds_unwired, misplaced, repeated, number_checks, checking_checks}
use Rattle.image.specs.Checking.{checking_of}
use Rattle.image.proofs.FaultLaws.{fair-of-faulty}
use Rattle.image.specs.Lookup.{Found, number, unknown, group_checks, lookup_checks, at_slot, lookup_in_group, lookup_of}
use Rattle.opening.specs.Opening.{opening_of, Opens}
use Rattle.opening.specs.OpeningLaws.{opening-answered}
use Rattle.refusal.proofs.PlaceLaws.{PlaceBelow, below-checks, below-cond, met_at-below, met-below, first_below}

-- An image has at most 1 + 512 + 4,096 lines.
abbrev pub image_lines : ℕ
image_lines = 1 + groups_max + tags_max

-- Behind the opening checks, which name no place, N and B are known to be in their ranges.
opened-place : {A : Type 0} (image : List ℕ) (o : Outcome A)
    → (Opens image (count_in (view_of image)) (groups_in (view_of image)) → PlaceBelow image_lines o)
    → PlaceBelow image_lines (in_order (opening_checks (view_of image)) o)
unfolding opening_checks opening_of
opened-place image o h =
    below-checks image_lines (opening_checks (view_of image)) o
    ((λ _. met-below image_lines _ (omega arith))
    then (λ _. met-below image_lines _ (omega arith))
    then (λ _. met-below image_lines _ (omega arith))
    then tt)
    (λ passes. h (opening-answered image (in_order-pass (opening_checks (view_of image)) _ passes)))

-- The place of a refusal of checking.
pub checking-place : (image : List ℕ) → PlaceBelow image_lines (checking_of image)
unfolding checking_of checking_checks number_checks
checking-place image =
    let v = view_of image in
    rw (in_order-append {A = ℕ} (opening_checks v) _ _)
    (opened-place image _ (λ opens.
    below-checks {A = ℕ} image_lines _ _
    ((λ _. first_below image_lines (malformed_in v) _ (omega (arith, opens.count-legal, opens.groups-legal)))
    then (λ _. first_below image_lines (holds_unwired v) _ (omega (arith, opens.count-legal)))
    then (λ _. first_below image_lines _ (groups_in v) (omega (arith, opens.groups-legal)))
    then (λ _. first_below image_lines (misplaced v) _ (omega (arith, opens.count-legal)))
    then (λ _. first_below image_lines (repeated v) _ (omega (arith, opens.count-legal)))
    then tt)
    (λ _. tt)))

-- A slot looked at names its line.
slot-place : (v : View) (t j : ℕ) (next : Outcome Found) → slot_line_in v j < image_lines → PlaceBelow image_lines next
    → PlaceBelow image_lines (at_slot v t j next)
unfolding at_slot
slot-place v t j next lt h =
    below-checks image_lines ((12, met_at (slot_line_in v j) (not (is_some (v.slot_at (slot_line_in v j))))) ∷ []) _
    ((λ _. met_at-below image_lines (slot_line_in v j) _ lt) then tt)
    (λ _. below-cond image_lines (eqb (slot_in v j) t) (answered (number j)) next (λ _. tt) (λ _. h))

-- The place of a refusal of a lookup in the tag's group, and of any lookup.
group-place : (image : List ℕ) (t : ℕ) → PlaceBelow image_lines (lookup_in_group (view_of image) t (group_of (groups_in (view_of image)) t))
unfolding lookup_in_group lookup_checks group_checks candidate_in slot_line_in
group-place image t =
    rw (in_order-append (opening_checks v) _ _)
    (opened-place image _ (λ opens.
    let lt = group-below (groups_in v) t opens.groups-some in
    below-checks image_lines (group_checks v g) _
    ((λ _. met_at-below image_lines (suc g) _ (omega (arith, opens.groups-legal)))
    then (λ _. met_at-below image_lines (suc (suc g)) _ (omega (arith, opens.groups-legal)))
    then (λ _. met_at-below image_lines g _ (omega (arith, opens.groups-legal)))
    then tt)
    (λ passes.
    let regular = false-of-met_at g _ (passed (group_checks v g) passes 13) in
    slots opens (neither-of-or (faulty g (start_in v g) (end_in v g)) (ltb (count_in v) (end_in v g)) regular))))
  where
    v : View
    v = view_of image

    g : ℕ
    g = group_of (groups_in v) t

    slots : Opens image (count_in v) (groups_in v)
        → (faulty g (start_in v g) (end_in v g) ≡ false) × (ltb (count_in v) (end_in v g) ≡ false)
        → PlaceBelow image_lines (cond (eqb (start_in v g) (end_in v g)) (answered unknown)
        (at_slot v t (candidate_in v g 0 t) (at_slot v t (candidate_in v g 1 t) (answered unknown))))
    slots opens (fair, within) =
        below-cond image_lines (eqb (start_in v g) (end_in v g)) _ _ (λ _. tt) (λ some.
        let ascends = (fair-of-faulty g (start_in v g) (end_in v g) fair).ascends in
        let filled = eqb-false (start_in v g) (end_in v g) some in
        let line : (c : ℕ) → slot_line_in v (candidate_in v g c t) < image_lines = λ c.
        omega (
          arith,
          opens.count-legal,
          opens.groups-legal,
          ltb-false (count_in v) (end_in v g) within,
          place-below (end_in v g - start_in v g) (seed_in v g) c t (omega arith),
        ) in
        slot-place v t _ _ (line 0) (slot-place v t _ _ (line 1) tt))

pub lookup-place : (image : List ℕ) (t : ℕ) → PlaceBelow image_lines (lookup_of image t)
unfolding lookup_of
lookup-place image t =
    below-cond image_lines (eqb t unwired) _ _ (λ _. opened-place image (answered unknown) (λ _. tt)) (λ _. group-place image t)
