-- The numbers of the image that the cells hold, and its groups. Assumes nothing.
use Rattle.std.specs.Prelude.{◌≡◌, Bool, true, false, List, [], ltb, get_or}
use Rattle.std.proofs.Math.Path.{refl}
use Rattle.std.proofs.Common.{◌∙◌, ap, add-one, ltb-true, ltb-false}
use Prim.Native.Nat.{ℕ, suc, ◌+◌, ◌-◌, ◌≤◌, ◌<◌}
use native.Mathlib.Omega.{arith}
use Rattle.refusal.specs.Limits.{tags_max}
use Rattle.image.specs.View.{View, count_in, groups_in, start_in, seed_in, end_in, slot_line_in, slot_in}
use Rattle.image.specs.Fair.{AllFair}
use Rattle.image.proofs.FaultLaws.{end-next, end-last, end-most}
use Rattle.slots.specs.Cells.{cells_view, Regular}

module _ (starts seeds tags : List ℕ) (groups : ℕ) where
  pub cells_count : count_in (cells_view starts seeds tags groups) ≡ get_or starts groups 0
  unfolding count_in cells_view
  cells_count = refl

  pub cells-groups : groups_in (cells_view starts seeds tags groups) ≡ groups
  unfolding groups_in cells_view
  cells-groups = refl

  pub cells-start : (g : ℕ) → start_in (cells_view starts seeds tags groups) g ≡ get_or starts g 0
  unfolding start_in cells_view
  cells-start g = let k : suc g - 1 ≡ g = omega arith in rw k

  pub cells-seed : (g : ℕ) → seed_in (cells_view starts seeds tags groups) g ≡ get_or seeds g 0
  unfolding seed_in cells_view
  cells-seed g = let k : suc g - 1 ≡ g = omega arith in rw k

  pub cells-slot : (j : ℕ) → slot_in (cells_view starts seeds tags groups) j ≡ get_or tags j 0
  unfolding slot_in slot_line_in groups_in cells_view
  cells-slot j = let k : 1 + groups + j - (1 + groups) ≡ j = omega arith in rw k

  -- A group ends at the cell behind its start.
  pub cells-end : (g : ℕ) → g < groups → end_in (cells_view starts seeds tags groups) g ≡ get_or starts (g + 1) 0
  cells-end g below = go (ltb (suc g) groups) refl
    where
      v : View
      v = cells_view starts seeds tags groups

      go : (b : Bool) → ltb (suc g) groups ≡ b → end_in v g ≡ get_or starts (g + 1) 0
      go true e = end-next v g (omega (arith, ltb-true (suc g) groups e, cells-groups)) ∙ cells-start (suc g) ∙ rw add-one
      go false e =
          let last : groups ≡ g + 1 = omega (arith, ltb-false (suc g) groups e) in
          end-last v g (omega (arith, ltb-false (suc g) groups e, cells-groups)) ∙ cells_count ∙ ap (λ (k : ℕ). get_or starts k 0) last

  pub cells-fair : Regular starts seeds groups → AllFair (cells_view starts seeds tags groups)
  cells-fair regular g below =
      let own : g < groups = omega (arith, cells-groups) in
      rw (cells-start g, cells-end g own) (regular.fair g own)

-- Where a group ends, in the cells of an image: not before its start, and at N or before.
pub record Ends (starts : List ℕ) (groups g : ℕ) : Type 0 where
  pub ascends : get_or starts g 0 ≤ get_or starts (g + 1) 0
  pub most : get_or starts (g + 1) 0 ≤ get_or starts groups 0
  pub legal : get_or starts groups 0 ≤ tags_max

pub group-ends : (starts seeds : List ℕ) (groups : ℕ) → Regular starts seeds groups → (g : ℕ) → g < groups → Ends starts groups g
group-ends starts seeds groups regular g below =
    let v = cells_view starts seeds [] groups in
    let most = end-most v (cells-fair starts seeds [] groups regular) g (omega (arith, cells-groups starts seeds [] groups)) in
    record {
      ascends = (regular.fair g below).ascends;
      most = omega (arith, most, cells-end starts seeds [] groups g below, cells_count starts seeds [] groups);
      legal = regular.legal.count-legal;
    }
