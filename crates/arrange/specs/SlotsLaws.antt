-- The slots of the first groups: those of one group more, how many they are, and which tag stands where. Assumes nothing.
use Prim.Native.Nat.{ℕ, zero, suc, ◌≤◌}
use Rattle.std.specs.Prelude.{◌≡◌, get_or}
use Rattle.std.proofs.Math.Path.{refl, ap}
use mathlib.Core.List.{List, [], ◌++◌, flatten}
use native.Mathlib.Omega.{arith}
use Rattle.std.proofs.Math.ListN.{length}
use Rattle.std.proofs.Common.{length-append, length-drop}
use Rattle.lists.specs.UpTo.{up_to}
use Rattle.lists.proofs.UpToLaws.{flatten-more}
use Rattle.group.specs.Group.{taken}
use Rattle.numbering.specs.Parts.{part_start, part_of, Parts}
use Rattle.numbering.proofs.PartsLaws.{start-inside, part_length}
use Rattle.arrange.specs.Arrange.{slots_of_part, all_slots, slots_into}
use Rattle.numbering.proofs.SlotsLaws.{slots_length as group_slots-length}

module _ (ordered ends seeds : List ℕ) where
  -- The slots of no group are none.
  pub slots-none : all_slots ordered ends seeds 0 ≡ []
  unfolding all_slots up_to flatten
  slots-none = refl

  -- The slots of one group more stand at the end.
  pub slots-more : (g : ℕ) → all_slots ordered ends seeds (suc g) ≡ all_slots ordered ends seeds g ++ slots_of_part ordered ends seeds g
  unfolding all_slots
  slots-more g = flatten-more g (slots_of_part ordered ends seeds)

module _ {groups : ℕ} {ordered ends : List ℕ} (p : Parts groups ordered ends) (seeds : List ℕ) where
  -- The slots of the first groups are as many as their tags.
  pub slots_length : (g : ℕ) → g ≤ groups → length (all_slots ordered ends seeds g) ≡ part_start ends g
  unfolding part_start slots_of_part
  slots_length zero le = ap length (slots-none ordered ends seeds)
  slots_length (suc g) le =
      rw (slots-more ordered ends seeds g, length-append)
      (omega (
        arith,
        slots_length g (omega arith),
        group_slots-length (part_of ordered ends g) (get_or seeds g 0) (taken (part_of ordered ends g) (get_or seeds g 0)),
        part_length p g (omega arith),
        p.follow g (omega arith),
      ))

  -- Cells that begin with the slots of the first groups, and are else as they were, keep their number.
  pub slots_kept : (g : ℕ) → g ≤ groups → (before : List ℕ) → length ordered ≤ length before
      → length (slots_into ordered ends seeds g before) ≡ length before
  unfolding slots_into
  slots_kept g le before room = simp (length-append, length-drop) (omega (arith, slots_length g le, start-inside p g le))
