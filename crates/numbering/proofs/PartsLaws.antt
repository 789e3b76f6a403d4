-- Where the parts of the ordered tags begin, how long they are, and a part taken from where the one before it ends. Assumes nothing.
use Prim.Native.Nat.{ℕ, zero, suc, ◌-◌, ◌≤◌, ◌<◌}
use Rattle.std.specs.Prelude.{◌≡◌, List, length, get_or, take, drop}
use native.Mathlib.Omega.{arith}
use Rattle.std.proofs.Common.{length-take, length-drop}
use Rattle.numbering.specs.Parts.{part_start, part_of, Parts}

module _ {groups : ℕ} {ordered ends : List ℕ} (p : Parts groups ordered ends) where
  -- Every part begins within the ordered tags, and so does what comes after the last.
  pub start-inside : (g : ℕ) → g ≤ groups → part_start ends g ≤ length ordered
  unfolding part_start
  start-inside zero le = omega arith
  start-inside (suc g) le = p.inside g (omega arith)

  -- A part is as long as from its start to its end.
  pub part_length : (g : ℕ) → g < groups → length (part_of ordered ends g) ≡ get_or ends g 0 - part_start ends g
  unfolding part_of
  part_length g lt = simp (length-take, length-drop) (omega (arith, p.follow g lt, p.inside g lt))

  module _ {start : ℕ} (g : ℕ) (start_is : start ≡ part_start ends g) where
    -- What is taken from a part's start to its end is the part,
    pub part-is : take (get_or ends g 0 - start) (drop start ordered) ≡ part_of ordered ends g
    unfolding part_of
    part-is = rw start_is

    -- which begins no later than it ends, and ends within the tags.
    pub part-bounds : g < groups → (start ≤ get_or ends g 0) × (get_or ends g 0 ≤ length ordered)
    part-bounds lt = (rw start_is (p.follow g lt), p.inside g lt)
