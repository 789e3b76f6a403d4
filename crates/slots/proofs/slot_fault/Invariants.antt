-- What the loops of `slots::slot_fault` keep true. Assumes nothing.
use mathlib.Core.List.{List}
use Prim.Native.Nat.{ℕ, ◌+◌, ◌-◌, ◌≤◌, ◌<◌}
use lib.ListN.{get_or}
use Rattle.std.specs.Prelude.{Option}
use Rattle.slots.specs.declared.SlotFault.{SlotFault}
use Rattle.slots.specs.Cells.{cells_view}
use Rattle.slots.specs.FaultLaws.{Walked}
use Rattle.slots.proofs.slot_fault.Given as goal

-- The walk has come to slot j, of group g.
pub record At (starts seeds tags : List ℕ) (groups : ℕ) (fault : Option SlotFault) (g j : ℕ) : Type 0 where
  pub within : g ≤ groups
  pub above : get_or starts g 0 ≤ j
  pub upto : g < groups → j ≤ get_or starts (g + 1) 0
  pub most : j ≤ get_or starts groups 0
  pub walked : Walked (cells_view starts seeds tags groups) fault j

abbrev pub invariant-loop-j : goal.invariant-loop-j
invariant-loop-j l = (l.initial.j ≤ l.j) × At l.starts l.seeds l.tags l.groups l.fault l.g l.j

abbrev pub decreases-loop-j : goal.decreases-loop-j
decreases-loop-j l = l.end - l.j

abbrev pub invariant-loop-g : goal.invariant-loop-g
invariant-loop-g l = At l.starts l.seeds l.tags l.groups l.fault l.g l.j

abbrev pub decreases-loop-g : goal.decreases-loop-g
decreases-loop-g l = l.groups - l.g + (get_or l.starts l.groups 0 - l.j)
