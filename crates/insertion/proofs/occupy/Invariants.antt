-- What the loop of `insertion::occupy` keeps true. Assumes nothing.
use Prim.Native.Nat.{◌≤◌}
use Rattle.insertion.specs.Occupants.{Occupied}
use Rattle.insertion.proofs.occupy.Given as goal

abbrev pub invariant-loop-i : goal.invariant-loop-i
invariant-loop-i l = (l.i ≤ l.count) × Occupied l.places l.word l.i l.occupants
