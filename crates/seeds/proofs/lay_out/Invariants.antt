-- What the loops of `seeds::lay_out` keep true. Assumes nothing.
use Prim.Native.Nat.{◌≤◌}
use mathlib.Core.Path.{◌≡◌}
use mathlib.Core.Bool.{true, false}
use lib.ListN.{length, take}
use Rattle.group.specs.Group.{group_under}
use Rattle.places.specs.Array.{places_by}
use Rattle.seeds.specs.Occupancy.{occupancy}
use Rattle.seeds.proofs.lay_out.Given as goal

abbrev pub invariant-loop-i : goal.invariant-loop-i
invariant-loop-i l =
    (l.i ≤ length l.tags)
    × (l.first ≡ occupancy (places_by false (take l.i (group_under l.tags l.seed))))
    × (l.second ≡ occupancy (places_by true (take l.i (group_under l.tags l.seed))))
