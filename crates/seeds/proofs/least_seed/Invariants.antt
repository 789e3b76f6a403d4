-- What the loops of `seeds::least_seed` keep true. Assumes nothing.
use Prim.Native.Nat.{◌+◌, ◌*◌, ◌-◌}
use Rattle.seeds.proofs.Turns.{Passed}
use Rattle.seeds.proofs.Turns.{Turn}
use Rattle.seeds.proofs.least_seed.Given as goal

abbrev pub invariant-evict : goal.invariant-evict
invariant-evict l =
    Turn l.tags l.s l.places l.others l.seated l.place l.other l.left

abbrev pub decreases-evict : goal.decreases-evict
decreases-evict l =
    (l.n - l.seated) * 128 + l.left

abbrev pub invariant-seeds : goal.invariant-seeds
invariant-seeds l = Passed l.tags l.limit l.initial.places l.places l.next

abbrev pub decreases-seeds : goal.decreases-seeds
decreases-seeds l = l.limit - l.next
