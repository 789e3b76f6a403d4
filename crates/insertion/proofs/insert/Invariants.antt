-- What the loops of `insertion::insert` keep true. Assumes nothing.
use Prim.Native.Nat.{◌<◌}
use Rattle.refusal.specs.Limits.{group_max}
use Rattle.insertion.specs.InsertedLaws.{Inserting}
use Rattle.insertion.proofs.insert.Given as goal

abbrev pub invariant-loop-word : goal.invariant-loop-word
invariant-loop-word l =
    (l.place < group_max) × Inserting l.places l.k l.word l.choices l.place l.evictions

abbrev pub decreases-loop-word : goal.decreases-loop-word
decreases-loop-word l = l.evictions
