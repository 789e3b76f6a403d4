-- What the loops of `candidates::lay` keep true. Assumes nothing.
use Prim.Native.Nat.{◌≤◌}
use mathlib.Core.Path.{◌≡◌}
use mathlib.Core.List.{map}
use lib.ListN.{length}
use lib.Seq.{paste}
use Rattle.hash.specs.Formula.{hashed}
use Rattle.candidates.proofs.lay.Given as goal

abbrev pub invariant-loop-i : goal.invariant-loop-i
invariant-loop-i l =
    (l.i ≤ length l.tags) × (l.places ≡ paste l.initial.places l.from (map (hashed l.multiplier l.n) l.tags) l.i)
