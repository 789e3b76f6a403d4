-- Lookup as it is defined meets Condition 2. Assumes nothing.
use Rattle.std.specs.Prelude.{List, ℕ}
use Rattle.image.specs.Lookup.{lookup_of}
use Rattle.image.proofs.CheckedLookupLaws.{checked-lookup}
use Rattle.lookup.specs.Condition2.{Condition2}

-- Lookup as defined meets it.
pub lookup-condition2 : (image : List ℕ) (t : ℕ) → Condition2 image t (lookup_of image t)
lookup-condition2 image t = record {
  finds = λ accepted. (checked-lookup image accepted t).finds;
  misses = λ accepted. (checked-lookup image accepted t).misses;
}
