-- A group does not differ exactly where its seed and its slots are those that its tags are given. Assumes nothing.
use Rattle.std.specs.Prelude.{ℕ, ◌≡◌, Bool, true, false, not, ◌||◌, List, eqb}
use Rattle.std.proofs.Common.{eqb-true, eq-eqb}
use Rattle.std.proofs.lemmas.Bool.{not-false}
use Rattle.lists.proofs.BoolLaws.{neither-of-or}
use Rattle.sorting.specs.Sorted.{sorted}
use Rattle.strict.specs.Same.{same}
use Rattle.strict.proofs.SameLaws.{equal-of-same, same-equal}
use Rattle.strict.specs.AsBuilt.{seed_given, slots_given, differs}

-- Neither of two tests fails where both are passed.
neither : (a b : Bool) → a ≡ true → b ≡ true → (not a || not b) ≡ false
neither a b e f = rw (e, f)

pub as-given : (seed : ℕ) (slots : List ℕ) → seed ≡ seed_given (sorted slots) → slots ≡ slots_given (sorted slots)
    → differs seed slots ≡ false
unfolding differs
as-given seed slots e f =
    neither (eqb seed (seed_given (sorted slots))) (same slots (slots_given (sorted slots))) (eq-eqb seed (seed_given (sorted slots)) e)
    (same-equal slots (slots_given (sorted slots)) f)

pub given-of : (seed : ℕ) (slots : List ℕ) → differs seed slots ≡ false
    → (seed ≡ seed_given (sorted slots)) × (slots ≡ slots_given (sorted slots))
unfolding differs
given-of seed slots e =
    let seeds = eqb seed (seed_given (sorted slots)) in
    let alike = same slots (slots_given (sorted slots)) in
    let (first, second) = neither-of-or (not seeds) (not alike) e in (
      eqb-true seed (seed_given (sorted slots)) (not-false seeds first),
      equal-of-same slots (slots_given (sorted slots)) (not-false alike second),
    )
