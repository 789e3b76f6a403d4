-- What building gives a group's tags, and whether a group of an image has it. Document 02, §7. Assumes nothing.
use Rattle.std.specs.Prelude.{ℕ, ◌+◌, ◌-◌, Bool, not, ◌||◌, List, eqb, unwrap_or}
use Rattle.refusal.specs.Limits.{limit_max}
use Rattle.lists.specs.UpTo.{up_to}
use Rattle.sorting.specs.Sorted.{sorted}
use Rattle.group.specs.Group.{least_seed, taken}
use Rattle.image.specs.View.{View, start_in, seed_in, end_in, slot_in}
use Rattle.numbering.specs.GroupSlots.{group_slots}
use Rattle.strict.specs.Same.{same}

-- "each seed the least of all 65,536": what building gives a group's tags, lowest first. No tags are given seed 0.
unfoldable pub seed_given : List ℕ → ℕ
seed_given tags = unwrap_or (least_seed tags limit_max) 0

-- "each choice by the present order": the slots under that seed.
unfoldable pub slots_given : List ℕ → List ℕ
slots_given tags = group_slots tags (seed_given tags) (taken tags (seed_given tags))

-- A group's "seed or slots differ from what building gives its tags": those that stand in the slots, lowest first.
unfoldable pub differs : ℕ → List ℕ → Bool
differs seed slots = not (eqb seed (seed_given (sorted slots))) || not (same slots (slots_given (sorted slots)))

-- The tags in the slots of group g of an image, slot by slot.
unfoldable pub slots_in : View → ℕ → List ℕ
slots_in v g = up_to (end_in v g - start_in v g) (λ i. slot_in v (start_in v g + i))

-- Group g of an image is such a group. "Empty groups included, whose seed must be 0."
unfoldable pub not_as_built : View → ℕ → Bool
not_as_built v g = differs (seed_in v g) (slots_in v g)
