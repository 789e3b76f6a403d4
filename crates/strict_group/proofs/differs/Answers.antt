-- `strict_group::differs` meets its contract: no tags are given seed 0, and others are sorted and placed. Assumes nothing.
use mathlib.Core.Path.{◌≡◌, sym, ◌∙◌, ap}
use lib.ListN.{length, take}
use Rattle.sorting.specs.Sorted.{sorted}
use Rattle.sorting.proofs.SortedLaws.{sorted-length}
use Rattle.strict_group.specs.PlacedLaws.{no-tags-differ, sorted_front, sorted-inside}
use Rattle.strict_group.proofs.differs.Goals as goal
use Rattle.strict_group.proofs.differs.Goals.{After-sort_into}

pub returns-then-slots-eq0 : goal.returns-then-slots-eq0
returns-then-slots-eq0 c =
    let a = c.args in
    record { answer = sym (no-tags-differ a.seed a.slots.now c.if-slots-eq0.true) }

-- The first cells have the tags of the slots, lowest first.
tags-sorted : (c : After-sort_into)
    → (let slots = c.args.slots.now in take (length slots) c.sort_into.new.cells ≡ sorted slots)
tags-sorted c = sorted_front c.args.slots.now _ c.sort_into.ensures.cells

pub slice_bounds-tags-end : goal.slice_bounds-tags-end
slice_bounds-tags-end c = sorted-inside c.args.slots.now _ c.sort_into.ensures.cells

pub slice_bounds-placed_otherwise-end : goal.slice_bounds-placed_otherwise-end
slice_bounds-placed_otherwise-end c =
    sym (ap length (tags-sorted (goal.at.slice_bounds-placed_otherwise-end c).After-sort_into) ∙ sorted-length c.args.slots.now)

pub placed_otherwise-requires : goal.placed_otherwise-requires
placed_otherwise-requires c =
    record { servable = c.requires; tags_value = tags-sorted (goal.at.placed_otherwise-requires c).After-sort_into }
