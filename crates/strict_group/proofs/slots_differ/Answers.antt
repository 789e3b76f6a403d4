-- `strict_group::slots_differ` meets its contract: the cells have the group's slots when they are compared. Assumes nothing.
use mathlib.Core.Path.{sym, ◌∙◌, ap}
use mathlib.Core.Bool.{not}
use lib.ListN.{length}
use Rattle.group.specs.Group.{taken}
use Rattle.numbering.proofs.SlotsLaws.{slots_length}
use Rattle.strict.specs.Same.{same}
use Rattle.strict_group.proofs.slots_differ.Goals as goal

-- There is a cell for each slot, before and after.
pub shape_of-given : goal.shape_of-given
shape_of-given c =
    let tags = c.args.tags.now in
    let seed = c.args.seed in
    ap length c.arrange_group.ensures.cells ∙ slots_length tags seed (taken tags seed) ∙ sym c.requires.room-is

pub returns : goal.returns
returns c =
    let slots = c.args.slots.now in
    record { answer = ap not (c.same.ensures.answer ∙ ap (same slots) c.arrange_group.ensures.cells) }
