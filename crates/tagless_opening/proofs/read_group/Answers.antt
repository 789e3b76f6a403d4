-- `tagless_opening::read_group` meets its contract: the line of group g stands behind line 0 and those of lower groups. Assumes nothing.
use Rattle.tagless_image.specs.View.{group_line_at, stated_at}
use Rattle.tagless_opening.proofs.read_group.Goals as goal

pub returns : goal.returns
unfolding stated_at group_line_at
returns c = record { answer = c.read_word_line.ensures.answer }
