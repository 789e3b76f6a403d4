-- `tagless_opening::read_start_and_seed` meets its contract: the line of group g stands behind line 0 and those of lower groups.
-- Assumes nothing.
use Rattle.tagless_image.specs.View.{group_line_at, stated_at, tagless_view}
use Rattle.tagless_opening.proofs.read_start_and_seed.Goals as goal

pub returns : goal.returns
unfolding tagless_view stated_at group_line_at
returns c = record { answer = c.read_start_and_seed.ensures.answer }
