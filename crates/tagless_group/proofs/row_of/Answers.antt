-- `tagless_group::row_of` meets its contract: the tag times the seed's multiplier is its row. Assumes nothing.
use Rattle.tagless_group.specs.Row.{row_of}
use Rattle.tagless_group.proofs.row_of.Goals as goal

pub returns : goal.returns
unfolding row_of
returns c = record { answer = cc }
