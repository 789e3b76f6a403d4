-- `tagless_building::image_length` meets its contract: line 0 and a line for each group. Assumes nothing.
use borrow.Author.Rules.{rules}
use Rattle.tagless_image.specs.Sheet.{tagless_length}
use Rattle.tagless_building.proofs.image_length.Goals as goal

pub returns : goal.returns
unfolding tagless_length
returns c = record { answer = search rules }
