-- `tagless_write::write_group` meets its contract: the group's start, seed and word are written as its line. Assumes nothing.
use native.Mathlib.Omega.{arith}
use Rattle.tagless_image.specs.Sheet.{tagless_length}
use Rattle.tagless_write.specs.Stated.{stated_sheet}
use Rattle.tagless_write.proofs.write_group.Goals as goal

pub start_of-requires : goal.start_of-requires
start_of-requires c = (omega (arith, c.requires.0.ends-known), λ g lt. c.requires.0.ends-small g (omega arith))

pub write_word_line-requires : goal.write_word_line-requires
unfolding tagless_length
write_word_line-requires c = omega (arith, c.requires.0.room-enough)

pub returns : goal.returns
unfolding stated_sheet
returns c = record { bytes = rw (c.write_word_line.ensures.bytes, c.start_of.ensures.answer) }
