-- `writing::image_length` meets its contract: it is the definition. Assumes nothing.
use native.Mathlib.Omega.{arith}
use Rattle.image.specs.Sheet.{image_length}
use Rattle.writing.proofs.image_length.Goals as goal

pub returns : goal.returns
unfolding image_length
returns c = record { answer = omega arith }
