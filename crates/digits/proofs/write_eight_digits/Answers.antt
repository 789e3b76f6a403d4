-- `digits::write_eight_digits` meets its contract: the bytes of the word are the digits, stored one behind another.
-- Assumes nothing.
use mathlib.Core.Path.{◌∙◌}
use native.Mathlib.Omega.{arith}
use lib.ListN.{length-set}
use Rattle.digits.proofs.DigitsLaws.{word_bytes}
use Rattle.digits.proofs.Stores.{eight-written}
use Rattle.digits.proofs.write_eight_digits.Goals as goal

pub bounds-buffer-at-2 : goal.bounds-buffer-at-2
bounds-buffer-at-2 c = simp length-set (omega arith)

pub bounds-buffer-at-3 : goal.bounds-buffer-at-3
bounds-buffer-at-3 c = simp length-set (omega arith)

pub bounds-buffer-at-4 : goal.bounds-buffer-at-4
bounds-buffer-at-4 c = simp length-set (omega arith)

pub bounds-buffer-at-5 : goal.bounds-buffer-at-5
bounds-buffer-at-5 c = simp length-set (omega arith)

pub bounds-buffer-at-6 : goal.bounds-buffer-at-6
bounds-buffer-at-6 c = simp length-set (omega arith)

pub bounds-buffer-at-7 : goal.bounds-buffer-at-7
bounds-buffer-at-7 c = simp length-set (omega arith)

pub bounds-buffer-at-8 : goal.bounds-buffer-at-8
bounds-buffer-at-8 c = simp length-set (omega arith)

pub shape_of-buffer : goal.shape_of-buffer
shape_of-buffer c = simp length-set

pub returns : goal.returns
returns c =
    record {
      bytes = eight-written c.args.buffer.now c.args.at _ _ _ _ _ _ _ _ c.requires.0
          ∙ rw (word_bytes c.args.n c.eight_digits-word.result c.eight_digits-word.ensures.answer);
    }
