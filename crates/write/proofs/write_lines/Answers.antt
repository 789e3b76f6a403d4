-- `write::write_lines` meets its contract: after k turns the first k lines are written. Assumes nothing.
use Rattle.write.proofs.Lines.{lines_start, lines-kept, lines-room, lines-turn, lines-done}
use Rattle.write.proofs.write_lines.Goals as goal

pub loop-k-init : goal.loop-k-init
loop-k-init c = lines_start _ _ _ _ _ c.requires

pub write_line-requires : goal.write_line-requires
write_line-requires c =
    (lines-room _ _ _ _ _ c.requires c.loop-k.invariant, c.loop-k-test.true)

pub loop-k-preserved : goal.loop-k-preserved
loop-k-preserved c =
    lines-turn _ _ _ _ _ c.requires c.loop-k.invariant c.loop-k-test.true c.write_line.ensures.bytes

pub shape_of-buffer : goal.shape_of-buffer
shape_of-buffer c =
    lines-kept _ _ _ _ _ c.requires c.loop-k.invariant

pub returns : goal.returns
returns c = record { bytes = lines-done _ _ _ _ _ c.requires c.loop-k.invariant c.loop-k-test.false }
