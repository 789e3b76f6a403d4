-- `write::write_line` meets its contract: each kind of line is written by its own writer. Assumes nothing.
use native.Mathlib.Omega.{arith}
use Rattle.write.proofs.Lines.{line-written, header-line, later-group, later-slot, line-room}
use Rattle.write.proofs.write_line.Goals as goal

pub write_pair_line-requires : goal.write_pair_line-requires
write_pair_line-requires c =
    line-room _ _ _ _ _ c.args.k c.requires.0 c.requires.1

pub returns-then-k-eq0 : goal.returns-then-k-eq0
returns-then-k-eq0 c =
    let a = c.args in
    record { bytes = line-written _ _ _ _ _ a.k _ (header-line _ _ _ _ _ a.k c.if-k-eq0.true) c.write_pair_line.ensures.bytes }

pub start_of-requires : goal.start_of-requires
start_of-requires c =
    let within = c.if-g-groups.true in
    (omega (arith, c.requires.0.ends-known), λ g lt. c.requires.0.ends-small g (omega arith))

pub write_pair_line-requires-then-g-groups : goal.write_pair_line-requires-then-g-groups
write_pair_line-requires-then-g-groups c =
    line-room _ _ _ _ _ c.args.k c.requires.0 c.requires.1

pub returns-then-g-groups : goal.returns-then-g-groups
returns-then-g-groups c =
    let a = c.args in
    record {
      bytes = line-written _ _ _ _ _ a.k _ (later-group _ _ _ _ _ a.k c.if-k-eq0.false c.if-g-groups.true c.start_of.ensures.answer)
          c.write_pair_line-then-g-groups.ensures.bytes;
    }

pub write_tag_line-requires : goal.write_tag_line-requires
write_tag_line-requires c =
    line-room _ _ _ _ _ c.args.k c.requires.0 c.requires.1

pub returns : goal.returns
returns c =
    let a = c.args in
    record {
      bytes = line-written _ _ _ _ _ a.k _ (later-slot _ _ _ _ _ a.k c.if-k-eq0.false c.if-g-groups.false) c.write_tag_line.ensures.bytes;
    }
