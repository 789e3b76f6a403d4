-- `lookup::group_end` meets its contract: the last group ends at N, and any other where the next group's line says.
-- Assumes nothing.
use mathlib.Core.Path.{sym}
use Rattle.std.specs.Prelude.{None, Some}
use Prim.Native.Nat.{suc, ◌+◌}
use native.Mathlib.Omega.{arith}
use Rattle.text.specs.Line.{group_line}
use Rattle.text.proofs.LineLaws.{line_said}
use Rattle.lookup.specs.StepsLaws.{end-of-last, end-of-next}
use Rattle.lookup.proofs.group_end.Goals as goal

pub returns-then-next-groups : goal.returns-then-next-groups
returns-then-next-groups c = record { answer = sym (end-of-last c.args.image.now c.requires.opens c.args.g (omega arith)) }

pub returns-in_default : goal.returns-in_default
returns-in_default c =
    let image = c.args.image.now in
    record {
      answer = sym (end-of-next image c.requires.opens c.args.g (omega (arith, c.if-next-groups.false, c.requires.g_lt_groups)) None
          (line_said group_line image (1 + (c.args.g + 1)) (suc (suc c.args.g))
          c.read_group_line.ensures.answer c.in_default.is (omega arith)));
    }

pub returns : goal.returns
returns c =
    let image = c.args.image.now in
    record {
      answer = sym (end-of-next image c.requires.opens c.args.g (omega (arith, c.if-next-groups.false, c.requires.g_lt_groups)) (Some _)
          (line_said group_line image (1 + (c.args.g + 1)) (suc (suc c.args.g))
          c.read_group_line.ensures.answer c.in-Some.is (omega arith)));
    }
