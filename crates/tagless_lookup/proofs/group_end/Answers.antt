-- `tagless_lookup::group_end` meets its contract: the last group ends at N, and any other where the next group's line says.
-- Assumes nothing.
use mathlib.Core.Path.{sym, ◌∙◌}
use native.Mathlib.Omega.{arith}
use native.Mathlib.Numerals.{add-one}
use Rattle.tagless_lookup.proofs.StepsLaws.{end-of-last, end-of-malformed, end-of-next}
use Rattle.tagless_lookup.proofs.group_end.Goals as goal

pub returns-then-next-groups : goal.returns-then-next-groups
returns-then-next-groups c = record { answer = sym (end-of-last c.args.image.now c.requires.tagless_opens c.args.g (omega arith)) }

pub returns-in_default : goal.returns-in_default
returns-in_default c =
    let image = c.args.image.now in
    record {
      answer = sym
          (end-of-malformed image c.requires.tagless_opens c.args.g (omega (arith, c.if-next-groups.false, c.requires.g_lt_groups))
          (rw add-one at (sym c.read_start_and_seed.ensures.answer ∙ c.in_default.is)));
    }

pub returns : goal.returns
returns c =
    let image = c.args.image.now in
    record {
      answer = sym (end-of-next image c.requires.tagless_opens c.args.g (omega (arith, c.if-next-groups.false, c.requires.g_lt_groups))
          (rw add-one at (sym c.read_start_and_seed.ensures.answer ∙ c.in-Some.is)));
    }
