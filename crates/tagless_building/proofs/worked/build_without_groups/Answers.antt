-- `tagless_building::worked::build_without_groups` meets its contract, from the promise of `tagless_build`: B = 0 is out of range.
-- Assumes nothing.
use mathlib.Core.Path.{◌∙◌}
use native.Mathlib.Omega.{arith}
use Rattle.refusal.specs.Limits.{groups_max}
use Rattle.refusal.proofs.LimitsLaws.{outside_below}
use Rattle.refusal.proofs.ChecksLaws.{met-true}
use Rattle.tagless.specs.Building.{tagless_building_checks}
use Rattle.tagless.proofs.BuildingLaws.{building-refused, after-refused}
use Rattle.tagless_building.proofs.worked.build_without_groups.Goals as goal

pub returns : goal.returns
unfolding tagless_building_checks
returns c =
    let a = c.args in
    let outcome = building-refused a.tags.now 0 1 _ 8 tt (met-true (outside_below 1 groups_max 0 (omega arith))) in
    record {
      answer = c.tagless_build.ensures.answer ∙ outcome;
      kept = c.tagless_build.ensures.bytes
          ∙ after-refused a.tags.now 0 1 a.buffer.now outcome;
    }
