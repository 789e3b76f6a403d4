-- `tagless_building::worked::build_one_group` meets its contract, from the condition that `tagless_build` promises. Assumes nothing.
use Rattle.tagless_building.proofs.worked.build_one_group.Goals as goal

pub returns : goal.returns
returns c = record { checked = λ size e. (c.tagless_build.ensures.condition.accepted size e).checked }
