-- `calls_group::worked::serves` meets its contract: by the condition of `count_parts` an odd answer says that some sequence fills.
-- Assumes nothing.
use Rattle.calls_group.proofs.PartsLaws.{odd-serves}
use Rattle.calls_group.proofs.worked.serves.Goals as goal

pub returns : goal.returns
returns c = record { answer = odd-serves _ _ _ c.count_parts.ensures.condition }
