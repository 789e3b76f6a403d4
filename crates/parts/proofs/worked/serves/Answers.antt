-- `parts::worked::serves` meets its contract: by the condition of `count_parts` an answer agrees with the first test, and a group that
-- passes the checks is not refused. Assumes nothing.
use mathlib.Core.Path.{refl}
use Rattle.parts.proofs.worked.serves.Goals as goal

pub returns-in-Ok : goal.returns-in-Ok
returns-in-Ok c = record { answer = λ checks. (c.in-Ok.ensures.condition.counted _ refl).first-test }
