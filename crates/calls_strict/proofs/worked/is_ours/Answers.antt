-- `calls_strict::worked::is_ours` meets its contract, from the condition that `strict_check` promises. Assumes nothing.
use Rattle.calls_strict.specs.StrictLaws.{zero-ours}
use Rattle.calls_strict.proofs.worked.is_ours.Goals as goal

pub returns : goal.returns
returns c =
    let image = c.args.image.now in
    record { answer = zero-ours image c.strict_check.result c.strict_check.ensures.condition }
