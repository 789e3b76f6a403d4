-- `labels::merged` meets its contract: the label that is merged becomes the other, and any other stays. Assumes nothing.
use mathlib.Core.Path.{sym}
use Rattle.graph.proofs.ConnectedLaws.{merged-from, merged-other}
use Rattle.labels.proofs.merged.Goals as goal

pub returns-then-label-from : goal.returns-then-label-from
returns-then-label-from c =
    let a = c.args in
    record { answer = sym (merged-from a.into a.from a.label c.if-label-from.true) }

pub returns-else-label-from : goal.returns-else-label-from
returns-else-label-from c =
    let a = c.args in
    record { answer = sym (merged-other a.into a.from a.label c.if-label-from.false) }
