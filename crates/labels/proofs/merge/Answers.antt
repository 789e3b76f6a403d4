-- `labels::merge` meets its contract: a turn changes one label more. Assumes nothing.
use Prim.Native.Nat.{◌<◌}
use mathlib.Core.Path.{◌≡◌, refl, ◌∙◌, ap}
use native.Mathlib.Omega.{arith}
use lib.ListN.{length, get_or}
use Rattle.graph.specs.Label.{merged}
use Rattle.labels.specs.LabelsLaws.{changed-next, changed-turn, changed-done}
use Rattle.labels.proofs.merge.Goals as goal

pub loop-cell-init : goal.loop-cell-init
loop-cell-init c = (omega arith, refl)

pub loop-cell-preserved : goal.loop-cell-preserved
loop-cell-preserved c =
    let a = c.args in
    let f = merged a.into a.from in
    let before = a.labels.now in
    let v = c.loop-cell.cell in
    let inside : v < length before = omega (arith, c.requires) in
    let value : c.merged.result ≡ f (get_or before v 0) =
    c.merged.ensures.answer ∙ ap f (ap (λ labels. get_or labels v 0) c.loop-cell.invariant.1 ∙ changed-next f before v inside) in
    (omega arith, rw (value, c.loop-cell.invariant.1) (changed-turn f before v inside))

pub returns : goal.returns
returns c =
    let at = c.loop-cell in
    record { cells = at.invariant.1 ∙ changed-done _ _ at.cell (omega (arith, c.requires)) }
