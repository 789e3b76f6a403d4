-- `from_text::plan_from_text` meets its contract: what reading refuses is refused, with zeros, and a list that is read is planned from
-- the cells. Assumes nothing.
use Rattle.std.specs.Prelude.{refl}
use Rattle.std.proofs.Common.{sym, arith}
use Rattle.refusal.proofs.OutcomeLaws.{refused-of-by}
use Rattle.list.specs.Answer.{head_of}
use Rattle.from_text.specs.PromiseLaws.{read-into, plan-unread, plan-read}
use Rattle.from_text.proofs.plan_from_text.Goals as goal

pub slice_bounds-cells-end : goal.slice_bounds-cells-end
slice_bounds-cells-end c = omega (arith, (read-into _ _ c.in-Ok.ensures.answer c.in-Ok.ensures.cells).fits)

pub slice_bounds-plan_list-end : goal.slice_bounds-plan_list-end
slice_bounds-plan_list-end c = (read-into _ _ c.in-Ok.ensures.answer c.in-Ok.ensures.cells).counted

pub returns-in-Ok : goal.returns-in-Ok
returns-in-Ok c =
    let e = c.plan_list.ensures in
    let read = (read-into _ _ c.in-Ok.ensures.answer c.in-Ok.ensures.cells).outcome in
    let all = plan-read _ read (e.answer, (e.plan, e.condition3)) in
    record { answer = all.0; plan = all.1.0; condition3 = all.1.1 }

pub returns-in-Err : goal.returns-in-Err
returns-in-Err c =
    let all = plan-unread _ (refused-of-by head_of _ (sym c.in-Err.ensures.answer)) refl in
    record { answer = all.0; plan = all.1.0; condition3 = all.1.1 }
