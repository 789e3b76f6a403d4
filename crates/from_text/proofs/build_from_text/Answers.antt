-- `from_text::build_from_text` meets its contract: what reading refuses is refused, and a list that is read is built from the cells.
-- Assumes nothing.
use Rattle.std.specs.Prelude.{refl}
use Rattle.std.proofs.Common.{sym, arith}
use Rattle.refusal.proofs.OutcomeLaws.{refused-of-by}
use Rattle.refusal.proofs.AnswerLaws.{passed_up}
use Rattle.list.specs.Answer.{head_of}
use Rattle.from_text.specs.PromiseLaws.{read-into, promised-unread, promised-read}
use Rattle.from_text.proofs.build_from_text.Goals as goal

pub returns-in_err-groups : goal.returns-in_err-groups
returns-in_err-groups c =
    let all = promised-unread _ _ (refused-of-by head_of _ (sym c.in_err-groups.ensures.answer)) refl in
    rw (passed_up _ _ c.from_residual.ensures) record { answer = all.0; bytes = all.1.0; condition3 = all.1.1 }

pub slice_bounds-cells-end : goal.slice_bounds-cells-end
slice_bounds-cells-end c = omega (arith, (read-into _ _ c.in_ok-groups.ensures.answer c.in_ok-groups.ensures.cells).fits)

pub slice_bounds-build-end : goal.slice_bounds-build-end
slice_bounds-build-end c = (read-into _ _ c.in_ok-groups.ensures.answer c.in_ok-groups.ensures.cells).counted

pub returns : goal.returns
returns c =
    let e = c.build.ensures in
    let read = (read-into _ _ c.in_ok-groups.ensures.answer c.in_ok-groups.ensures.cells).outcome in
    let all = promised-read _ _ read (e.answer, (e.plan, (e.bytes, e.condition3))) in
    record { answer = all.0; bytes = all.1.0; condition3 = all.1.1 }
