-- `from_text::write_from_text` meets its contract: what reading refuses is refused, and a list that is read is written from the cells.
-- Assumes nothing.
use Rattle.std.specs.Prelude.{refl}
use Rattle.std.proofs.Common.{sym, arith}
use Rattle.refusal.proofs.OutcomeLaws.{refused-of-by}
use Rattle.refusal.proofs.AnswerLaws.{passed_up}
use Rattle.list.specs.Answer.{head_of}
use Rattle.from_text.specs.PromiseLaws.{read-into, write-unread, write_read}
use Rattle.from_text.proofs.write_from_text.Goals as goal

pub returns-in_err-listed : goal.returns-in_err-listed
returns-in_err-listed c =
    let all = write-unread _ _ _ (refused-of-by head_of _ (sym c.in_err-listed.ensures.answer)) refl in
    rw (passed_up _ _ c.from_residual.ensures) record { answer = all.0; bytes = all.1.0; condition3 = all.1.1 }

pub slice_bounds-cells-end : goal.slice_bounds-cells-end
slice_bounds-cells-end c = omega (arith, (read-into _ _ c.in_ok-listed.ensures.answer c.in_ok-listed.ensures.cells).fits)

pub slice_bounds-write_list-end : goal.slice_bounds-write_list-end
slice_bounds-write_list-end c = (read-into _ _ c.in_ok-listed.ensures.answer c.in_ok-listed.ensures.cells).counted

pub returns : goal.returns
returns c =
    let e = c.write_list.ensures in
    let read = (read-into _ _ c.in_ok-listed.ensures.answer c.in_ok-listed.ensures.cells).outcome in
    let all = write_read _ _ _ read (e.answer, (e.bytes, e.condition3)) in
    record { answer = all.0; bytes = all.1.0; condition3 = all.1.1 }
