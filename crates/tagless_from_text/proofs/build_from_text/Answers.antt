-- `tagless_from_text::build_from_text` meets its contract: what reading refuses is refused, and a list that is read is built from the
-- cells. Assumes nothing.
use Rattle.std.specs.Prelude.{refl}
use Rattle.std.proofs.Common.{sym, arith}
use Rattle.refusal.proofs.OutcomeLaws.{refused-of-by}
use Rattle.list.specs.Answer.{head_of}
use Rattle.from_text.specs.PromiseLaws.{read-into}
use Rattle.tagless_from_text.specs.PromiseLaws.{promised-unread, promised-read}
use Rattle.tagless_from_text.proofs.build_from_text.Goals as goal

pub slice_bounds-cells-end : goal.slice_bounds-cells-end
slice_bounds-cells-end c = omega (arith, (read-into _ _ c.in-Ok.ensures.answer c.in-Ok.ensures.cells).fits)

pub slice_bounds-tagless_build-end : goal.slice_bounds-tagless_build-end
slice_bounds-tagless_build-end c = (read-into _ _ c.in-Ok.ensures.answer c.in-Ok.ensures.cells).counted

pub returns-in-Ok : goal.returns-in-Ok
returns-in-Ok c =
    let built = c.tagless_build.ensures in
    let read = (read-into _ _ c.in-Ok.ensures.answer c.in-Ok.ensures.cells).outcome in
    let p = promised-read _ _ read (built.answer, (built.bytes, built.condition)) in
    record { answer = p.0; bytes = p.1.0; condition = p.1.1 }

pub returns-in-Err : goal.returns-in-Err
returns-in-Err c =
    let p = promised-unread _ _ (refused-of-by head_of _ (sym c.in-Err.ensures.answer)) refl in
    record { answer = p.0; bytes = p.1.0; condition = p.1.1 }
