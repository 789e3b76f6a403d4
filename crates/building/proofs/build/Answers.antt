-- `building::build` meets its contract: it is planning, and behind an answer of planning it is writing with that plan. Assumes nothing.
use Rattle.std.specs.Prelude.{refl}
use Rattle.std.proofs.Common.{sym, arith}
use Rattle.refusal.proofs.AnswerLaws.{passed_up}
use Rattle.building.specs.PromiseLaws.{promised-written, promised-unplanned}
use Rattle.building.proofs.build.Goals as goal

pub returns-in_err-plan_list : goal.returns-in_err-plan_list
returns-in_err-plan_list c =
    let a = c.args in
    let all = promised-unplanned a.tags.now a.groups a.limit a.buffer.now (λ i. omega (arith, c.type_inv.tags i))
    c.in_err-plan_list.ensures.plan (sym c.in_err-plan_list.ensures.answer) refl in
    rw (passed_up _ _ c.from_residual.ensures) record {
      answer = all.0;
      plan = all.1.0;
      bytes = all.1.1.0;
      condition3 = all.1.1.1;
    }

pub returns : goal.returns
returns c =
    let a = c.args in
    let all = promised-written a.tags.now a.groups a.limit a.buffer.now (λ i. omega (arith, c.type_inv.tags i))
    c.in_ok-plan_list.ensures.plan (sym c.in_ok-plan_list.ensures.answer) c.write_list.ensures.answer c.write_list.ensures.bytes in
    record { answer = all.0; plan = all.1.0; bytes = all.1.1.0; condition3 = all.1.1.1 }
