-- `claim::build_then_look_up` meets its contract: what is looked up in is the image, and there lookup answers what the list says.
-- Assumes nothing.
use mathlib.Core.Path.{sym, ◌∙◌, ap}
use native.Mathlib.Omega.{arith}
use lib.Seq.{length-take-le}
use Rattle.refusal.specs.Answer.{outcome}
use Rattle.condition3_theorem.specs.Condition3Theorem.{tags-of-words}
use Rattle.claim.proofs.ClaimLaws.{claim-refused, written-within, claim-found}
use Rattle.claim.proofs.build_then_look_up.Goals as goal

pub slice_bounds-lookup-end : goal.slice_bounds-lookup-end
slice_bounds-lookup-end c =
    let a = c.args in
    let outcome = sym c.build.ensures.answer ∙ ap outcome c.in-Ok.is in
    written-within a.tags.now a.groups a.limit a.buffer.now a.tag c.build.ensures.bytes outcome

pub slice_bounds-lookup-end-in-Ok : goal.slice_bounds-lookup-end-in-Ok
slice_bounds-lookup-end-in-Ok c =
    let a = c.args in
    let outcome = sym c.build.ensures.answer ∙ ap outcome c.in-Ok.is in
    sym (length-take-le _ _
    (written-within a.tags.now a.groups a.limit a.buffer.now a.tag c.build.ensures.bytes outcome))

pub returns-in-Ok : goal.returns-in-Ok
returns-in-Ok c =
    let a = c.args in
    let e = c.build.ensures in
    let outcome = sym e.answer ∙ ap outcome c.in-Ok.is in
    let words = tags-of-words a.tags.now (λ i. omega (arith, c.type_inv.tags i)) in
    record {
      answer = c.lookup.ensures.answer ∙ claim-found a.tags.now a.groups a.limit a.buffer.now a.tag words e.bytes outcome;
      plan = e.plan;
      bytes = e.bytes;
      condition3 = rw e.answer at e.condition3;
    }

pub returns-in-Err : goal.returns-in-Err
returns-in-Err c =
    let a = c.args in
    let e = c.build.ensures in
    let outcome = sym e.answer ∙ ap outcome c.in-Err.is in
    record {
      answer = sym (claim-refused a.tags.now a.groups a.limit a.buffer.now a.tag outcome);
      plan = e.plan;
      bytes = e.bytes;
      condition3 = rw e.answer at e.condition3;
    }
