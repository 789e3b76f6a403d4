-- `tag_index::tag_index_lookup` meets its contract: the answer is the outcome's, and a refusal's place is a line or a group.
-- Assumes nothing.
use mathlib.Core.Path.{sym, ◌∙◌, ap}
use Prim.Native.Nat.{ℕ}
use native.Mathlib.Omega.{arith}
use Rattle.refusal.specs.Outcome.{Outcome, answered_by}
use Rattle.image.specs.Lookup.{Found}
use Rattle.lookup.specs.Answer.{lookup_outcome}
use Rattle.refusal.proofs.PlaceLaws.{place-below}
use Rattle.answer64.specs.Answer64.{answer64, found_number}
use Rattle.tag_index.specs.Calls.{lookup_answer}
use Rattle.tag_index.specs.Condition2Laws.{answered-condition2}
use Rattle.opening.specs.PlaceLaws.{image_lines, lookup-place}
use Rattle.tag_index.proofs.tag_index_lookup.Goals as goal

-- What an outcome of lookup answers.
abbrev answer_of : Outcome Found → ℕ
answer_of o = answer64 (answered_by found_number o)

pub refusal_answer-requires : goal.refusal_answer-requires
refusal_answer-requires c =
    let a = c.args in
    let refused = sym c.lookup.ensures.answer ∙ ap lookup_outcome c.in-Refused.is in
    omega (arith, place-below image_lines (lookup-place a.image.now a.tag) refused)

pub returns-in-Number : goal.returns-in-Number
unfolding lookup_answer answer64 answered_by found_number
returns-in-Number c =
    let a = c.args in
    let is = ap answer_of (sym (ap lookup_outcome c.in-Number.is) ∙ c.lookup.ensures.answer) in
    let p = answered-condition2 a.image.now a.tag is in
    record { answer = p.0; checked = p.1 }

pub returns-in-Unknown : goal.returns-in-Unknown
unfolding lookup_answer answer64 answered_by found_number
returns-in-Unknown c =
    let a = c.args in
    let is = ap answer_of (sym (ap lookup_outcome c.in-Unknown.is) ∙ c.lookup.ensures.answer) in
    let p = answered-condition2 a.image.now a.tag is in
    record { answer = p.0; checked = p.1 }

pub returns-in-Refused : goal.returns-in-Refused
unfolding lookup_answer answer64 answered_by
returns-in-Refused c =
    let a = c.args in
    let is = c.refusal_answer.ensures.answer ∙ ap answer_of (sym (ap lookup_outcome c.in-Refused.is) ∙ c.lookup.ensures.answer) in
    let p = answered-condition2 a.image.now a.tag is in
    record { answer = p.0; checked = p.1 }
