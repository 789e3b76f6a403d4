-- `tagless_lookup::tagless_lookup` meets its contract: an image that does not open is refused so; in one that does, tag 0 is
-- unknown, and of any other tag its group decides. Condition 2 follows from the equation. Assumes nothing.
use mathlib.Core.Path.{sym, ◌∙◌, ap}
use Rattle.tagless_image.specs.Lookup.{tagless_lookup_of}
use Rattle.refusal.specs.Answer.{outcome}
use Rattle.tagless_opening.specs.OpeningLaws.{opening-answered}
use Rattle.tagless_lookup.proofs.StepsLaws.{lookup-unopened, lookup-nobody, lookup-opened}
use Rattle.tagless_lookup.proofs.CheckedLaws.{lookup-condition2}
use Rattle.tagless_lookup.proofs.tagless_lookup.Goals as goal

pub returns-then-tag-eq-UNWIRED : goal.returns-then-tag-eq-UNWIRED
returns-then-tag-eq-UNWIRED c =
    let a = c.args in
    let nobody = lookup-nobody a.image.now (sym c.open.ensures.answer ∙ ap outcome c.in-Ok.is) in
    let answer = sym (ap (tagless_lookup_of a.image.now) c.if-tag-eq-UNWIRED.true ∙ nobody) in
    record { answer = answer; checked = rw answer (lookup-condition2 a.image.now a.tag) }

pub in_group-requires : goal.in_group-requires
in_group-requires c =
    opening-answered _ (sym c.open.ensures.answer ∙ ap outcome c.in-Ok.is)

pub returns-else-tag-eq-UNWIRED : goal.returns-else-tag-eq-UNWIRED
returns-else-tag-eq-UNWIRED c =
    let a = c.args in
    let opens = sym c.open.ensures.answer ∙ ap outcome c.in-Ok.is in
    let answer = c.in_group.ensures.answer ∙ sym (lookup-opened a.image.now opens a.tag c.if-tag-eq-UNWIRED.false) in
    record { answer = answer; checked = rw answer (lookup-condition2 a.image.now a.tag) }

pub returns-in-Err : goal.returns-in-Err
returns-in-Err c =
    let a = c.args in
    let answer =
    sym (lookup-unopened a.image.now a.tag (sym c.open.ensures.answer ∙ ap outcome c.in-Err.is)) in
    record { answer = answer; checked = rw answer (lookup-condition2 a.image.now a.tag) }
