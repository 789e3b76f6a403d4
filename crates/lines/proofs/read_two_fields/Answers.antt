-- `lines::read_two_fields` meets its contract: the fields are cut off, or they are read whole. Assumes nothing.
use mathlib.Core.Path.{◌∙◌}
use Rattle.text.proofs.PartLaws.{part-some, part-none}
use Rattle.lines.proofs.CutOff.{fields-short, fields-whole}
use Rattle.lines.proofs.read_two_fields.Goals as goal

pub returns-in_err-part : goal.returns-in_err-part
returns-in_err-part c =
    let bytes = c.args.bytes.now in
    let short = part-none bytes c.args.at 10 c.in_err-part.ensures.answer in
    record { answer = rw (c.from_residual.ensures, fields-short bytes c.args.at short) }

pub fields_in-requires : goal.fields_in-requires
fields_in-requires c = (part-some c.args.bytes.now c.args.at 10 c.in_ok-part.ensures.answer).long

pub returns : goal.returns
returns c =
    let bytes = c.args.bytes.now in
    let whole = part-some bytes c.args.at 10 c.in_ok-part.ensures.answer in
    record { answer = c.fields_in.ensures.answer ∙ rw whole.is (fields-whole bytes c.args.at whole.room) }
