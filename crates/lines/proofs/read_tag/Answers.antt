-- `lines::read_tag` meets its contract: the line is cut off, or it is read whole. Assumes nothing.
use mathlib.Core.Path.{◌∙◌}
use Rattle.text.specs.Line.{line_length, within}
use Rattle.text.proofs.PartLaws.{part-some, part-none}
use Rattle.lines.proofs.CutOff.{tag-short}
use Rattle.lines.proofs.read_tag.Goals as goal

pub returns-in_err-part : goal.returns-in_err-part
unfolding within
returns-in_err-part c =
    let bytes = c.args.bytes.now in
    let short = part-none bytes c.args.at line_length c.in_err-part.ensures.answer in
    record { answer = rw (c.from_residual.ensures, tag-short bytes c.args.at short) }

pub tag_in-requires : goal.tag_in-requires
tag_in-requires c = (part-some c.args.bytes.now c.args.at line_length c.in_ok-part.ensures.answer).long

pub returns : goal.returns
returns c =
    let whole = part-some c.args.bytes.now c.args.at line_length c.in_ok-part.ensures.answer in
    record { answer = c.tag_in.ensures.answer ∙ rw whole.is }
