-- `checking::read_slot_lines` meets its contract: behind the group lines the first line that is no tag's is the first malformed one.
-- Assumes nothing.
use mathlib.Core.Path.{◌∙◌}
use Rattle.checking.specs.StepsLaws.{slot-lines, slots-stored}
use Rattle.checking.proofs.read_slot_lines.Goals as goal

pub returns : goal.returns
returns c =
    let image = c.args.image.now in
    let found = c.read_tag_lines.ensures.answer in
    let cells = c.read_tag_lines.ensures.cells in
    record {
      answer = found ∙ slot-lines image c.requires.opens c.requires.groups_value;
      cells = rw cells (slots-stored image c.requires.opens _ c.requires.tags_len found);
    }
