-- `checking::check_opened` meets its contract: a malformed line is the refusal, and otherwise the cells hold the numbers by which the
-- rest is decided. Assumes nothing.
use mathlib.Core.Path.{sym, ◌∙◌, ap}
use Rattle.refusal.specs.Reason.{refusal_of}
use Rattle.opening.specs.OpeningLaws.{opening-answered}
use Rattle.checking.specs.StepsLaws.{check-group-line, check-line, check-numbers, cells_same, cells-legal, not-both}
use Rattle.checking.proofs.check_opened.Goals as goal

pub read_group_lines-requires : goal.read_group_lines-requires
read_group_lines-requires c = record {
  opens = opening-answered c.args.image.now c.requires.image_value;
  starts_len =
      (c.requires.starts_len.0, c.requires.starts_len.1);
}

pub returns-in-Some : goal.returns-in-Some
returns-in-Some c =
    let found = sym c.read_group_lines.ensures.answer ∙ c.in-Some.is in
    let refused = ap refusal_of c.at.ensures.answer in
    record {
      answer = refused ∙ sym (check-group-line c.args.image.now c.requires.image_value found);
      cells = λ accepted. absurd (not-both refused accepted);
    }

pub read_slot_lines-requires : goal.read_slot_lines-requires
read_slot_lines-requires c =
    let passed = sym c.read_group_lines.ensures.answer ∙ c.in_default.is in
    record {
      opens = opening-answered c.args.image.now c.requires.image_value;
      groups_value = passed;
      tags_len = c.requires.starts_len.2;
    }

pub returns-in-Some-read_slot_lines : goal.returns-in-Some-read_slot_lines
returns-in-Some-read_slot_lines c =
    let found = sym c.read_slot_lines.ensures.answer ∙ c.in-Some-read_slot_lines.is in
    let refused = ap refusal_of c.at-in-Some-read_slot_lines.ensures.answer in
    record {
      answer = refused ∙ sym (check-line c.args.image.now c.requires.image_value found);
      cells = λ accepted. absurd (not-both refused accepted);
    }

pub check_cells-requires : goal.check_cells-requires
check_cells-requires c =
    cells-legal c.args.image.now (opening-answered c.args.image.now c.requires.image_value)
    (rw c.in_default.is at c.read_group_lines.ensures.cells)

pub returns : goal.returns
returns c =
    let image = c.args.image.now in
    let opens = opening-answered image c.requires.image_value in
    let groups-stored = rw c.in_default.is at c.read_group_lines.ensures.cells in
    let tags-stored = rw c.in_default-read_slot_lines.is at c.read_slot_lines.ensures.cells in
    let lines = sym c.read_slot_lines.ensures.answer ∙ c.in_default-read_slot_lines.is in
    let same = cells_same image opens groups-stored tags-stored in
    record {
      answer = c.check_cells.ensures.answer ∙ sym (check-numbers image c.requires.image_value _ lines same);
      cells = λ accepted. record { same = same; legal = cells-legal image opens groups-stored; tags-long = tags-stored.long };
    }
