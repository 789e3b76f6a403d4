-- `word_line::read_word_line` meets its contract: the line is cut off, or its two fields and its word are read. Assumes nothing.
use Rattle.text.proofs.PartLaws.{part-some, part-none}
use Rattle.word_line.specs.WordLine.{word_line_length, and_third}
use Rattle.word_line.proofs.Parts.{line-short, line_read}
use Rattle.word_line.proofs.read_word_line.Goals as goal

pub returns-in_err-part : goal.returns-in_err-part
returns-in_err-part c =
    let bytes = c.args.bytes.now in
    let short = part-none bytes c.args.at word_line_length c.in_err-part.ensures.answer in
    record { answer = rw (c.from_residual.ensures, line-short bytes c.args.at short) }

pub word_at-requires : goal.word_at-requires
word_at-requires c = (part-some c.args.bytes.now c.args.at word_line_length c.in_ok-part.ensures.answer).room

pub returns-in_err-start : goal.returns-in_err-start
unfolding and_third
returns-in_err-start c =
    let bytes = c.args.bytes.now in
    let room = (part-some bytes c.args.at word_line_length c.in_ok-part.ensures.answer).room in
    record { answer = rw (c.from_residual-in_err-start.ensures, line_read bytes c.args.at room c.in_err-start.ensures.answer) }

pub returns-in_err-word : goal.returns-in_err-word
unfolding and_third
returns-in_err-word c =
    let bytes = c.args.bytes.now in
    let room = (part-some bytes c.args.at word_line_length c.in_ok-part.ensures.answer).room in
    record {
      answer = rw (
        c.from_residual-in_err-word.ensures,
        line_read bytes c.args.at room c.in_ok-start.ensures.answer,
        ← c.in_err-word.ensures.answer,
      );
    }

pub returns : goal.returns
unfolding and_third
returns c =
    let bytes = c.args.bytes.now in
    let room = (part-some bytes c.args.at word_line_length c.in_ok-part.ensures.answer).room in
    record { answer = rw (line_read bytes c.args.at room c.in_ok-start.ensures.answer, ← c.in_ok-word.ensures.answer) }
