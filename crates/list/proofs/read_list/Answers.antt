-- `list::read_list` meets its contract: each branch is one of the ways in which reading ends, in the order of its checks, and the
-- cells are written in the last of them only. Assumes nothing.
use mathlib.Core.Path.{◌≡◌, refl, sym, ◌∙◌, ap}
use mathlib.Core.List.{List, ◌++◌}
use Prim.Native.Nat.{ℕ, ◌≤◌, ◌/◌, ◌%◌}
use native.Mathlib.Omega.{arith}
use lib.ListN.{length, take, drop}
use Rattle.refusal.specs.Outcome.{Outcome, answered, refused, answered_by}
use Rattle.refusal.specs.Reason.{refusal_of}
use Rattle.refusal.proofs.OutcomeLaws.{by-answered, by-refused}
use Rattle.lists.specs.First.{first}
use Rattle.text.specs.Line.{line_length, line_at, list_header}
use Rattle.text.specs.TagLines.{no_tag_from}
use Rattle.std.specs.Prelude.{Option, Some}
use Rattle.text.proofs.LineLaws.{line_said}
use Rattle.text.proofs.TagLinesLaws.{stored-length, stored-tags}
use Rattle.list.specs.Reading.{malformed, line_count, tag_count, tags_from, listed_in, reading_of, cells_after}
use Rattle.list.specs.Answer.{head_of}
use Rattle.list.specs.declared.ListHead.{ListHead}
use Rattle.list.proofs.ReadingLaws.{Whole, header-malformed, malformed-lines, tags-on, tags_from-length, head-is, read_short}
use Rattle.list.proofs.ReadingLaws.{read-uneven, read-header-malformed, read-malformed, read-many, read-narrow, read-answered}
use Rattle.list.proofs.read_list.Goals as goal

-- Both promises, of a refusal and of a list that is read.
Promised : List ℕ → List ℕ → Outcome ListHead → List ℕ → Type 0
Promised text before outcome after =
    (outcome ≡ answered_by head_of (reading_of text (length before))) × (after ≡ cells_after (reading_of text (length before)) before)

module _ (text before : List ℕ) where
  refuses : {number place : ℕ} {outcome : Outcome ListHead} → reading_of text (length before) ≡ refused number place
      → outcome ≡ refused number place → Promised text before outcome before
  unfolding Promised cells_after
  refuses e is = (is ∙ sym (by-refused head_of e), rw e)

  reads : {outcome : Outcome ListHead} {after : List ℕ} → reading_of text (length before) ≡ answered (listed_in text)
      → outcome ≡ answered (head_of (listed_in text)) → after ≡ tags_from (tag_count text) 1 text ++ drop (tag_count text) before
      → Promised text before outcome after
  unfolding Promised cells_after listed_in
  reads e is cells = (is ∙ sym (by-answered head_of e), rw (e, tags_from-length (tag_count text) 1 text) cells)

-- What is read of the header, and of the lines behind it.
whole : (text : List ℕ) → line_length ≤ length text → length text % line_length ≡ 0 → Whole text
whole text long even = record { long = long; even = even }

header : (text : List ℕ) {answer told : Option (ℕ × ℕ)} → answer ≡ list_header (take line_length (drop 0 text)) → answer ≡ told
    → list_header (line_at 0 text) ≡ told
header text read e = line_said list_header text 0 0 read e refl

found : (text : List ℕ) {h : ℕ × ℕ} {answer told : Option ℕ} → list_header (line_at 0 text) ≡ Some h
    → answer ≡ first (no_tag_from 1 text) (length text / line_length) → answer ≡ told
    → first (malformed text) (line_count text) ≡ told
unfolding line_count
found text header read e = malformed-lines text header (length text / line_length) read ∙ e

pub returns-then-text-lt-LINE_LENGTH : goal.returns-then-text-lt-LINE_LENGTH
unfolding Promised
returns-then-text-lt-LINE_LENGTH c =
    let a = c.args in
    let both = refuses a.text.now a.cells.now (read_short a.text.now _ c.if-text-lt-LINE_LENGTH.true) (ap refusal_of c.into.ensures) in
    record { answer = both.0; cells = both.1 }

pub returns-then-text-ne0 : goal.returns-then-text-ne0
unfolding Promised
returns-then-text-ne0 c =
    let a = c.args in
    let text = a.text.now in
    let both = refuses text a.cells.now
    (read-uneven text _ c.if-text-lt-LINE_LENGTH.false c.if-text-ne0.true) (ap refusal_of c.into-then-text-ne0.ensures) in
    record { answer = both.0; cells = both.1 }

pub returns-in_default : goal.returns-in_default
unfolding Promised
returns-in_default c =
    let text = c.args.text.now in
    let full = whole text c.if-text-lt-LINE_LENGTH.false c.if-text-ne0.false in
    let none_read = header-malformed text (header text c.read_list_header.ensures.answer c.in_default.is) in
    let both = refuses text _ (read-header-malformed text _ full none_read) (ap refusal_of c.into-in_default.ensures) in
    record { answer = both.0; cells = both.1 }

pub read_tag_lines-requires : goal.read_tag_lines-requires
read_tag_lines-requires c = record { from_le_end = (omega (arith, c.if-text-lt-LINE_LENGTH.false), omega arith); cells_len = refl }

pub returns-in-Some-read_tag_lines : goal.returns-in-Some-read_tag_lines
unfolding Promised
returns-in-Some-read_tag_lines c =
    let text = c.args.text.now in
    let full = whole text c.if-text-lt-LINE_LENGTH.false c.if-text-ne0.false in
    let head = header text c.read_list_header.ensures.answer c.in-Some.is in
    let both = refuses text _ (read-malformed text _ full (found text head c.read_tag_lines.ensures.answer c.in-Some-read_tag_lines.is))
    (ap refusal_of c.at.ensures.answer) in
    record { answer = both.0; cells = both.1 }

pub returns-then-count-gt-TAGS_MAX : goal.returns-then-count-gt-TAGS_MAX
unfolding Promised tag_count line_count
returns-then-count-gt-TAGS_MAX c =
    let text = c.args.text.now in
    let full = whole text c.if-text-lt-LINE_LENGTH.false c.if-text-ne0.false in
    let head = header text c.read_list_header.ensures.answer c.in-Some.is in
    let none = found text head c.read_tag_lines.ensures.answer c.in_default-read_tag_lines.is in
    let both = refuses text _ (read-many text _ full none c.if-count-gt-TAGS_MAX.true)
    (ap refusal_of c.into-then-count-gt-TAGS_MAX.ensures) in
    record { answer = both.0; cells = both.1 }

pub returns-then-cells-count : goal.returns-then-cells-count
unfolding Promised tag_count line_count
returns-then-cells-count c =
    let text = c.args.text.now in
    let full = whole text c.if-text-lt-LINE_LENGTH.false c.if-text-ne0.false in
    let head = header text c.read_list_header.ensures.answer c.in-Some.is in
    let none = found text head c.read_tag_lines.ensures.answer c.in_default-read_tag_lines.is in
    let both = refuses text _ (read-narrow text _ full none c.if-count-gt-TAGS_MAX.false c.if-cells-count.true)
    (ap refusal_of c.into-then-cells-count.ensures) in
    record { answer = both.0; cells = both.1 }

pub slice_bounds-copy-end : goal.slice_bounds-copy-end
slice_bounds-copy-end c =
    sym (ap length c.read_tag_lines.ensures.cells ∙ stored-length _ _ _ _)

pub copy-requires : goal.copy-requires
copy-requires c =
    let long = ap length c.read_tag_lines.ensures.cells ∙ stored-length _ _ _ _ in
    (omega (arith, long, c.if-count-gt-TAGS_MAX.false), c.if-cells-count.false)

pub returns : goal.returns
unfolding Promised tag_count line_count
returns c =
    let text = c.args.text.now in
    let full = whole text c.if-text-lt-LINE_LENGTH.false c.if-text-ne0.false in
    let head = header text c.read_list_header.ensures.answer c.in-Some.is in
    let stored = rw c.in_default-read_tag_lines.is at c.read_tag_lines.ensures.cells in
    let tags = tag_count text in
    let both = reads text c.args.cells.now
    (read-answered text _ full (found text head c.read_tag_lines.ensures.answer c.in_default-read_tag_lines.is)
    c.if-count-gt-TAGS_MAX.false c.if-cells-count.false)
    (sym (ap answered (head-is text head)))
    (c.copy.ensures.cells ∙ rw (stored, stored-tags 1 text _ tags c.if-count-gt-TAGS_MAX.false, tags-on tags 1 text)) in
    record { answer = both.0; cells = both.1 }
