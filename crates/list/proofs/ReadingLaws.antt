-- Each way in which reading ends, the tags line by line, and that reading a list text gives back what it states. Assumes nothing.
use Rattle.std.specs.Prelude.{◌≡◌, refl, true, false, not, ◌||◌, List, ℕ, zero, suc, ◌%◌, ◌≤◌, ◌<◌, eqb, ltb, length, Option, None, Some}
use Rattle.std.proofs.Common.{sym, ◌∙◌, ap, arith}
use borrow.Author.Tests.{le-leb, lt-ltb, le-ltb, ltb-false, ne_eqb}
use Rattle.refusal.specs.Limits.{tags_max}
use Rattle.refusal.specs.Outcome.{answered, refused, answered_by}
use Rattle.refusal.proofs.OutcomeLaws.{answered-of-by}
use Rattle.lists.specs.First.{first, met_at, is_some}
use Rattle.lists.proofs.FirstLaws.{first-zero, first_cong}
use Rattle.refusal.specs.Checks.{met, in_order}
use Rattle.refusal.proofs.ChecksLaws.{in_order-answered, false-of-met}
use Rattle.text.specs.Line.{line_length, line_at, list_header, list_line}
use Rattle.text.specs.TagLines.{no_tag_from, tags_on}
use Rattle.text.proofs.TagLinesLaws.{tag-list, line_before, tags_on-length}
use Rattle.list.specs.Reading.{malformed, line_count, tag_count, tags_from, listed_in, reading_checks, reading_of}
use Rattle.list.specs.Answer.{head_of}
use Rattle.list.specs.declared.ListHead.{ListHead}

-- A line by what it reads as.
pub header-well : (text : List ℕ) {h : ℕ × ℕ} → list_header (line_at 0 text) ≡ Some h → malformed text 0 ≡ false
unfolding malformed is_some
header-well text e = rw e

pub header-malformed : (text : List ℕ) → list_header (line_at 0 text) ≡ None → malformed text 0 ≡ true
unfolding malformed is_some
header-malformed text e = rw e

pub line-well : (text : List ℕ) (k : ℕ) {t : ℕ} → 0 < k → list_line (line_at k text) ≡ Some t → malformed text k ≡ false
unfolding malformed is_some
line-well text zero lt e = absurd (omega arith)
line-well text (suc k) lt e = rw e

-- Behind a header that is well formed, what is malformed is no tag's line.
malformed-tag : (text : List ℕ) → malformed text 0 ≡ false → (k : ℕ) → no_tag_from 1 text k ≡ malformed text k
unfolding no_tag_from malformed
malformed-tag text well zero = line_before 1 text 0 (omega arith) ∙ sym well
malformed-tag text well (suc k) = rw (le-leb 1 (suc k) (omega arith), tag-list (line_at (suc k) text))

pub malformed-lines : (text : List ℕ) {h : ℕ × ℕ} → list_header (line_at 0 text) ≡ Some h → (limit : ℕ) {o : Option ℕ}
    → o ≡ first (no_tag_from 1 text) limit → first (malformed text) limit ≡ o
malformed-lines text header limit e =
    sym (e ∙ first_cong (no_tag_from 1 text) (malformed text) limit (λ j lt. malformed-tag text (header-well text header) j))

-- The tags of a list are those of its lines.
pub tags-on : (count k : ℕ) (text : List ℕ) → tags_on count k text ≡ tags_from count k text
unfolding tags_on tags_from
tags-on zero k text = refl
tags-on (suc count) k text = rw (tag-list (line_at k text), tags-on count (suc k) text)

pub tags_from-length : (count k : ℕ) (text : List ℕ) → length (tags_from count k text) ≡ count
tags_from-length count k text = rw (← tags-on count k text) (tags_on-length count k text)

-- The text is whole lines, of which there is one at least.
pub record Whole (text : List ℕ) : Type 0 where
  pub long : line_length ≤ length text
  pub even : length text % line_length ≡ 0

-- The ways in which reading ends, in the order of its checks.
module _ (text : List ℕ) (cells : ℕ) where
  pub read_short : length text < line_length → reading_of text cells ≡ refused 16 0
  unfolding reading_of reading_checks in_order met met_at
  read_short short = rw (lt-ltb (length text) line_length short)

  pub read-uneven : line_length ≤ length text → (length text % line_length ≡ 0 → ⊥) → reading_of text cells ≡ refused 16 0
  unfolding reading_of reading_checks in_order met met_at
  read-uneven long uneven = rw (le-ltb (length text) line_length long, ne_eqb (length text % line_length) 0 uneven)

  module _ (whole : Whole text) where
    not_short : (ltb (length text) line_length || not (eqb (length text % line_length) 0)) ≡ false
    not_short = rw (le-ltb (length text) line_length whole.long, whole.even)

    pub read-malformed : {k : ℕ} → first (malformed text) (line_count text) ≡ Some k → reading_of text cells ≡ refused 16 k
    unfolding reading_of reading_checks in_order met met_at
    read-malformed e = rw (not_short, e)

    pub read-header-malformed : malformed text 0 ≡ true → reading_of text cells ≡ refused 16 0
    unfolding line_count
    read-header-malformed e = read-malformed (first-zero (malformed text) (line_count text) e (omega (arith, whole.long)))

    module _ (well : first (malformed text) (line_count text) ≡ None) where
      pub read-many : tags_max < tag_count text → reading_of text cells ≡ refused 5 0
      unfolding reading_of reading_checks in_order met met_at
      read-many many = rw (not_short, well, lt-ltb tags_max (tag_count text) many)

      module _ (few : tag_count text ≤ tags_max) where
        pub read-narrow : cells < tag_count text → reading_of text cells ≡ refused 9 0
        unfolding reading_of reading_checks in_order met met_at
        read-narrow narrow = rw (not_short, well, le-ltb tags_max (tag_count text) few, lt-ltb cells (tag_count text) narrow)

        pub read-answered : tag_count text ≤ cells → reading_of text cells ≡ answered (listed_in text)
        unfolding reading_of reading_checks in_order met met_at
        read-answered wide = rw (not_short, well, le-ltb tags_max (tag_count text) few, le-ltb cells (tag_count text) wide)

-- What an accepted reading answers beside the tags.
pub head-is : (text : List ℕ) {b l : ℕ} → list_header (line_at 0 text) ≡ Some (b, l)
    → head_of (listed_in text) ≡ record { groups = b; limit = l; count = tag_count text }
unfolding head_of listed_in
head-is text e = rw (e, tags_from-length (tag_count text) 1 text)

-- What follows from an accepted reading: the count that it answers, and that there is a cell for each tag.
pub record ReadAs (text : List ℕ) (cells : ℕ) (head : ListHead) : Type 0 where
  pub count-is : head.count ≡ tag_count text
  pub room : tag_count text ≤ cells

pub read_as : (text : List ℕ) (cells : ℕ) {head : ListHead}
    → answered_by head_of (reading_of text cells) ≡ answered head → ReadAs text cells head
unfolding reading_of reading_checks listed_in head_of
read_as text cells {head} e =
    let (listed, outcome, same) = answered-of-by head_of (reading_of text cells) e in
    let (
      (short, (well, (many, (narrow, end)))),
      answer,
    ) = in_order-answered (reading_checks text cells) (answered (listed_in text)) outcome in
    let is : listed_in text ≡ listed = cc in
    record {
      count-is = ap (λ (h : ListHead). h.count) (sym same ∙ ap head_of (sym is)) ∙ tags_from-length (tag_count text) 1 text;
      room = ltb-false cells (tag_count text) (false-of-met (ltb cells (tag_count text)) narrow);
    }
