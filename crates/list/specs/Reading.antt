-- The operation "reading a list". Assumes nothing.
use Rattle.std.specs.Prelude.{ℕ, zero, suc, ◌-◌, ◌/◌, ◌%◌, Bool, not, ◌||◌, List, [], ◌∷◌, ◌++◌, eqb, ltb, length, drop, unwrap_or}
use Rattle.refusal.specs.Limits.{tags_max}
use Rattle.refusal.specs.Outcome.{Outcome, answered, refused}
use Rattle.lists.specs.First.{first, is_some}
use Rattle.refusal.specs.Checks.{Check, met, in_order}
use Rattle.text.specs.Line.{line_length, line_at, list_header, list_line}

-- What a list text states: "B, L, the count, and the tags in their order".
pub record Listed : Type 0 where
  pub groups : ℕ
  pub limit : ℕ
  pub tags : List ℕ

-- "A list text has the same lines: line 0 holds B and L …, and each later line one tag." Line k is malformed.
unfoldable pub malformed : List ℕ → ℕ → Bool
malformed text zero = not (is_some (list_header (line_at 0 text)))
malformed text (suc k) = not (is_some (list_line (line_at (suc k) text)))

-- The number of lines, and of tags: one line is the header.
unfoldable pub line_count : List ℕ → ℕ
line_count text = length text / line_length

unfoldable pub tag_count : List ℕ → ℕ
tag_count text = line_count text - 1

-- The tags of lines k and on, so many of them. A malformed line, which is refused, stands for 0.
unfoldable pub tags_from : ℕ → ℕ → List ℕ → List ℕ
tags_from zero k text = []
tags_from (suc count) k text = unwrap_or (list_line (line_at k text)) 0 ∷ tags_from count (suc k) text

unfoldable pub listed_in : List ℕ → Listed
listed_in text =
    let header = unwrap_or (list_header (line_at 0 text)) (0, 0) in
    record { groups = header.0; limit = header.1; tags = tags_from (tag_count text) 1 text }

-- "16 at place 0: fewer than 11 bytes, or not a multiple of 11. 16: first malformed line. 5: more than 4,096 tags. 9: too few tag
-- cells." The length of the text has no limit of its own here.
unfoldable pub reading_checks : List ℕ → ℕ → List Check
reading_checks text cells =
    (16, met (ltb (length text) line_length || not (eqb (length text % line_length) 0)))
    ∷ (16, first (malformed text) (line_count text))
    ∷ (5, met (ltb tags_max (tag_count text)))
    ∷ (9, met (ltb cells (tag_count text)))
    ∷ []

-- "Otherwise B, L, the count, and the tags in their order": the outcome for so many tag cells.
unfoldable pub reading_of : List ℕ → ℕ → Outcome Listed
reading_of text cells = in_order (reading_checks text cells) (answered (listed_in text))

-- The tag cells afterwards: the tags and then what was there; "A refusal writes nothing."
unfoldable pub cells_after : Outcome Listed → List ℕ → List ℕ
cells_after (answered listed) before = listed.tags ++ drop (length listed.tags) before
cells_after (refused number place) before = before
