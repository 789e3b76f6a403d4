-- Reading the text that states B, L and the tags gives them back. Assumes nothing.
use Rattle.std.specs.Prelude.{◌≡◌, refl, false, length, get_or, Some}
use Rattle.std.proofs.Common.{◌∙◌}
use mathlib.Core.List.{List, [], ◌∷◌, map}
use Prim.Native.Nat.{ℕ, zero, suc, ◌+◌, ◌*◌, ◌^◌, ◌≤◌, ◌<◌}
use native.Mathlib.Omega.{arith}
use Rattle.std.proofs.Math.ListN.{length-map}
use Rattle.refusal.specs.Limits.{tag_end, tags_max}
use Rattle.refusal.specs.Outcome.{answered}
use Rattle.lists.proofs.FirstLaws.{first_out}
use Rattle.text.specs.Line.{line_length, line_at, pair_line, tag_line, list_header, list_line}
use Rattle.text.proofs.LineLaws.{pair_line-length, tag_line-length, Lines, flatten-length, line-flatten, list-header-line, list-line}
use Rattle.list.specs.Reading.{malformed, line_count, tag_count, tags_from, listed_in, reading_of}
use Rattle.list.proofs.ReadingLaws.{header-well, line-well, read-answered}
use Rattle.list.specs.Text.{text_of}

tag-lines : (tags : List ℕ) → Lines line_length (map tag_line tags)
unfolding Lines
tag-lines [] = tt
tag-lines (t ∷ ts) = (tag_line-length t, tag-lines ts)

-- The tag of a line among the tags' lines.
tag-line-at : (tags : List ℕ) (i : ℕ) → i < length tags → get_or (map tag_line tags) i [] ≡ tag_line (get_or tags i 0)
tag-line-at [] i lt = absurd (omega arith)
tag-line-at (t ∷ ts) zero lt = refl
tag-line-at (t ∷ ts) (suc i) lt = tag-line-at ts i (omega arith)

-- Tags read from line k on, where each of those lines reads as the tag with its index.
tags-from : (tags text : List ℕ) (k : ℕ) → ((i : ℕ) → i < length tags → list_line (line_at (k + i) text) ≡ Some (get_or tags i 0))
    → tags_from (length tags) k text ≡ tags
unfolding tags_from
tags-from [] text k reads = refl
tags-from (t ∷ ts) text k reads =
    let here : k + 0 ≡ k = omega arith in
    rw (
      rw here at (reads 0 (omega arith)),
      tags-from ts text (suc k) (λ i lt. let e : suc k + i ≡ k + suc i = omega arith in rw e (reads (suc i) (omega arith))),
    )

module _ (b l : ℕ) (tags : List ℕ) (b-fits : b < 10 ^ 5) (l-fits : l < 10 ^ 5)
    (words : (i : ℕ) → i < length tags → get_or tags i 0 < tag_end) where
  text-lines : Lines line_length (pair_line b l ∷ map tag_line tags)
  unfolding Lines
  text-lines = (pair_line-length b l, tag-lines tags)

  text-length : length (text_of b l tags) ≡ line_length * (1 + length tags)
  unfolding text_of
  text-length = flatten-length line_length (pair_line b l ∷ map tag_line tags) text-lines ∙ omega (arith, length-map tags tag_line)

  header-reads : list_header (line_at 0 (text_of b l tags)) ≡ Some (b, l)
  unfolding text_of
  header-reads = rw (line-flatten (pair_line b l ∷ map tag_line tags) 0 text-lines (omega arith)) (list-header-line b l b-fits l-fits)

  tag-reads : (i : ℕ) → i < length tags → list_line (line_at (1 + i) (text_of b l tags)) ≡ Some (get_or tags i 0)
  unfolding text_of
  tag-reads i lt =
      let e : 1 + i ≡ suc i = omega arith in
      rw (
        e,
        line-flatten (pair_line b l ∷ map tag_line tags) (suc i) text-lines (omega (arith, length-map tags tag_line)),
        tag-line-at tags i lt,
      ) (list-line (get_or tags i 0) (words i lt))

  text-well : (k : ℕ) → k < 1 + length tags → malformed (text_of b l tags) k ≡ false
  text-well zero lt = header-well (text_of b l tags) header-reads
  text-well (suc k) lt =
      let e : 1 + k ≡ suc k = omega arith in
      line-well (text_of b l tags) (suc k) (omega arith) (rw e at (tag-reads k (omega arith)))

  count-is : tag_count (text_of b l tags) ≡ length tags
  unfolding tag_count line_count
  count-is = omega (arith, text-length)

  -- "reading the text that states B, L and tags gives them back"
  pub read_back : (cells : ℕ) → length tags ≤ tags_max → length tags ≤ cells
      → reading_of (text_of b l tags) cells ≡ answered (record { groups = b; limit = l; tags = tags })
  unfolding listed_in line_count
  read_back cells few room =
      let text = text_of b l tags in
      read-answered text cells (record { long = omega (arith, text-length); even = omega (arith, text-length) })
      (first_out (malformed text) (line_count text) (λ k lt. text-well k (omega (arith, text-length)))) (rw count-is few) (rw count-is room)
      ∙ rw (header-reads, count-is, tags-from tags text 1 tag-reads)
