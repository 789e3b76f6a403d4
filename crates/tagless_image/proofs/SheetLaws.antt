-- The length of an index without tags, and that each line of it is the line that was put there and reads back. Assumes nothing.
use Rattle.std.specs.Prelude.{◌≡◌, ℕ, suc, ◌*◌, ◌^◌, ◌≤◌, ◌<◌, length, Some}
use Rattle.std.proofs.Common.{◌∙◌}
use Rattle.std.proofs.Math.Path.{ap}
use mathlib.Core.List.{List, [], flatten}
use native.Mathlib.Omega.{arith}
use Rattle.std.proofs.Math.ListN.{length-append}
use Rattle.std.proofs.Math.Seq.{take_at, drop-append-add}
use Rattle.refusal.specs.Limits.{tag_end, tags_max, groups_max, seed_max}
use Rattle.lists.specs.UpTo.{up_to}
use Rattle.lists.proofs.UpToLaws.{up_to-length, up_to-at, up_to-agree}
use Rattle.text.specs.Line.{line_length, line_at, image_header}
use Rattle.text.proofs.LineLaws.{pair_line-length, Lines, up_to-lines, flatten-length, flatten-line, image-header-line}
use Rattle.word_line.specs.WordLine.{word_line_length}
use Rattle.word_line.proofs.WordLineLaws.{word_line-length, word-line}
use Rattle.tagless_image.specs.Sheet.{TaglessSheet, header_line_of, group_line_of, tagless_bytes, tagless_length}
use Rattle.tagless_image.specs.View.{group_line_at, stated_at}

module _ (s : TaglessSheet) where
  -- The group lines, each of 21 bytes.
  group_lines : List (List ℕ)
  group_lines = up_to s.groups (group_line_of s)

  group_lines_lem : Lines word_line_length group_lines
  unfolding group_lines
  group_lines_lem = up_to-lines word_line_length s.groups (group_line_of s) (λ g. word_line-length (s.start g) (s.seed g) (s.word g))

  -- "so the length is 11 + 21 × B."
  pub tagless-length : length (tagless_bytes s) ≡ tagless_length s.groups
  unfolding tagless_bytes tagless_length group_lines
  tagless-length =
      length-append (header_line_of s) (flatten group_lines)
      ∙ omega (
        arith,
        pair_line-length s.count s.groups,
        flatten-length word_line_length group_lines group_lines_lem
            ∙ ap (λ (k : ℕ). word_line_length * k) (up_to-length s.groups (group_line_of s)),
      )

  -- Line 0, and line 1 + g.
  pub header_at : line_at 0 (tagless_bytes s) ≡ header_line_of s
  unfolding line_at tagless_bytes
  header_at = take_at (header_line_of s) _ line_length (pair_line-length s.count s.groups)

  pub group_at_lem : (g : ℕ) → g < s.groups → group_line_at g (tagless_bytes s) ≡ group_line_of s g
  unfolding group_line_at tagless_bytes group_lines
  group_at_lem g lt =
      rw (← pair_line-length s.count s.groups, drop-append-add (header_line_of s) (flatten group_lines) (word_line_length * g))
      (flatten-line word_line_length group_lines g group_lines_lem (omega (arith, up_to-length s.groups (group_line_of s)))
      ∙ up_to-at s.groups (group_line_of s) [] g lt)

  -- What stands in its range reads back.
  pub header-reads : s.count ≤ tags_max → 1 ≤ s.groups → s.groups ≤ groups_max
      → image_header (line_at 0 (tagless_bytes s)) ≡ Some (s.count, s.groups)
  header-reads n one b = rw header_at (image-header-line s.count s.groups n one b)

  pub group_reads : (g : ℕ) → g < s.groups → s.start g < 10 ^ 5 → s.seed g ≤ seed_max → s.word g < tag_end
      → stated_at (tagless_bytes s) (suc g) ≡ Some (s.start g, s.seed g, s.word g)
  unfolding stated_at
  group_reads g lt start seed word = rw (group_at_lem g lt) (word-line (s.start g) (s.seed g) (s.word g) start seed word)

-- Two sheets state the same numbers: the same N and B, and for each group the same start, seed and word.
pub record Agree (s t : TaglessSheet) : Type 0 where
  pub count : s.count ≡ t.count
  pub groups : s.groups ≡ t.groups
  pub start : (g : ℕ) → g < s.groups → s.start g ≡ t.start g
  pub seed : (g : ℕ) → g < s.groups → s.seed g ≡ t.seed g
  pub word : (g : ℕ) → g < s.groups → s.word g ≡ t.word g

-- Then they are one image.
pub bytes-agree : (s t : TaglessSheet) → Agree s t → tagless_bytes s ≡ tagless_bytes t
unfolding tagless_bytes
bytes-agree s t a =
    rw (
      up_to-agree s.groups (group_line_of s) (group_line_of t) (λ g lt. rw (a.start g lt, a.seed g lt, a.word g lt)),
      a.count,
      a.groups,
    )
