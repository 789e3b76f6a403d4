-- What the loop that writes line after line keeps, and that all lines are the image. Assumes nothing.
use Prim.Native.Nat.{ℕ, ◌+◌, ◌*◌, ◌≤◌, ◌<◌}
use mathlib.Core.Path.{◌≡◌, sym, ◌∙◌, ap}
use mathlib.Core.List.{List, ◌++◌, flatten}
use native.Mathlib.Omega.{arith}
use native.Mathlib.Numerals.{add-one}
use lib.ListN.{length, drop}
use Rattle.lists.specs.UpTo.{up_to}
use Rattle.lists.proofs.UpToLaws.{up_to-length, flatten-more}
use Rattle.lists.specs.Written.{written_at}
use Rattle.lists.proofs.WrittenLaws.{written-nothing, written-first, written-length, written_next}
use Rattle.text.specs.Line.{line_length}
use Rattle.text.proofs.LineLaws.{pair_line-length, up_to-lines, flatten-length}
use Rattle.word_line.specs.WordLine.{word_line_length}
use Rattle.word_line.proofs.WordLineLaws.{word_line-length}
use Rattle.tagless_image.specs.Sheet.{TaglessSheet, header_line_of, group_line_of, tagless_bytes, tagless_length}
use Rattle.tagless_image.proofs.SheetLaws.{tagless-length}

-- The lines of the first k groups are written behind line 0, and the other bytes are as they were.
pub record LinesWritten (s : TaglessSheet) (before bytes : List ℕ) (k : ℕ) : Type 0 where
  pub upto : k ≤ s.groups
  pub bytes-are : bytes ≡ written_at line_length (flatten (up_to k (group_line_of s))) before

module _ (s : TaglessSheet) where
  -- The bytes of k group lines.
  lines-length : (k : ℕ) → length (flatten (up_to k (group_line_of s))) ≡ word_line_length * k
  lines-length k =
      flatten-length word_line_length (up_to k (group_line_of s))
      (up_to-lines word_line_length k (group_line_of s) (λ g. word_line-length (s.start g) (s.seed g) (s.word g)))
      ∙ ap (λ (n : ℕ). word_line_length * n) (up_to-length k (group_line_of s))

  -- Before the first group nothing is written.
  pub lines_start : (before : List ℕ) → LinesWritten s before before 0
  unfolding up_to flatten
  lines_start before = record { upto = omega arith; bytes-are = sym (written-nothing line_length before) }

  module _ {before : List ℕ} (room : tagless_length s.groups ≤ length before) {bytes : List ℕ} {k : ℕ}
      (l : LinesWritten s before bytes k) where
    -- The buffer keeps its length.
    pub lines-kept : length bytes ≡ length before
    unfolding tagless_length
    lines-kept =
        ap length l.bytes-are
        ∙ written-length line_length (flatten (up_to k (group_line_of s))) before (omega (arith, lines-length k, l.upto))

    -- A turn writes one line more.
    pub lines-turn : {after : List ℕ} → k < s.groups → after ≡ written_at (line_length + word_line_length * k) (group_line_of s k) bytes
        → LinesWritten s before after (k + 1)
    unfolding tagless_length
    lines-turn lt e = record {
      upto = omega arith;
      bytes-are =
          e
          ∙ rw (l.bytes-are, add-one k, flatten-more k (group_line_of s))
          (written_next line_length (line_length + word_line_length * k) (flatten (up_to k (group_line_of s))) (group_line_of s k) before
          (omega (arith, lines-length k)) (omega arith));
    }

    -- After the last group, over a buffer in which line 0 was written, the image is written.
    pub lines-done : (entry : List ℕ) → before ≡ written_at 0 (header_line_of s) entry → s.groups ≤ k
        → bytes ≡ tagless_bytes s ++ drop (tagless_length s.groups) entry
    unfolding tagless_bytes
    lines-done entry first past =
        let same : k ≡ s.groups = omega (arith, l.upto) in
        let lines = flatten (up_to s.groups (group_line_of s)) in
        rw same at l.bytes-are
        ∙ rw first
        (written_next 0 line_length (header_line_of s) lines entry (omega (arith, pair_line-length s.count s.groups)) (omega arith)
        ∙ written-first (tagless_bytes s) entry
        ∙ rw (tagless-length s))
