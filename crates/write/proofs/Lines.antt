-- What the loop that writes line after line keeps, and that all lines are the image. Assumes nothing.
use Prim.Native.Nat.{ℕ, suc, ◌+◌, ◌-◌, ◌*◌, ◌≤◌, ◌<◌}
use mathlib.Core.Path.{◌≡◌, sym, ◌∙◌, ap}
use mathlib.Core.List.{List, ◌++◌, flatten}
use native.Mathlib.Omega.{arith}
use native.Mathlib.Numerals.{add-one}
use lib.ListN.{length, get_or, drop}
use Rattle.text.specs.Line.{line_length, pair_line, tag_line}
use Rattle.text.proofs.LineLaws.{up_to-lines, flatten-length}
use Rattle.lists.specs.UpTo.{up_to}
use Rattle.image.specs.Sheet.{bytes_of, image_length}
use Rattle.lists.proofs.UpToLaws.{up_to-length, flatten-more}
use Rattle.image.proofs.SheetLaws.{bytes-length}
use Rattle.numbering.specs.Parts.{part_start}
use Rattle.write.specs.Stated.{stated_sheet, stated_line, Writable}
use Rattle.write.specs.StatedLaws.{line-length, line-group, line-slot, stated-bytes}
use Rattle.lists.specs.Written.{written_at}
use Rattle.lists.proofs.WrittenLaws.{written-nothing, written-first, written-length, written_next}

-- The first k lines are written, and the other bytes are as they were.
pub record LinesWritten (ends seeds slots : List ℕ) (groups count : ℕ) (before bytes : List ℕ) (k : ℕ) : Type 0 where
  pub upto : k ≤ 1 + groups + count
  pub bytes-are : bytes ≡ written_at 0 (flatten (up_to k (stated_line ends seeds slots groups count))) before

module _ (ends seeds slots : List ℕ) (groups count : ℕ) where
  abbrev line : ℕ → List ℕ
  line = stated_line ends seeds slots groups count

  -- The bytes of k lines.
  lines-length : (k : ℕ) → length (flatten (up_to k line)) ≡ line_length * k
  lines-length k =
      flatten-length line_length (up_to k line) (up_to-lines line_length k line (line-length ends seeds slots groups count))
      ∙ rw (up_to-length k line)

  -- A line's own writer writes line k where it writes what line k is.
  pub line-written : (k : ℕ) (before : List ℕ) {piece after : List ℕ} → piece ≡ line k
      → after ≡ written_at (line_length * k) piece before → after ≡ written_at (line_length * k) (line k) before
  line-written k before same e = e ∙ rw same

  pub header-line : (k : ℕ) → k ≡ 0 → pair_line count groups ≡ line k
  unfolding stated_line
  header-line k e = rw e

  pub later-group : (k : ℕ) {start : ℕ} → (k ≡ 0 → ⊥) → k - 1 < groups → start ≡ part_start ends (k - 1)
      → pair_line start (get_or seeds (k - 1) 0) ≡ line k
  later-group k some lt begins =
      let e : suc (k - 1) ≡ k = omega (arith, some) in
      rw begins (sym (rw e at (line-group ends seeds slots groups count (k - 1) lt)))

  pub later-slot : (k : ℕ) → (k ≡ 0 → ⊥) → groups ≤ k - 1 → tag_line (get_or slots (k - 1 - groups) 0) ≡ line k
  later-slot k some le = let e : suc (k - 1) ≡ k = omega (arith, some) in sym (rw e at (line-slot ends seeds slots groups count (k - 1) le))

  -- A line has room.
  pub line-room : (k : ℕ) {room : ℕ} → Writable ends seeds slots groups count room
      → k < 1 + groups + count → line_length * k + line_length ≤ room
  unfolding image_length
  line-room k w lt = omega (arith, w.room-enough)

  module _ {before : List ℕ} (w : Writable ends seeds slots groups count (length before)) where
    -- Before the first line nothing is written.
    pub lines_start : LinesWritten ends seeds slots groups count before before 0
    unfolding up_to flatten
    lines_start = record { upto = omega arith; bytes-are = sym (written-nothing 0 before) }

    module _ {bytes : List ℕ} {k : ℕ} (l : LinesWritten ends seeds slots groups count before bytes k) where
      -- The buffer keeps its length,
      pub lines-kept : length bytes ≡ length before
      unfolding image_length
      lines-kept =
          ap length l.bytes-are
          ∙ written-length 0 (flatten (up_to k line)) before (omega (arith, lines-length k, l.upto, w.room-enough))

      -- so that the next line has room.
      pub lines-room : Writable ends seeds slots groups count (length bytes)
      lines-room = rw lines-kept w

      -- A turn writes one line more.
      pub lines-turn : {after : List ℕ} → k < 1 + groups + count → after ≡ written_at (line_length * k) (line k) bytes
          → LinesWritten ends seeds slots groups count before after (k + 1)
      lines-turn {after} lt e = record {
        upto = omega arith;
        bytes-are =
            e
            ∙ rw (l.bytes-are, add-one k, flatten-more k line)
            (written_next 0 (line_length * k) (flatten (up_to k line)) (line k) before (omega (arith, lines-length k)) (omega arith));
      }

      -- After the last line the image is written.
      pub lines-done : 1 + groups + count ≤ k
          → bytes ≡ bytes_of (stated_sheet ends seeds slots groups count) ++ drop (image_length groups count) before
      unfolding stated_sheet
      lines-done past =
          let sheet = stated_sheet ends seeds slots groups count in
          let same : k ≡ 1 + groups + count = omega (arith, l.upto) in
          rw same at l.bytes-are
          ∙ rw (stated-bytes ends seeds slots groups count) (written-first (bytes_of sheet) before ∙ rw (bytes-length sheet))
