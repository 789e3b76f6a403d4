-- `tagless_write::write_lines` meets its contract: line 0, and after g turns the lines of the first g groups are written. Assumes nothing.
use mathlib.Core.Path.{◌≡◌, ◌∙◌, ap}
use mathlib.Core.List.{List}
use Prim.Native.Nat.{ℕ, ◌+◌, ◌≤◌}
use native.Mathlib.Omega.{arith}
use lib.ListN.{length}
use Rattle.lists.specs.Written.{written_at}
use Rattle.lists.proofs.WrittenLaws.{written-length}
use Rattle.text.proofs.LineLaws.{pair_line-length}
use Rattle.tagless_image.specs.Sheet.{TaglessSheet, header_line_of, tagless_length}
use Rattle.tagless_write.specs.Stated.{stated_sheet}
use Rattle.tagless_write.proofs.Lines.{lines_start, lines-kept, lines-turn, lines-done}
use Rattle.tagless_write.proofs.write_lines.Goals as goal
use Rattle.tagless_write.proofs.write_lines.Goals.{Start}

-- The sheet that the arrays state.
abbrev sheet : Start → TaglessSheet
sheet c = let a = c.args in stated_sheet a.ends.now a.seeds.now a.words.now a.groups a.count

-- Line 0 fits, and a buffer in which it is written keeps its length.
header-fits : (c : Start) → 0 + length (header_line_of (sheet c)) ≤ length c.args.buffer.now
unfolding tagless_length stated_sheet
header-fits c =
    let a = c.args in
    omega (arith, pair_line-length a.count a.groups, c.requires.room-enough)

kept : (c : Start) {bytes : List ℕ} → bytes ≡ written_at 0 (header_line_of (sheet c)) c.args.buffer.now
    → length bytes ≡ length c.args.buffer.now
kept c e = ap length e ∙ written-length 0 (header_line_of (sheet c)) c.args.buffer.now (header-fits c)

-- So it has room for the image.
room : (c : Start) {bytes : List ℕ} → bytes ≡ written_at 0 (header_line_of (sheet c)) c.args.buffer.now
    → tagless_length (sheet c).groups ≤ length bytes
unfolding stated_sheet
room c e = rw (kept c e) c.requires.room-enough

pub overflow_cast-count : goal.overflow_cast-count
overflow_cast-count c = record { fits = omega (arith, c.requires.few-tags) }

pub write_pair_line-requires : goal.write_pair_line-requires
unfolding tagless_length
write_pair_line-requires c = omega (arith, c.requires.room-enough)

pub loop-g-init : goal.loop-g-init
loop-g-init c = lines_start (sheet (goal.at.loop-g-init c).Start) _

pub write_group-requires : goal.write_group-requires
unfolding stated_sheet
write_group-requires c =
    let first = c.write_pair_line.ensures.bytes in
    let long = lines-kept (sheet (goal.at.write_group-requires c).Start) (room (goal.at.write_group-requires c).Start first)
    c.loop-g.invariant ∙ kept (goal.at.write_group-requires c).Start first in
    (rw long c.requires, c.loop-g-test.true)

pub loop-g-preserved : goal.loop-g-preserved
unfolding stated_sheet
loop-g-preserved c =
    lines-turn (sheet (goal.at.loop-g-preserved c).Start) (room (goal.at.loop-g-preserved c).Start c.write_pair_line.ensures.bytes)
    c.loop-g.invariant
    c.loop-g-test.true c.write_group.ensures.bytes

pub shape_of-buffer : goal.shape_of-buffer
unfolding stated_sheet
shape_of-buffer c =
    let first = c.write_pair_line.ensures.bytes in
    lines-kept (sheet (goal.at.shape_of-buffer c).Start) (room (goal.at.shape_of-buffer c).Start first) c.loop-g.invariant
    ∙ kept (goal.at.shape_of-buffer c).Start first

pub returns : goal.returns
unfolding stated_sheet
returns c =
    let first = c.write_pair_line.ensures.bytes in
    record {
      bytes = lines-done (sheet (goal.at.returns c).Start) (room (goal.at.returns c).Start first) c.loop-g.invariant c.args.buffer.now
          first c.loop-g-test.false;
    }
