-- `checking::read_group_lines` meets its contract: the lines before that of group g are well formed and stored, and the first that is
-- not a group line ends the loop. Assumes nothing.
use mathlib.Core.Path.{◌≡◌, refl, sym}
use mathlib.Core.List.{List}
use mathlib.Core.Bool.{not}
use Rattle.std.specs.Prelude.{Option, None, Some}
use Prim.Native.Nat.{ℕ, ◌+◌, ◌*◌, ◌<◌}
use native.Mathlib.Omega.{arith}
use Rattle.lists.specs.First.{is_some}
use Rattle.lists.proofs.SearchLaws.{searched-start, searched-turn, searched-found, searched-done}
use Rattle.text.specs.Line.{line_length, line_at, group_line}
use Rattle.text.proofs.LineLaws.{line_said}
use Rattle.image.specs.View.{view_of}
use Rattle.image.specs.Checking.{malformed_in}
use lib.ListN.{take, drop}
use Rattle.opening.specs.Opening.{Opens}
use Rattle.checking.specs.StepsLaws.{lines_start, group-line-tested, groups_none, groups-turn}
use Rattle.checking.proofs.read_group_lines.Goals as goal

-- What the line of a group says.
states : (image : List ℕ) (g : ℕ) {found told : Option (ℕ × ℕ)}
    → found ≡ group_line (take line_length (drop (line_length * (1 + g)) image)) → found ≡ told
    → group_line (line_at (1 + g) image) ≡ told
states image g answer e = line_said group_line image (1 + g) (1 + g) answer e refl

module _ (image : List ℕ) {count groups g : ℕ} (opens : Opens image count groups) (lower : g < groups) where
  below : 1 + g < 1 + groups
  below = omega (arith, lower)

  tested : (o : Option (ℕ × ℕ)) → group_line (line_at (1 + g) image) ≡ o → malformed_in (view_of image) (1 + g) ≡ not (is_some o)
  tested o e = group-line-tested image opens (1 + g) (omega arith) below o e

pub bounds-starts-groups : goal.bounds-starts-groups
bounds-starts-groups c = omega (arith, c.requires.opens.groups-legal)

pub loop-g-init : goal.loop-g-init
loop-g-init c =
    let a = c.args in
    let opens = c.requires.opens in
    record {
      searched = searched-start (malformed_in (view_of a.image.now)) 1 (1 + a.groups) (omega arith) (lines_start a.image.now opens);
      stored = groups_none a.image.now opens a.starts.now a.seeds.now c.requires.starts_len.0 c.requires.starts_len.1;
    }

pub returns-in_default : goal.returns-in_default
unfolding is_some
returns-in_default c =
    let image = c.args.image.now in
    let groups = c.args.groups in
    let g = c.loop-g.g in
    let opens = c.requires.opens in
    let lower = c.loop-g-test.true in
    let malformed = tested image opens lower None (states image g c.read_group_line.ensures.answer c.in_default.is) in
    let test = malformed_in (view_of image) in
    let found = searched-found test 1 (1 + groups) (1 + g) c.loop-g.invariant.searched (below image opens lower) malformed in
    record { answer = sym found; cells = c.loop-g.invariant.stored }

pub loop-g-preserved : goal.loop-g-preserved
unfolding is_some
loop-g-preserved c =
    let image = c.args.image.now in
    let groups = c.args.groups in
    let g = c.loop-g.g in
    let loop = c.loop-g in
    let opens = c.requires.opens in
    let lower = c.loop-g-test.true in
    let numbers = states image g c.read_group_line.ensures.answer c.in-Some.is in
    let next : 1 + (g + 1) ≡ 1 + g + 1 = omega arith in
    let test = malformed_in (view_of image) in
    let well-formed = tested image opens lower (Some _) numbers in
    record {
      searched = rw next (searched-turn test 1 (1 + groups) (1 + g) loop.invariant.searched (below image opens lower) well-formed);
      stored = groups-turn image opens g _ _ loop.starts loop.seeds lower numbers loop.invariant.stored;
    }

pub returns : goal.returns
returns c =
    let a = c.args in
    let read = c.loop-g.invariant in
    let end : c.loop-g.g ≡ a.groups = omega (arith, read.searched.within, c.loop-g-test.false) in
    let test = malformed_in (view_of a.image.now) in
    record {
      answer = sym (searched-done test 1 (1 + a.groups) (1 + c.loop-g.g) read.searched (omega arith));
      cells = rw end at read.stored;
    }
