-- `tagless_checking::read_lines` meets its contract: the lines before group g's are well formed, and their starts are stored.
-- Assumes nothing.
use mathlib.Core.Path.{◌≡◌, sym, ◌∙◌}
use mathlib.Core.Bool.{not}
use mathlib.Core.List.{List}
use Rattle.std.specs.Prelude.{Option}
use Prim.Native.Nat.{ℕ, suc, ◌+◌, ◌<◌}
use native.Mathlib.Omega.{arith}
use Rattle.lists.specs.First.{is_some}
use Rattle.lists.proofs.SearchLaws.{searched-start, searched-turn, searched-found, searched-done}
use Rattle.image.specs.Checking.{malformed_in}
use Rattle.tagless_image.specs.View.{tagless_view}
use Rattle.tagless_opening.specs.Opening.{TaglessOpens}
use Rattle.tagless_checking.specs.StepsLaws.{lines_start, line-tested, starts_none, starts-turn}
use Rattle.tagless_checking.proofs.read_lines.Goals as goal

-- What the line of group g states, and whether it is malformed.
module _ {image : List ℕ} {count groups : ℕ} (opens : TaglessOpens image count groups) (g : ℕ) (lt : g < groups) where
  states : {answer told : Option (ℕ × ℕ)} → answer ≡ (tagless_view image).group_at (suc g) → answer ≡ told
      → (tagless_view image).group_at (suc g) ≡ told
  states promised e = sym promised ∙ e

  tested : {o : Option (ℕ × ℕ)} → (tagless_view image).group_at (suc g) ≡ o → malformed_in (tagless_view image) (1 + g) ≡ not (is_some o)
  tested e = line-tested image opens g lt e

pub bounds-starts-groups : goal.bounds-starts-groups
bounds-starts-groups c = omega (arith, c.requires.tagless_opens.groups-legal)

pub loop-g-init : goal.loop-g-init
loop-g-init c =
    let a = c.args in
    let opens = c.requires.tagless_opens in
    record {
      searched = searched-start (malformed_in (tagless_view a.image.now)) 1 (1 + a.groups) (omega arith) (lines_start a.image.now opens);
      stored = starts_none a.image.now opens a.starts.now c.requires.starts_len;
    }

pub read_start_and_seed-requires : goal.read_start_and_seed-requires
read_start_and_seed-requires c = (c.loop-g-test.true, c.requires.tagless_opens.groups-legal)

pub returns-in_default : goal.returns-in_default
unfolding is_some
returns-in_default c =
    let a = c.args in
    let loop = c.loop-g in
    let opens = c.requires.tagless_opens in
    let lower = c.loop-g-test.true in
    let test = malformed_in (tagless_view a.image.now) in
    let below : 1 + loop.g < 1 + a.groups = omega (arith, lower) in
    let malformed = states opens loop.g lower c.read_start_and_seed.ensures.answer c.in_default.is in
    let found =
    searched-found test 1 (1 + a.groups) (1 + loop.g) loop.invariant.searched below (tested opens loop.g lower malformed) in
    record { answer = sym found; cells = loop.invariant.stored }

pub loop-g-preserved : goal.loop-g-preserved
unfolding is_some
loop-g-preserved c =
    let a = c.args in
    let loop = c.loop-g in
    let opens = c.requires.tagless_opens in
    let lower = c.loop-g-test.true in
    let numbers = states opens loop.g lower c.read_start_and_seed.ensures.answer c.in-Some.is in
    let next : 1 + (loop.g + 1) ≡ 1 + loop.g + 1 = omega arith in
    let test = malformed_in (tagless_view a.image.now) in
    record {
      searched =
          rw next (searched-turn test 1 (1 + a.groups) (1 + loop.g) loop.invariant.searched (omega arith)
          (tested opens loop.g lower numbers));
      stored = starts-turn a.image.now opens loop.g loop.starts lower numbers loop.invariant.stored;
    }

pub returns : goal.returns
returns c =
    let a = c.args in
    let read = c.loop-g.invariant in
    let end : c.loop-g.g ≡ a.groups = omega (arith, read.searched.within, c.loop-g-test.false) in
    let test = malformed_in (tagless_view a.image.now) in
    record
    { answer = sym (searched-done test 1 (1 + a.groups) (1 + c.loop-g.g) read.searched (omega arith)); cells = rw end at read.stored }
