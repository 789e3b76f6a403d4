-- `tagless_seeds::least_worded_seed` meets its contract: no seed passed over has a word, neither one that the ones of the occupancy word
-- drop nor one that the equations decide. Assumes nothing.
use Prim.Native.Nat.{ℕ, ◌+◌, ◌*◌, ◌≤◌, ◌<◌}
use mathlib.Core.Path.{◌≡◌, sym, ◌∙◌}
use mathlib.Core.List.{List}
use native.Mathlib.Omega.{arith}
use lib.Count.{ones}
use lib.ListN.{length}
use borrow.Author.Count.{below_more}
use Rattle.refusal.specs.Limits.{group_max}
use Rattle.group.specs.Group.{group_under}
use Rattle.group.proofs.GroupLaws.{group-size, group-below}
use Rattle.candidates.specs.LaidLaws.{group-cells}
use Rattle.places.specs.Array.{laid_into}
use Rattle.std.specs.Prelude.{Option, Some, None}
use Rattle.places.specs.Array.{keys_of}
use Rattle.equations.specs.Equation.{least_of_rows}
use Rattle.tagless_seeds.specs.Rows.{rows_into}
use lib.ListN.{take}
use Rattle.seeds.specs.Occupancy.{occupancy_of}
use Rattle.seeds.specs.OccupancyLaws.{ones_none}
use Rattle.tagless_group.specs.Words.{least_word}
use Rattle.tagless_group.proofs.WordsLaws.{NoWord, least_word-some, least_word-none, no_word-of-none_fills, worded_seed-only}
use Rattle.tagless_group.proofs.WordsLaws.{worded_seed-out}
use Rattle.equations.specs.Stated.{Stated}
use Rattle.tagless_seeds.specs.RowsLaws.{rows-cells, group-stated, least_word-arrays}
use Rattle.tagless_seeds.proofs.least_worded_seed.Invariants.{Passed}
use Rattle.tagless_seeds.proofs.least_worded_seed.Goals as goal

-- One seed more that has none.
passed-more : {tags : List ℕ} {limit : ℕ} {places rows places' rows' : List ℕ} {next : ℕ} → Passed tags limit places rows next
    → next < limit → NoWord tags next → length places' ≡ 2 * group_max → length rows' ≡ group_max
    → Passed tags limit places' rows' (next + 1)
passed-more passed lt nothing p r =
    record { upto = omega arith; nothing = below_more _ _ passed.nothing nothing; places-size = p; rows-size = r }

-- The early drop: nothing fills, so no word does.
dropped : (tags : List ℕ) (s : ℕ) {word : ℕ} → word ≡ occupancy_of (group_under tags s) → (ones word ≡ length tags → ⊥) → NoWord tags s
dropped tags s occupied other =
    no_word-of-none_fills tags s
    (ones_none (length tags) (group_under tags s) (group-size tags s) (group-below tags s) (rw occupied at other))

-- The candidate places and the rows under a seed are laid out: the arrays state the group, and the equations decide the seed.
module _
    (tags : List ℕ) (s : ℕ) (cells before : List ℕ) {places rows : List ℕ} (few : length tags ≤ group_max)
    (room : length cells ≡ 2 * group_max) (laid : places ≡ laid_into (group_under tags s) cells)
    (size : length before ≡ group_max) (rowed : rows ≡ rows_into tags s before) where
  stated : {n : ℕ} → n ≡ length tags → Stated n places rows
  stated e = rw e (group-stated tags s before few size rowed cells room laid)

  decided : {n : ℕ} → n ≡ length tags → (answer : Option ℕ) → answer ≡ least_of_rows 32 (keys_of n places) (take n rows)
      → answer ≡ least_word tags s
  decided n answer promised = (rw n at promised) ∙ least_word-arrays tags s before few size rowed cells room laid

pub returns : goal.returns
returns c =
    let passed = c.loop-seed.invariant in
    let a = c.args in
    record { answer = sym (worded_seed-out a.tags.now a.limit (λ t lt. passed.nothing t (omega (arith, c.loop-seed-test.false)))) }

pub loop-seed-preserved-then-occupied-n : goal.loop-seed-preserved-then-occupied-n
loop-seed-preserved-then-occupied-n c =
    let tags = c.args.tags.now in
    let at = c.loop-seed in
    let passed = at.invariant in
    passed-more passed c.loop-seed-test.true
    (dropped tags at.seed c.lay_out-occupied.ensures.answer (λ e. c.if-occupied-n.true (e ∙ sym c.size_of-n.ensures.answer)))
    (group-cells tags at.seed at.places c.requires.0 passed.places-size c.lay_out-occupied.ensures.cells)
    passed.rows-size

pub least_word-requires : goal.least_word-requires
least_word-requires c =
    let at = c.loop-seed in
    stated c.args.tags.now at.seed at.places at.rows c.requires.0 at.invariant.places-size c.lay_out-occupied.ensures.cells
    at.invariant.rows-size
    c.lay_rows.ensures.cells c.size_of-n.ensures.answer

pub returns-in-Some : goal.returns-in-Some
returns-in-Some c =
    let tags = c.args.tags.now in
    let at = c.loop-seed in
    let found = decided tags at.seed at.places at.rows c.requires.0 at.invariant.places-size c.lay_out-occupied.ensures.cells
    at.invariant.rows-size
    c.lay_rows.ensures.cells c.size_of-n.ensures.answer (Some c.in-Some.word) c.in-Some.ensures.answer in
    record {
      answer = sym (worded_seed-only tags c.args.limit (record {
        below = c.loop-seed-test.true;
        least = least_word-some tags at.seed (sym found);
        passed = at.invariant.nothing;
      }));
    }

pub loop-seed-preserved : goal.loop-seed-preserved
loop-seed-preserved c =
    let tags = c.args.tags.now in
    let at = c.loop-seed in
    let passed = at.invariant in
    let nothing = decided tags at.seed at.places at.rows c.requires.0 passed.places-size c.lay_out-occupied.ensures.cells
    passed.rows-size
    c.lay_rows.ensures.cells c.size_of-n.ensures.answer None c.in_default.ensures.answer in
    passed-more passed c.loop-seed-test.true (least_word-none tags at.seed (sym nothing))
    (group-cells tags at.seed at.places c.requires.0 passed.places-size c.lay_out-occupied.ensures.cells)
    (rows-cells tags at.seed at.rows c.requires.0 passed.rows-size c.lay_rows.ensures.cells)
