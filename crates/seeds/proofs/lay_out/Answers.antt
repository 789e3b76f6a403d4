-- `seeds::lay_out` meets its contract: a turn sets the bits of one tag more, those of its first place in one word and of its second in
-- the other. Assumes nothing.
use Prim.Native.Nat.{ℕ, ◌<◌}
use mathlib.Core.Path.{◌≡◌, sym}
use mathlib.Core.Bool.{Bool, true, false}
use mathlib.Core.List.{List}
use native.Mathlib.Omega.{arith}
use lib.ListN.{length}
use lib.Seq.{take_all}
use Rattle.group.specs.Group.{group_under}
use Rattle.group.proofs.GroupLaws.{group-size}
use Rattle.filling.specs.Filling.{Key}
use Rattle.filling.specs.Separate.{key_place}
use Rattle.places.specs.Array.{entry_of, laid_into}
use Rattle.candidates.specs.LaidLaws.{group-place, group-within}
use Rattle.seeds.specs.OccupancyLaws.{half-none, half-more, halves-occupied}
use Rattle.seeds.proofs.lay_out.Goals as goal
use Rattle.seeds.proofs.lay_out.Goals.{After-candidate_places}

-- The candidate places are laid out: the tags, the seed, the keys, and the cells after that.
abbrev Laid : Type 0
Laid = After-candidate_places

abbrev tags : Laid → List ℕ
tags c = c.args.tags.now

abbrev seed : Laid → ℕ
seed c = c.args.seed

abbrev keys : Laid → List Key
keys c = group_under (tags c) (seed c)

abbrev cells : Laid → List ℕ
cells c = c.candidate_places.new.places

laid : (c : Laid) → cells c ≡ laid_into (keys c) c.args.places.now
laid c = rw c.requires.1 at c.candidate_places.ensures.cells

place-of : (c : Laid) (i : ℕ) → i < length (tags c) → (choice : Bool) → entry_of (cells c) i choice ≡ key_place (keys c) i choice
place-of c = group-place (tags c) (seed c) _ (omega arith) (omega arith) (laid c)

within : (c : Laid) (i : ℕ) → i < length (tags c) → (choice : Bool) → entry_of (cells c) i choice < length (tags c)
within c = group-within (tags c) (seed c) _ (omega arith) (omega arith) (laid c)

pub loop-i-init : goal.loop-i-init
loop-i-init c = (
  omega arith,
  sym (half-none false (keys (goal.at.loop-i-init c).After-candidate_places)),
  sym
      (half-none true (keys (goal.at.loop-i-init c).After-candidate_places)),
)

pub with_bit-first-requires : goal.with_bit-first-requires
unfolding entry_of
with_bit-first-requires c =
    omega (arith, within (goal.at.with_bit-first-requires c).After-candidate_places c.loop-i.i (omega arith) false)

pub with_bit-second-requires : goal.with_bit-second-requires
unfolding entry_of
with_bit-second-requires c =
    omega (arith, within (goal.at.with_bit-second-requires c).After-candidate_places c.loop-i.i (omega arith) true)

pub loop-i-preserved : goal.loop-i-preserved
unfolding entry_of
loop-i-preserved c =
    let i = c.loop-i.i in
    let place = place-of (goal.at.loop-i-preserved c).After-candidate_places i (omega arith) in
    let inside : i < length (keys (goal.at.loop-i-preserved c).After-candidate_places) = omega (
      arith,
      group-size
          (tags (goal.at.loop-i-preserved c).After-candidate_places) (seed (goal.at.loop-i-preserved c).After-candidate_places),
    ) in (
      omega arith,
      rw (c.with_bit-first.ensures.answer, c.loop-i.invariant.1, place false)
          (sym (half-more false (keys (goal.at.loop-i-preserved c).After-candidate_places) i inside)),
      rw (c.with_bit-second.ensures.answer, c.loop-i.invariant.2, place true)
          (sym (half-more true (keys (goal.at.loop-i-preserved c).After-candidate_places) i inside)),
    )

pub returns : goal.returns
returns c =
    let all = take_all c.loop-i.i (keys (goal.at.returns c).After-candidate_places)
    (omega (arith, group-size (tags (goal.at.returns c).After-candidate_places) (seed (goal.at.returns c).After-candidate_places))) in
    record {
      answer = rw (c.loop-i.invariant.1, c.loop-i.invariant.2, all)
          (halves-occupied (keys (goal.at.returns c).After-candidate_places));
      cells = laid (goal.at.returns c).After-candidate_places;
    }
