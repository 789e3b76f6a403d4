-- `strict_group::placed_otherwise` meets its contract: the tags are placed, since the stated seed serves them, and what they are given
-- is compared. Assumes nothing.
use Prim.Native.Nat.{◌≤◌}
use mathlib.Core.Path.{◌≡◌, sym, ◌∙◌, ap}
use lib.ListN.{length}
use lib.Seq.{length-take-le}
use Rattle.refusal.specs.Limits.{group_max, limit_max}
use Rattle.refusal.specs.Outcome.{answered}
use Rattle.sorting.specs.Sorted.{sorted}
use Rattle.group.specs.Placing.{placing_of}
use Rattle.placing.specs.Answer.{placing_outcome}
use Rattle.strict_group.specs.PlacedLaws.{placing-never, placed-is, placed-arrangeable, tags-few, seed-differs, slots-decide}
use Rattle.strict_group.proofs.placed_otherwise.Goals as goal
use Rattle.strict_group.proofs.placed_otherwise.Goals.{Else-placed-seed, In-Ok}

-- What placing answered, for the tags in the slots.
placed : (c : In-Ok)
    → answered (record { seed = c.in-Ok.placed.seed; word = c.in-Ok.placed.word }) ≡ placing_of (sorted c.args.slots.now) limit_max
placed c = rw c.requires.tags_value at (sym (ap placing_outcome c.in-Ok.is) ∙ c.place_group.ensures.answer)

few : (c : Else-placed-seed) → length c.args.tags.now ≤ group_max
few c = rw c.requires.tags_value (tags-few c.requires.servable)

pub returns-in_default : goal.returns-in_default
returns-in_default c =
    let told = sym c.place_group.ensures.answer ∙ ap placing_outcome c.in_default.is in
    record { answer = absurd (placing-never c.requires.servable (rw c.requires.tags_value at told)) }

pub returns-then-placed-seed : goal.returns-then-placed-seed
returns-then-placed-seed c =
    let (least-is, word-is) = placed-is c.requires.servable (placed (goal.at.returns-then-placed-seed c).In-Ok) in
    record { answer = sym (seed-differs c.args.seed c.args.slots.now (λ e. c.if-placed-seed.true (least-is ∙ e))) }

pub slice_bounds-given-end : goal.slice_bounds-given-end
slice_bounds-given-end c = few (goal.at.slice_bounds-given-end c).Else-placed-seed

pub slice_bounds-slots_differ-end : goal.slice_bounds-slots_differ-end
slice_bounds-slots_differ-end c = sym (length-take-le _ _ (few (goal.at.slice_bounds-slots_differ-end c).Else-placed-seed))

pub slots_differ-requires : goal.slots_differ-requires
slots_differ-requires c =
    let at = goal.at.slots_differ-requires c in
    placed-arrangeable c.requires.servable c.requires.tags_value (placed at.In-Ok) c.if-placed-seed.false
    (length-take-le _ _ (few at.Else-placed-seed))

pub returns : goal.returns
returns c =
    let (least-is, word-is) = placed-is c.requires.servable (placed (goal.at.returns c).In-Ok) in
    record {
      answer = c.slots_differ.ensures.answer
          ∙ slots-decide c.args.seed c.args.slots.now c.requires.tags_value (sym least-is ∙ c.if-placed-seed.false);
    }
