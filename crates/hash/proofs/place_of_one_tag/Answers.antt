-- `hash::place_of_one_tag` meets its contract: each branch is one of the four ways in which the operation ends.
-- Assumes nothing.
use mathlib.Core.Path.{◌≡◌, sym}
use mathlib.Core.Bool.{false}
use Rattle.refusal.specs.Limits.{group_max, outside}
use Rattle.hash.proofs.OneTagLaws.{one-tag-size, one-tag-seed, one-tag-choice, one-tag-place}
use Rattle.hash.proofs.place_of_one_tag.Goals as goal

pub returns-then-outside : goal.returns-then-outside
returns-then-outside c =
    let a = c.args in
    record { answer = rw c.into.ensures (sym (one-tag-size a.n a.seed a.choice a.tag (cc))) }

pub returns-then-seed-gt-SEED_MAX : goal.returns-then-seed-gt-SEED_MAX
returns-then-seed-gt-SEED_MAX c =
    let a = c.args in
    let in-range : outside 1 group_max a.n ≡ false = cc in
    record {
      answer = rw c.into-then-seed-gt-SEED_MAX.ensures (sym (one-tag-seed a.n a.seed a.choice a.tag in-range c.if-seed-gt-SEED_MAX.true));
    }

pub returns-then-choice-gt1 : goal.returns-then-choice-gt1
returns-then-choice-gt1 c =
    let a = c.args in
    let in-range : outside 1 group_max a.n ≡ false = cc in
    record {
      answer = rw c.into-then-choice-gt1.ensures
          (sym (one-tag-choice a.n a.seed a.choice a.tag in-range c.if-seed-gt-SEED_MAX.false c.if-choice-gt1.true));
    }

pub returns : goal.returns
returns c =
    let a = c.args in
    let in-range : outside 1 group_max a.n ≡ false = cc in
    record {
      answer = rw c.place_of.ensures.answer
          (sym (one-tag-place a.n a.seed a.choice a.tag in-range c.if-seed-gt-SEED_MAX.false c.if-choice-gt1.false));
    }
