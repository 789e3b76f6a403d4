-- `tagless_lookup::in_group` meets its contract: the group's lines are read, its fault is tested, and its word decides. Assumes nothing.
use borrow.Author.Rules.{rules}
use mathlib.Core.Path.{◌≡◌, sym, ◌∙◌, ap}
use mathlib.Core.Bool.{or-true}
use mathlib.Core.List.{List}
use Prim.Native.Nat.{ℕ, suc, ◌+◌, ◌-◌, ◌<◌}
use native.Mathlib.Omega.{arith}
use borrow.Author.Tests.{lt-ltb}
use Rattle.refusal.specs.Outcome.{Outcome}
use Rattle.refusal.specs.Reason.{refusal_of}
use Rattle.hash.specs.Formula.{group_of}
use Rattle.hash.proofs.FormulaLaws.{group-below, place-below}
use Rattle.word_line.proofs.WordLineLaws.{word-only}
use Rattle.image.specs.Lookup.{Found}
use Rattle.image.proofs.FaultLaws.{fair-of-faulty}
use Rattle.tagless_image.specs.View.{stated_at}
use Rattle.tagless_lookup.specs.Steps.{group_outcome}
use Rattle.tagless_lookup.proofs.StepsLaws.{own-malformed, next-malformed, group-faulty, group_empty, group-number}
use Rattle.tagless_lookup.proofs.in_group.Goals as goal

-- The code counts lines by sums.
suc-is : (k : ℕ) → 1 + k ≡ suc k
suc-is k = omega arith

suc-suc-is : (k : ℕ) → 2 + k ≡ suc (suc k)
suc-suc-is k = omega arith

-- The tag's group is one of the image's, and what decides in it is the answer.
module _ (image : List ℕ) (groups tag g : ℕ) (hashed : g ≡ group_of groups tag) where
  below : 0 < groups → g < groups
  below some_group = rw hashed (group-below groups tag some_group)

  answers : {outcome : Outcome Found} → outcome ≡ group_outcome image tag g → outcome ≡ group_outcome image tag (group_of groups tag)
  answers e = rw (← hashed) e

pub read_group-requires : goal.read_group-requires
read_group-requires c = (
  below c.args.image.now c.args.groups c.args.tag c.group_of-g.result c.group_of-g.ensures.answer c.requires.groups-some,
  c.requires.groups-legal,
)

pub returns-in_default : goal.returns-in_default
returns-in_default c =
    let a = c.args in
    let g = c.group_of-g.result in
    let malformed = sym c.read_group.ensures.answer ∙ c.in_default.is in
    record {
      answer = answers a.image.now a.groups a.tag g c.group_of-g.ensures.answer
          (ap refusal_of c.at.ensures.answer ∙ rw (suc-is g) (sym (own-malformed a.image.now a.tag g malformed)));
    }

pub group_end-requires : goal.group_end-requires
group_end-requires c = record {
  tagless_opens = c.requires;
  g_lt_groups =
      below c.args.image.now c.args.groups c.args.tag c.group_of-g.result c.group_of-g.ensures.answer c.requires.groups-some;
}

pub returns-in_default-group_end : goal.returns-in_default-group_end
returns-in_default-group_end c =
    let a = c.args in
    let g = c.group_of-g.result in
    let own = sym c.read_group.ensures.answer ∙ c.in-Some.is in
    let malformed = sym c.group_end.ensures.answer ∙ c.in_default-group_end.is in
    record {
      answer = answers a.image.now a.groups a.tag g c.group_of-g.ensures.answer
          (ap refusal_of c.at-in_default-group_end.ensures.answer
          ∙ rw (suc-suc-is g) (sym (next-malformed a.image.now a.tag g own malformed)));
    }

pub returns-then-faulty : goal.returns-then-faulty
returns-then-faulty c =
    let a = c.args in
    let g = c.group_of-g.result in
    let own = sym c.read_group.ensures.answer ∙ c.in-Some.is in
    let ends = sym c.group_end.ensures.answer ∙ c.in-Some-group_end.is in
    let fault = sym c.faulty.ensures.answer ∙ c.if-faulty.true in
    record {
      answer = answers a.image.now a.groups a.tag g c.group_of-g.ensures.answer
          (ap refusal_of c.at-then-faulty.ensures.answer ∙ sym (group-faulty a.image.now a.tag g own ends (rw fault)));
    }

pub returns-then-count-end : goal.returns-then-count-end
returns-then-count-end c =
    let a = c.args in
    let g = c.group_of-g.result in
    let own = sym c.read_group.ensures.answer ∙ c.in-Some.is in
    let ends = sym c.group_end.ensures.answer ∙ c.in-Some-group_end.is in
    record {
      answer = answers a.image.now a.groups a.tag g c.group_of-g.ensures.answer
          (ap refusal_of c.at-then-count-end.ensures.answer
          ∙ sym (group-faulty a.image.now a.tag g own ends (rw (c.requires.count-is, lt-ltb _ _ c.if-count-end.true, or-true))));
    }

-- The group is not faulty and ends at N or before.
pub returns-then-start-end : goal.returns-then-start-end
returns-then-start-end c =
    let a = c.args in
    let g = c.group_of-g.result in
    let own = sym c.read_group.ensures.answer ∙ c.in-Some.is in
    let ends = sym c.group_end.ensures.answer ∙ c.in-Some-group_end.is in
    let fair = sym c.faulty.ensures.answer ∙ c.if-faulty.false in
    record {
      answer = answers a.image.now a.groups a.tag g c.group_of-g.ensures.answer
          (sym (group_empty a.image.now a.tag g own ends fair (rw c.requires.count-is c.if-count-end.false) c.if-start-end.true));
    }

pub overflow_sub-end : goal.overflow_sub-end
overflow_sub-end c =
    let up = (fair-of-faulty _ _ _ (sym c.faulty.ensures.answer ∙ c.if-faulty.false)).ascends in
    search rules

pub place_by-requires : goal.place_by-requires
unfolding stated_at
place_by-requires c = (word-only _ _ _ _ (sym c.read_group.ensures.answer ∙ c.in-Some.is)).2

pub overflow_add-result : goal.overflow_add-result
overflow_add-result c =
    let up = (fair-of-faulty _ _ _ (sym c.faulty.ensures.answer ∙ c.if-faulty.false)).ascends in
    let small : c.place_by.result < c.in-Some-group_end.end - c.in-Some.start =
    rw c.place_by.ensures.answer (place-below _ _ _ _ (omega (arith, c.if-start-end.false))) in
    omega (arith, c.if-count-end.false)

pub returns : goal.returns
returns c =
    let a = c.args in
    let g = c.group_of-g.result in
    let own = sym c.read_group.ensures.answer ∙ c.in-Some.is in
    let ends = sym c.group_end.ensures.answer ∙ c.in-Some-group_end.is in
    let fair = sym c.faulty.ensures.answer ∙ c.if-faulty.false in
    record {
      answer = answers a.image.now a.groups a.tag g c.group_of-g.ensures.answer
          (rw c.place_by.ensures.answer
          (sym (group-number a.image.now a.tag g own ends fair (rw c.requires.count-is c.if-count-end.false) c.if-start-end.false)));
    }
