-- `lookup::in_group` meets its contract: the group's lines are read, its fault is tested, and its slots decide. Assumes nothing.
use mathlib.Core.Path.{◌≡◌, refl, sym, ◌∙◌, ap}
use mathlib.Core.Bool.{or-true}
use mathlib.Core.List.{List}
use Prim.Native.Nat.{ℕ, ◌+◌, ◌*◌}
use lib.ListN.{take, drop}
use Rattle.std.specs.Prelude.{Option}
use native.Mathlib.Omega.{arith}
use borrow.Author.Tests.{lt-ltb}
use Rattle.refusal.specs.Outcome.{Outcome}
use Rattle.refusal.specs.Reason.{refusal_of}
use Rattle.hash.specs.Formula.{group_of}
use Rattle.hash.proofs.FormulaLaws.{group-below}
use Rattle.text.specs.Line.{line_length, line_at, group_line}
use Rattle.text.proofs.LineLaws.{line_said, group-only}
use Rattle.image.specs.Lookup.{Found}
use Rattle.image.specs.View.{view_of}
use Rattle.image.proofs.FaultLaws.{fair-of-faulty}
use Rattle.lookup.specs.Steps.{end_of, group_outcome}
use Rattle.lookup.specs.StepsLaws.{own-malformed, next-malformed, group-faulty, group-slots}
use Rattle.lookup.proofs.in_group.Goals as goal

-- What decides in the tag's group is the answer.
answers : (image : List ℕ) (t groups : ℕ) {g : ℕ} {outcome : Outcome Found} → g ≡ group_of groups t
    → outcome ≡ group_outcome (view_of image) t g → outcome ≡ group_outcome (view_of image) t (group_of groups t)
answers image t groups is e = rw (← is) e

-- The group's own line, and its end.
own : (image : List ℕ) (g : ℕ) {found told : Option (ℕ × ℕ)}
    → found ≡ group_line (take line_length (drop (line_length * (1 + g)) image)) → found ≡ told
    → group_line (line_at (1 + g) image) ≡ told
own image g answer is = line_said group_line image (1 + g) (1 + g) answer is refl

ends : (image : List ℕ) (g : ℕ) {found told : Option ℕ} → found ≡ end_of (view_of image) g → found ≡ told
    → end_of (view_of image) g ≡ told
ends image g answer is = sym answer ∙ is

pub returns-in_default : goal.returns-in_default
returns-in_default c =
    let image = c.args.image.now in
    let g = c.group_of-g.result in
    record {
      answer = answers image c.args.tag c.args.groups c.group_of-g.ensures.answer
          (ap refusal_of c.at.ensures.answer
          ∙ sym (own-malformed image c.args.tag g _ (omega arith) (own image g c.read_group_line.ensures.answer c.in_default.is)));
    }

pub group_end-requires : goal.group_end-requires
group_end-requires c = record {
  opens = c.requires;
  g_lt_groups = rw c.group_of-g.ensures.answer (group-below c.args.groups c.args.tag c.requires.groups-some);
}

pub returns-in_default-group_end : goal.returns-in_default-group_end
returns-in_default-group_end c =
    let image = c.args.image.now in
    let g = c.group_of-g.result in
    let line = own image g c.read_group_line.ensures.answer c.in-Some.is in
    let end = ends image g c.group_end.ensures.answer c.in_default-group_end.is in
    record {
      answer = answers image c.args.tag c.args.groups c.group_of-g.ensures.answer
          (ap refusal_of c.at-in_default-group_end.ensures.answer ∙ sym (next-malformed image c.args.tag g _ (omega arith) _ _ line end));
    }

pub returns-then-faulty : goal.returns-then-faulty
returns-then-faulty c =
    let image = c.args.image.now in
    let g = c.group_of-g.result in
    let line = own image g c.read_group_line.ensures.answer c.in-Some.is in
    let end = ends image g c.group_end.ensures.answer c.in-Some-group_end.is in
    let fault = sym c.faulty.ensures.answer ∙ c.if-faulty.true in
    record {
      answer = answers image c.args.tag c.args.groups c.group_of-g.ensures.answer
          (ap refusal_of c.at-then-faulty.ensures.answer ∙ sym (group-faulty image c.args.tag g _ (omega arith) _ _ line _ end (rw fault)));
    }

pub returns-then-count-end : goal.returns-then-count-end
returns-then-count-end c =
    let image = c.args.image.now in
    let g = c.group_of-g.result in
    let line = own image g c.read_group_line.ensures.answer c.in-Some.is in
    let end = ends image g c.group_end.ensures.answer c.in-Some-group_end.is in
    record {
      answer = answers image c.args.tag c.args.groups c.group_of-g.ensures.answer
          (ap refusal_of c.at-then-count-end.ensures.answer
          ∙ sym (group-faulty image c.args.tag g _ (omega arith) _ _ line _ end
          (rw (c.requires.count-is, lt-ltb _ _ c.if-count-end.true, or-true))));
    }

pub in_slots-requires : goal.in_slots-requires
in_slots-requires c =
    let image = c.args.image.now in
    let g = c.group_of-g.result in
    let pre = c.requires in
    let line = own image g c.read_group_line.ensures.answer c.in-Some.is in
    let fair = fair-of-faulty g _ _ (sym c.faulty.ensures.answer ∙ c.if-faulty.false) in
    record {
      image_value = pre.groups-is;
      groups_le_groups_max =
          (pre.groups-legal, fair.ascends, omega (arith, pre.count-legal, c.if-count-end.false), (group-only _ _ _ line).2);
    }

pub returns : goal.returns
returns c =
    let image = c.args.image.now in
    let g = c.group_of-g.result in
    let line = own image g c.read_group_line.ensures.answer c.in-Some.is in
    let end = ends image g c.group_end.ensures.answer c.in-Some-group_end.is in
    record {
      answer = answers image c.args.tag c.args.groups c.group_of-g.ensures.answer
          (c.in_slots.ensures.answer
          ∙ sym (group-slots image c.args.tag g _ (omega arith) _ _ line _ end
          (sym c.faulty.ensures.answer ∙ c.if-faulty.false) (rw c.requires.count-is c.if-count-end.false)));
    }
