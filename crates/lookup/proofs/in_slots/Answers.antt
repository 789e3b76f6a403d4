-- `lookup::in_slots` meets its contract: a slot's line is malformed, holds the tag, or leaves it to the next choice. Assumes nothing.
use mathlib.Core.Path.{◌≡◌, refl, sym, ◌∙◌, ap}
use mathlib.Core.List.{List}
use Rattle.std.specs.Prelude.{Some}
use Prim.Native.Nat.{ℕ, ◌+◌, ◌-◌, ◌<◌}
use native.Mathlib.Omega.{arith}
use Rattle.refusal.specs.Reason.{refusal_of}
use Rattle.hash.specs.Formula.{place_of}
use Rattle.hash.proofs.FormulaLaws.{place-below}
use Rattle.text.specs.Line.{slot_line}
use Rattle.text.proofs.LineLaws.{line_said}
use Rattle.image.specs.View.{view_of}
use Rattle.image.specs.Lookup.{at_slot}
use Rattle.lookup.specs.Steps.{slots_of, slots_from}
use Rattle.lookup.specs.StepsLaws.{slots-empty, slots_filled, slots-turn, slots-done, slot-malformed, slot-holds, slot-other}
use Rattle.lookup.proofs.in_slots.Invariants.{Left}
use Rattle.lookup.proofs.in_slots.Goals as goal

looked : (image : List ℕ) (start end seed t choice : ℕ) → Left image start end seed t choice → choice < 2 → {p : ℕ}
    → p ≡ place_of (end - start) seed choice t
    → slots_of (view_of image) start end seed t
    ≡ at_slot (view_of image) t (start + p) (slots_from (view_of image) start (end - start) seed t (choice + 1))
looked image start end seed t choice inv lt place = inv.left ∙ slots-turn image start (end - start) seed t choice lt ∙ rw place

pub returns-then-start-end : goal.returns-then-start-end
returns-then-start-end c =
    let a = c.args in
    record { answer = sym (slots-empty a.image.now a.start a.end a.seed a.tag c.if-start-end.true) }

pub loop-choice-init : goal.loop-choice-init
loop-choice-init c =
    let a = c.args in
    record { few = omega arith; left = slots_filled a.image.now a.start a.end a.seed a.tag c.if-start-end.false }

pub overflow_add-slot : goal.overflow_add-slot
overflow_add-slot c =
    let a = c.args in
    let inside : c.place_of.result < a.end - a.start =
    rw c.place_of.ensures.answer (place-below (a.end - a.start) a.seed _ a.tag (omega (arith, c.if-start-end.false))) in
    record { fits = omega arith }

pub returns-in_default : goal.returns-in_default
returns-in_default c =
    let a = c.args in
    let line = line_said slot_line a.image.now _ _ c.read_slot_line.ensures.answer c.in_default.is refl in
    let left =
    looked a.image.now a.start a.end a.seed a.tag _ c.loop-choice.invariant c.loop-choice-test.true
    c.place_of.ensures.answer in
    let malformed = slot-malformed a.image.now a.groups a.tag _ c.requires.image_value _ line in
    record { answer = ap refusal_of c.at.ensures.answer ∙ sym (left ∙ malformed) }

pub returns-then-held-tag : goal.returns-then-held-tag
returns-then-held-tag c =
    let a = c.args in
    let told = c.in-Some.is in
    let line = line_said slot_line a.image.now _ _ c.read_slot_line.ensures.answer told refl in
    let left =
    looked a.image.now a.start a.end a.seed a.tag _ c.loop-choice.invariant c.loop-choice-test.true
    c.place_of.ensures.answer in
    record { answer = sym (left ∙ slot-holds a.image.now a.groups a.tag _ c.requires.image_value _ (line ∙ ap Some c.if-held-tag.true)) }

pub loop-choice-preserved : goal.loop-choice-preserved
loop-choice-preserved c =
    let a = c.args in
    let told = c.in-Some.is in
    let line = line_said slot_line a.image.now _ _ c.read_slot_line.ensures.answer told refl in
    let left =
    looked a.image.now a.start a.end a.seed a.tag _ c.loop-choice.invariant c.loop-choice-test.true
    c.place_of.ensures.answer in
    record {
      few = omega (arith, c.loop-choice-test.true);
      left = left ∙ slot-other a.image.now a.groups a.tag _ c.requires.image_value _ line c.if-held-tag.false;
    }

pub returns : goal.returns
returns c =
    let a = c.args in
    let inv = c.loop-choice.invariant in
    record {
      answer = sym (inv.left ∙ slots-done a.image.now a.start (a.end - a.start) a.seed a.tag c.loop-choice.choice c.loop-choice-test.false);
    }
