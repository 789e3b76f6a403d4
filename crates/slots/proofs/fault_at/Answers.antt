-- `slots::fault_at` meets its contract: a lower slot with the tag is the tag's other place, since no lower slot is misplaced. Assumes
-- nothing.
use mathlib.Core.Path.{◌≡◌, sym, ◌∙◌, ap}
use mathlib.Core.Logic.{⊎_elim}
use Prim.Native.Nat.{ℕ, ◌+◌, ◌-◌, ◌≤◌, ◌<◌, ◌^◌}
use native.Mathlib.Omega.{arith}
use lib.ListN.{get_or}
use Rattle.hash.specs.Formula.{place_of}
use mathlib.Core.List.{List}
use Rattle.std.specs.Prelude.{None}
use Rattle.refusal.specs.Limits.{tags_max}
use Rattle.lists.specs.First.{first}
use Rattle.image.specs.Checking.{misplaced}
use Rattle.slots.specs.Cells.{cells_view, Regular, InGroup}
use Rattle.slots.specs.EitherLaws.{either-of-zero, zero-of-either, either-fits}
use Rattle.slots.specs.SlotLaws.{Examined, own_below, slot-misplaced, other-within, slot-repeated, slot-sound}
use Rattle.slots.proofs.fault_at.Goals as goal

-- No slot is behind the most tags.
below_most : {k end : ℕ} → k < end → end ≤ tags_max → k < 2 ^ 12
below_most lt le = omega arith

-- The tag's slot under a choice is before the group's end.
below : {starts seeds : List ℕ} {groups g j : ℕ} (t : ℕ) → InGroup starts seeds groups g j → (choice : ℕ) {p : ℕ}
    → p ≡ place_of (get_or starts (g + 1) 0 - get_or starts g 0) (get_or seeds g 0) choice t
    → get_or starts g 0 + p < get_or starts (g + 1) 0
below {starts} {seeds} {groups} {g} {j} t inside choice is = rw is (own_below starts seeds groups g j inside choice t)

-- Slot j of group g, with what the two places of its tag answer.
examined : {starts seeds tags : List ℕ} {groups g j : ℕ} → Regular starts seeds groups → InGroup starts seeds groups g j
    → first (misplaced (cells_view starts seeds tags groups)) j ≡ None
    → {p q : ℕ} → p ≡ place_of (get_or starts (g + 1) 0 - get_or starts g 0) (get_or seeds g 0) 0 (get_or tags j 0)
    → q ≡ place_of (get_or starts (g + 1) 0 - get_or starts g 0) (get_or seeds g 0) 1 (get_or tags j 0)
    → Examined starts seeds tags groups g j (get_or starts g 0 + p) (get_or starts g 0 + q)
examined {starts} {g = g} regular inside lower one other = record {
  regular = regular;
  inside = inside;
  lower = lower;
  first-is = ap (λ (p : ℕ). get_or starts g 0 + p) one;
  second_is = ap (λ (p : ℕ). get_or starts g 0 + p) other;
}

pub overflow_add-first : goal.overflow_add-first
overflow_add-first c =
    record { fits = omega (arith, below _ c.requires.in_group 0 c.place_of.ensures.answer, c.requires.in_group.end-legal) }

pub overflow_add-second : goal.overflow_add-second
overflow_add-second c =
    record { fits = omega (arith, below _ c.requires.in_group 1 c.place_of-2.ensures.answer, c.requires.in_group.end-legal) }

pub returns-then-group_of-g : goal.returns-then-group_of-g
returns-then-group_of-g c =
    let pre = c.requires in
    let x = examined pre.regular pre.in_group pre.j_value c.place_of.ensures.answer c.place_of-2.ensures.answer in
    record { answer = slot-misplaced x (λ at-group at. c.if-group_of-g.true (c.group_of.ensures.answer ∙ at-group)) }

pub overflow_mul-first : goal.overflow_mul-first
overflow_mul-first c =
    let pre = c.requires in
    let legal = pre.in_group.end-legal in
    let first_below = below _ pre.in_group 0 c.place_of.ensures.answer in
    let second_below = below _ pre.in_group 1 c.place_of-2.ensures.answer in
    record {
      fits = omega (
        arith,
        either-fits _ _ c.args.j (below_most first_below legal) (below_most second_below legal)
            (below_most pre.in_group.below legal),
      );
    }

pub returns-then-first-j-ne0 : goal.returns-then-first-j-ne0
returns-then-first-j-ne0 c =
    let pre = c.requires in
    let x = examined pre.regular pre.in_group pre.j_value c.place_of.ensures.answer c.place_of-2.ensures.answer in
    record { answer = slot-misplaced x (λ at-group at. c.if-first-j-ne0.true (zero-of-either _ _ _ at)) }

pub overflow_sub-other : goal.overflow_sub-other
overflow_sub-other c =
    let start = get_or c.args.starts.now c.args.g 0 in
    ⊎_elim (λ at. omega (arith, at)) (λ at. omega (arith, at))
    (either-of-zero (start + c.place_of.result) (start + c.place_of-2.result) c.args.j c.if-first-j-ne0.false)

pub bounds-tags-other : goal.bounds-tags-other
bounds-tags-other c =
    let pre = c.requires in
    let x = examined pre.regular pre.in_group pre.j_value c.place_of.ensures.answer c.place_of-2.ensures.answer in
    let group = sym c.group_of.ensures.answer ∙ c.if-group_of-g.false in
    omega (arith, other-within x group (either-of-zero _ _ _ c.if-first-j-ne0.false), pre.in_group.end-legal)

pub returns-then-other-j : goal.returns-then-other-j
returns-then-other-j c =
    let pre = c.requires in
    let x = examined pre.regular pre.in_group pre.j_value c.place_of.ensures.answer c.place_of-2.ensures.answer in
    let group = sym c.group_of.ensures.answer ∙ c.if-group_of-g.false in
    record { answer = slot-repeated x group (either-of-zero _ _ _ c.if-first-j-ne0.false) c.if-tags-other.true c.if-other-j.true }

pub returns-else-other-j : goal.returns-else-other-j
returns-else-other-j c =
    let pre = c.requires in
    let x = examined pre.regular pre.in_group pre.j_value c.place_of.ensures.answer c.place_of-2.ensures.answer in
    let group = sym c.group_of.ensures.answer ∙ c.if-group_of-g.false in
    record { answer = slot-sound x group (either-of-zero _ _ _ c.if-first-j-ne0.false) (λ same lower. omega (arith, c.if-other-j.false)) }

pub returns-else-tags-other : goal.returns-else-tags-other
returns-else-tags-other c =
    let pre = c.requires in
    let x = examined pre.regular pre.in_group pre.j_value c.place_of.ensures.answer c.place_of-2.ensures.answer in
    let group = sym c.group_of.ensures.answer ∙ c.if-group_of-g.false in
    record { answer = slot-sound x group (either-of-zero _ _ _ c.if-first-j-ne0.false) (λ same lower. c.if-tags-other.false same) }
