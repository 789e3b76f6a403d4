-- `writing::write_ordered` meets its contract: where some sequence fills every group under its seed, what is written is the image.
-- Assumes nothing.
use mathlib.Core.Path.{◌≡◌, sym, ◌∙◌, ap}
use mathlib.Core.List.{List, ◌++◌}
use Rattle.std.specs.Prelude.{None}
use native.Mathlib.Omega.{arith}
use Prim.Native.Nat.{ℕ}
use lib.ListN.{length, drop, replicate}
use Rattle.refusal.specs.Reason.{refusal_of}
use Rattle.refusal.specs.Limits.{tags_max}
use Rattle.refusal.specs.Outcome.{answered}
use Rattle.lists.specs.First.{first}
use Rattle.image.specs.Sheet.{bytes_of, image_length}
use Rattle.numbering.specs.Plan.{planned_groups}
use Rattle.numbering.specs.Writing.{unfilled, writing_checks}
use Rattle.numbering.proofs.WritingLaws.{writing-refused, writing-kept, writing-written}
use Rattle.arrange.specs.Arrange.{slots_into, unfilled_part}
use Rattle.writing.specs.Arrays.{Orderly}
use Rattle.std.specs.Prelude.{Option, None}
use Rattle.arrange.specs.SlotsLaws.{slots_kept}
use Rattle.write.specs.Stated.{stated_sheet}
use Rattle.writing.specs.ArraysLaws.{fit, groups-legal, seeds, arrangeable, unfilled-first, writable, written-bytes, size-answered}
use Rattle.writing.proofs.write_ordered.Goals as goal

abbrev zeros : List ℕ
zeros = replicate tags_max 0

-- Where every group is filled, and the slots then.
module _ {tags : List ℕ} {groups : ℕ} {plan ordered ends : List ℕ} {room : ℕ} (o : Orderly tags groups plan ordered ends room) where
  every : {found : Option ℕ} → found ≡ first (unfilled_part ordered ends (seeds o)) groups → found ≡ None
      → first (unfilled tags plan) (planned_groups plan) ≡ None
  every answer is = sym (unfilled-first o) ∙ sym answer ∙ is

  slots-long : {slots : List ℕ} → slots ≡ slots_into ordered ends (seeds o) groups zeros → length slots ≡ tags_max
  slots-long are = ap length are ∙ slots_kept o.sorted.parts (seeds o) groups (omega arith) zeros o.few-cells

pub arrange-requires : goal.arrange-requires
arrange-requires c = arrangeable c.requires

pub returns-in-Some : goal.returns-in-Some
unfolding writing_checks
returns-in-Some c =
    let a = c.args in
    let due = sym (unfilled-first c.requires) ∙ sym c.arrange.ensures.answer ∙ c.in-Some.is in
    let outcome = writing-refused a.tags.now a.plan.now (length a.buffer.now) 18 c.requires.passes due in
    record {
      answer = ap refusal_of c.at.ensures.answer ∙ sym outcome;
      bytes = sym (writing-kept a.tags.now a.plan.now a.buffer.now outcome);
    }

pub slice_bounds-write_lines-end : goal.slice_bounds-write_lines-end
slice_bounds-write_lines-end c = sym (slots-long c.requires (rw c.in_default.is at c.arrange.ensures.cells))

pub write_lines-requires : goal.write_lines-requires
write_lines-requires c =
    let slots-are = rw c.in_default.is at c.arrange.ensures.cells in
    rw slots-are (writable c.requires (every c.requires c.arrange.ensures.answer c.in_default.is) zeros)

pub image_length-requires : goal.image_length-requires
image_length-requires c = ((groups-legal c.requires).1, (fit c.requires).count-legal)

pub returns : goal.returns
returns c =
    let a = c.args in
    let slots-are = rw c.in_default.is at c.arrange.ensures.cells in
    let every = every c.requires c.arrange.ensures.answer c.in_default.is in
    let outcome = size-answered c.requires every zeros in
    let stated = ap (λ (l : List ℕ). bytes_of (stated_sheet a.ends.now (seeds c.requires) l a.groups (length a.tags.now))
    ++ drop (image_length a.groups (length a.tags.now)) a.buffer.now) slots-are in
    record {
      answer = ap answered c.image_length.ensures.answer ∙ sym outcome;
      bytes =
          c.write_lines.ensures.bytes
          ∙ stated
          ∙ written-bytes c.requires every zeros a.buffer.now
          ∙ sym (writing-written a.tags.now a.plan.now a.buffer.now outcome);
    }
