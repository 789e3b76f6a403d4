-- `checking::check_cells` meets its contract: the lowest slot that holds 0 decides; where none does, the lowest faulty group; and
-- where none is, the fault of the slots. Assumes nothing.
use mathlib.Core.Path.{◌≡◌, sym, ◌∙◌, ap}
use Rattle.std.specs.Prelude.{Option, None, Some}
use Prim.Native.Nat.{ℕ}
use lib.ListN.{get_or}
use Rattle.refusal.specs.Outcome.{answered}
use Rattle.refusal.specs.Reason.{refusal_of}
use Rattle.slots.specs.declared.SlotFault.{SlotFault}
use Rattle.slots.specs.Fault.{fault_before}
use mathlib.Core.List.{List}
use Rattle.refusal.specs.Checks.{in_order}
use Rattle.lists.specs.First.{first}
use Rattle.image.specs.Checking.{number_checks}
use Rattle.slots.specs.Cells.{cells_view}
use Rattle.checking.specs.Steps.{unwired_at, faulty_at, fault_outcome}
use Rattle.checking.specs.StepsLaws.{regular-of, numbers-unwired, numbers-faulty, numbers-slots}
use Rattle.checking.proofs.check_cells.Goals as goal

-- Where no slot holds 0, and no group is faulty, the slots are walked.
module _ (starts seeds tags : List ℕ) (groups : ℕ) where
  wired : {found : Option ℕ} → found ≡ first (unwired_at tags) (get_or starts groups 0) → found ≡ None
      → first (unwired_at tags) (get_or starts groups 0) ≡ None
  wired answer is = sym answer ∙ is

  fair : {found : Option ℕ} → found ≡ first (faulty_at starts) groups → found ≡ None → first (faulty_at starts) groups ≡ None
  fair answer is = sym answer ∙ is

  outcome : {unwired faulty : Option ℕ} {walked told : Option SlotFault}
      → unwired ≡ first (unwired_at tags) (get_or starts groups 0) → unwired ≡ None
      → faulty ≡ first (faulty_at starts) groups → faulty ≡ None
      → walked ≡ fault_before (cells_view starts seeds tags groups) (get_or starts groups 0) → walked ≡ told
      → in_order {A = ℕ} (number_checks (cells_view starts seeds tags groups)) (answered 0) ≡ fault_outcome told
  outcome first first-is second second_is third is =
      numbers-slots starts seeds tags groups (wired first first-is) (fair second second_is) ∙ ap fault_outcome (sym third ∙ is)

pub returns-in-Some : goal.returns-in-Some
returns-in-Some c =
    let a = c.args in
    record {
      answer = ap refusal_of c.at.ensures.answer
          ∙ sym (numbers-unwired a.starts.now a.seeds.now a.tags.now a.groups (sym c.unwired_slot.ensures.answer ∙ c.in-Some.is));
    }

pub returns-in-Some-faulty_group : goal.returns-in-Some-faulty_group
returns-in-Some-faulty_group c =
    let a = c.args in
    record {
      answer = ap refusal_of c.at-in-Some-faulty_group.ensures.answer
          ∙ sym (numbers-faulty a.starts.now a.seeds.now a.tags.now a.groups
          (wired a.starts.now a.seeds.now a.tags.now a.groups c.unwired_slot.ensures.answer c.in_default.is)
          (sym c.faulty_group.ensures.answer ∙ c.in-Some-faulty_group.is));
    }

pub slot_fault-requires : goal.slot_fault-requires
slot_fault-requires c =
    let a = c.args in
    regular-of a.starts.now a.seeds.now a.groups c.requires
    (fair a.starts.now a.seeds.now a.tags.now a.groups c.faulty_group.ensures.answer c.in_default-faulty_group.is)

pub returns-in-Some-Misplaced : goal.returns-in-Some-Misplaced
returns-in-Some-Misplaced c =
    let a = c.args in
    let walked = outcome a.starts.now a.seeds.now a.tags.now a.groups
    c.unwired_slot.ensures.answer c.in_default.is c.faulty_group.ensures.answer c.in_default-faulty_group.is
    c.slot_fault.ensures.answer (c.in-Some-Misplaced.is ∙ ap Some c.in-Some-Misplaced.field-0-is) in
    record { answer = ap refusal_of c.at-in-Some-Misplaced.ensures.answer ∙ sym walked }

pub returns-in-Some-Repeated : goal.returns-in-Some-Repeated
returns-in-Some-Repeated c =
    let a = c.args in
    let walked = outcome a.starts.now a.seeds.now a.tags.now a.groups
    c.unwired_slot.ensures.answer c.in_default.is c.faulty_group.ensures.answer c.in_default-faulty_group.is
    c.slot_fault.ensures.answer (c.in-Some-Repeated.is ∙ ap Some c.in-Some-Repeated.field-0-is) in
    record { answer = ap refusal_of c.at-in-Some-Repeated.ensures.answer ∙ sym walked }

pub returns-in-None : goal.returns-in-None
returns-in-None c =
    let a = c.args in
    let walked = outcome a.starts.now a.seeds.now a.tags.now a.groups
    c.unwired_slot.ensures.answer c.in_default.is c.faulty_group.ensures.answer c.in_default-faulty_group.is
    c.slot_fault.ensures.answer c.in-None.is in
    record { answer = sym walked }
