-- What the arrays hold once the tags are ordered and the slots arranged. Assumes nothing.
use Rattle.std.specs.Prelude.{◌≡◌, length, take, drop, None}
use Rattle.std.proofs.Math.Path.{refl, ap}
use Rattle.std.proofs.Common.{sym, ◌∙◌, length-drop, take_all, get_or-drop}
use mathlib.Core.List.{List, ◌++◌, flatten}
use Prim.Native.Nat.{ℕ, suc, ◌+◌, ◌-◌, ◌≤◌}
use native.Mathlib.Omega.{arith}
use Rattle.std.proofs.Math.ListN.{get_or, length-append, get_or-append}
use borrow.Author.Tests.{ltb-false}
use Rattle.refusal.specs.Limits.{tags_max, groups_max}
use Rattle.refusal.proofs.LimitsLaws.{inside}
use Rattle.refusal.specs.Outcome.{answered}
use Rattle.refusal.specs.Checks.{Check, Pass}
use Rattle.refusal.specs.ChecksBefore.{checks_before}
use Rattle.refusal.proofs.ChecksLaws.{false-of-met, passed, passed_on}
use Rattle.lists.specs.First.{first}
use Rattle.lists.proofs.FirstLaws.{first_cong}
use Rattle.lists.specs.UpTo.{up_to}
use Rattle.lists.proofs.UpToLaws.{up_to-agree}
use Rattle.group.proofs.AscendingLaws.{ascending-distinct}
use Rattle.image.specs.Sheet.{bytes_of, image_length}
use Rattle.image.proofs.SheetLaws.{bytes-agree}
use Rattle.numbering.specs.Members.{members}
use Rattle.numbering.proofs.MembersLaws.{members-distinct, start-all}
use Rattle.numbering.specs.Parts.{part_start}
use Rattle.numbering.specs.GroupSlots.{group_slots}
use Rattle.numbering.proofs.SlotsLaws.{slots-numbered}
use Rattle.numbering.specs.Plan.{planned_groups, planned_seed}
use Rattle.numbering.specs.Planning.{too_large}
use Rattle.numbering.specs.Writing.{sheet_of, choices_under, image_under, unfilled, writing_checks, planned_image, writing_of}
use Rattle.numbering.proofs.WritingLaws.{image-length, Fit, fit-of-pass, Ready, ready-of-pass, ready-fill, writing-answered}
use Rattle.arrange.specs.Arrange.{slots_of_part, all_slots, slots_into, unfilled_part, AllArrangeable}
use Rattle.arrange.specs.SlotsLaws.{slots_length}
use Rattle.write.specs.Stated.{stated_sheet, Writable}
use Rattle.writing.specs.Arrays.{Admitted, Orderly}

-- What the checks before 10 say of the arguments, each by its number.
module _ {tags : List ℕ} {groups : ℕ} {plan : List ℕ} {room : ℕ} (a : Admitted tags groups plan room) where
  abbrev checks : ℕ → List Check
  checks number = checks_before number (writing_checks tags plan room)

  pub admitted-groups : (1 ≤ groups) × (groups ≤ groups_max)
  unfolding writing_checks
  admitted-groups = rw a.groups-are (inside 1 groups_max (planned_groups plan) (false-of-met _ (passed (checks 10) a.passes 8)))

  pub admitted-count : length tags ≤ tags_max
  unfolding writing_checks
  admitted-count = ltb-false tags_max (length tags) (false-of-met _ (passed (checks 10) a.passes 5))

  -- With 10 all checks before 18 pass.
  pub passed-10 : first (too_large groups tags) groups ≡ None → Pass (checks 18)
  unfolding writing_checks
  passed-10 small = passed_on (writing_checks tags plan room) 10 18 refl a.passes (rw a.groups-are at small)

module _ {tags : List ℕ} {groups : ℕ} {plan ordered ends : List ℕ} {room : ℕ} (o : Orderly tags groups plan ordered ends room) where
  -- The conditions on the inputs hold.
  pub fit : Fit tags plan room
  fit = fit-of-pass tags plan room o.passes

  pub groups-legal : (1 ≤ groups) × (groups ≤ groups_max)
  groups-legal = rw o.groups-are fit.groups-legal

  -- The seeds stand behind B.
  abbrev pub seeds : List ℕ
  seeds = take (length plan - 1) (drop 1 plan)

  seeds-are : seeds ≡ drop 1 plan
  seeds-are = take_all (length plan - 1) (drop 1 plan) (omega (arith, length-drop 1 plan))

  seed-is : (g : ℕ) → get_or seeds g 0 ≡ planned_seed plan g
  unfolding planned_seed
  seed-is g = let e : 1 + g ≡ suc g = omega arith in rw seeds-are (get_or-drop 1 plan g 0 ∙ rw e)

  -- What arranging needs.
  pub arrangeable : AllArrangeable groups ordered ends seeds tags_max
  arrangeable = record {
    parts = o.sorted.parts;
    seeds-known = omega (arith, ap length seeds-are, length-drop 1 plan, o.cells, groups-legal);
    seeds-legal = λ g lt. rw (seed-is g) (fit.seeds-legal g (rw (← o.groups-are) lt));
    few = λ g lt. rw (o.sorted.part g lt, o.groups-are) (fit.groups-small g (rw (← o.groups-are) lt));
    differ = λ g lt. rw (o.sorted.part g lt) (members-distinct groups g tags (ascending-distinct tags fit.ascending));
    room-enough = o.few-cells;
  }

  -- The lowest part that nothing fills is the lowest such group.
  pub unfilled-first : first (unfilled_part ordered ends seeds) groups ≡ first (unfilled tags plan) (planned_groups plan)
  unfolding unfilled_part
  unfilled-first =
      first_cong (unfilled_part ordered ends seeds) (unfilled tags plan) groups
      (λ g lt. rw (o.sorted.part g lt, seed-is g, o.groups-are)) ∙ rw o.groups-are

  -- Where every part is filled, the slots are arranged and the lines can be written;
  module _ (every : first (unfilled tags plan) (planned_groups plan) ≡ None) (before : List ℕ) where
    passed-18 : Pass (writing_checks tags plan room)
    unfolding writing_checks
    passed-18 = passed_on (writing_checks tags plan room) 18 0 refl o.passes every

    ready : Ready tags plan room
    ready = ready-of-pass tags plan room passed-18

    abbrev slots : List ℕ
    slots = slots_into ordered ends seeds groups before

    count-is : part_start ends groups ≡ length tags
    count-is = o.sorted.start groups (omega arith) ∙ start-all groups tags groups-legal.0

    slots-many : length (all_slots ordered ends seeds groups) ≡ length tags
    slots-many = slots_length o.sorted.parts seeds groups (omega arith) ∙ count-is

    pub writable : Writable ends seeds slots groups (length tags) room
    unfolding slots_into
    writable = record {
      ends-known = o.sorted.parts.known;
      seeds-known = arrangeable.seeds-known;
      slots-known = omega (arith, slots-many, length-append (all_slots ordered ends seeds groups) (drop (part_start ends groups) before));
      few-groups = groups-legal.1;
      few-slots = fit.count-legal;
      ends-small = λ g lt. omega (arith, o.sorted.parts.inside g lt, o.few-cells);
      room-enough = rw o.groups-are fit.fits;
    }

    slots-are : all_slots ordered ends seeds groups
        ≡ flatten (up_to groups
        (λ g. group_slots (members groups g tags) (planned_seed plan g) (choices_under groups tags (planned_seed plan) g)))
    unfolding all_slots slots_of_part choices_under
    slots-are =
        rw (up_to-agree groups (slots_of_part ordered ends seeds)
        (λ g. group_slots (members groups g tags) (planned_seed plan g) (choices_under groups tags (planned_seed plan) g))
        (λ g lt. rw (o.sorted.part g lt, seed-is g)))

    -- and they are the image under the plan.
    written-image : bytes_of (stated_sheet ends seeds slots groups (length tags)) ≡ planned_image tags plan
    unfolding planned_image image_under stated_sheet sheet_of slots_into
    written-image =
        bytes-agree (stated_sheet ends seeds slots groups (length tags))
        (sheet_of (planned_groups plan) tags (planned_seed plan) (choices_under (planned_groups plan) tags (planned_seed plan)))
        (record {
          count = refl;
          groups = o.groups-are;
          start = λ g lt. o.sorted.start g (omega arith) ∙ rw o.groups-are;
          seed = λ g lt. seed-is g;
          slot = λ j lt.
              get_or-append (all_slots ordered ends seeds groups) (drop (part_start ends groups) before) 0 j (omega (arith, slots-many))
              ∙ ap (λ (l : List ℕ). get_or l j 0) slots-are
              ∙ rw o.groups-are (slots-numbered (ready-fill ready) j lt);
        })

    size_is : image_length groups (length tags) ≡ length (planned_image tags plan)
    unfolding planned_image
    size_is = rw o.groups-are (sym (image-length (planned_groups plan) tags (planned_seed plan)))

    pub written-bytes : (buffer : List ℕ)
        → bytes_of (stated_sheet ends seeds slots groups (length tags)) ++ drop (image_length groups (length tags)) buffer
        ≡ planned_image tags plan ++ drop (length (planned_image tags plan)) buffer
    written-bytes buffer = rw (written-image, size_is)

    pub size-answered : writing_of tags plan room ≡ answered (image_length groups (length tags))
    size-answered = writing-answered tags plan room passed-18 ∙ rw o.groups-are
