-- `writing::worked::write_under_no_plan` meets its contract: the first check of writing is met. Assumes nothing.
use mathlib.Core.Path.{◌≡◌, refl, ◌∙◌}
use mathlib.Core.List.{List}
use Prim.Native.Nat.{ℕ}
use Rattle.refusal.specs.Limits.{outside}
use Rattle.refusal.specs.Outcome.{refused}
use Rattle.refusal.proofs.ChecksLaws.{met-true}
use Rattle.numbering.specs.Plan.{planned_groups, no_plan}
use Rattle.numbering.specs.Writing.{writing_checks, writing_of}
use Rattle.numbering.proofs.WritingLaws.{writing-refused, writing-kept}
use Rattle.writing.proofs.worked.write_under_no_plan.Goals as goal

no-groups : (tags : List ℕ) (room : ℕ) → writing_of tags no_plan room ≡ refused 8 0
unfolding writing_checks planned_groups outside
no-groups tags room = writing-refused tags no_plan room 8 tt (met-true refl)

pub returns : goal.returns
returns c =
    let told = no-groups _ _ in
    record { answer = c.write_list.ensures.answer ∙ told; kept = c.write_list.ensures.bytes ∙ writing-kept _ _ _ told }
