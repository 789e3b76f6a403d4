-- `planning::worked::plan_without_groups` meets its contract: the first check of planning is met. Assumes nothing.
use mathlib.Core.Path.{◌≡◌, refl, ◌∙◌}
use mathlib.Core.List.{List}
use Prim.Native.Nat.{ℕ}
use Rattle.refusal.specs.Limits.{outside}
use Rattle.refusal.specs.Outcome.{refused}
use Rattle.refusal.proofs.ChecksLaws.{met-true}
use Rattle.numbering.specs.Planning.{earlier_checks, planning_of}
use Rattle.numbering.proofs.PlanningLaws.{planning-refused, plan-refused}
use Rattle.planning.proofs.worked.plan_without_groups.Goals as goal

no-groups : (tags : List ℕ) → planning_of tags 0 1 ≡ refused 8 0
unfolding earlier_checks outside
no-groups tags = planning-refused tags 0 1 8 tt (met-true refl)

pub returns : goal.returns
returns c =
    let told = no-groups c.args.tags.now in
    record { answer = c.plan_list.ensures.answer ∙ told; cleared = c.plan_list.ensures.plan ∙ plan-refused _ 0 1 told }
