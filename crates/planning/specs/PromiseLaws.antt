-- What planning promises follows from its two equations. Assumes nothing.
use Rattle.std.specs.Prelude.{◌≡◌, List, ℕ}
use Rattle.std.proofs.Common.{sym, ◌∙◌}
use Rattle.refusal.specs.Outcome.{Outcome, refused}
use Rattle.numbering.specs.Plan.{no_plan}
use Rattle.numbering.specs.Planning.{planning_of, plan_after}
use Rattle.numbering.proofs.PlanningLaws.{plan-refused}
use Rattle.condition3.specs.Condition3.{PlanningCondition3}
use Rattle.condition3_theorem.specs.Condition3Theorem.{planning-condition3}

-- The answer, the plan, and planning's part of Condition 3: for an answer `outcome` that left `plan`.
abbrev pub Promised : List ℕ → ℕ → ℕ → Outcome ℕ → List ℕ → Type 0
Promised tags groups limit outcome plan =
    (outcome ≡ planning_of tags groups limit)
    × ((plan ≡ plan_after tags groups limit) × PlanningCondition3 tags groups limit outcome plan)

module _ (tags : List ℕ) (groups limit : ℕ) where
  pub promised : {outcome : Outcome ℕ} {plan : List ℕ} → outcome ≡ planning_of tags groups limit → plan ≡ plan_after tags groups limit
      → Promised tags groups limit outcome plan
  promised answer left = (answer, (left, rw (answer, left) (planning-condition3 tags groups limit)))

  -- A refusal leaves zeros.
  pub promised-refusal : {outcome : Outcome ℕ} {number place : ℕ} → outcome ≡ refused number place
      → planning_of tags groups limit ≡ refused number place → Promised tags groups limit outcome no_plan
  promised-refusal is due = promised (is ∙ sym due) (sym (plan-refused tags groups limit due))
