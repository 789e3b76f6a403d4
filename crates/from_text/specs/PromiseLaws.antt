-- What planning, writing and building from a list text promise, and that it follows from what reading answers and the operation promises.
-- Assumes nothing.
use Rattle.std.specs.Prelude.{◌≡◌, List, ◌++◌, ℕ, ◌≤◌, ◌<◌, length, take, drop}
use Rattle.std.proofs.Math.Path.{sym}
use Rattle.std.proofs.Common.{◌∙◌, ap, arith, length-append, take_at, lt-ltb, le-ltb}
use Rattle.refusal.specs.Limits.{text_max, tags_max}
use Rattle.refusal.specs.Outcome.{Outcome, answered, refused, answered_by}
use Rattle.refusal.proofs.OutcomeLaws.{answered-of-by, followed-answered, followed-refused, left-answered, left-refused}
use Rattle.lists.specs.First.{met_at}
use Rattle.refusal.specs.Checks.{met, in_order}
use Rattle.list.specs.Reading.{Listed, reading_of, cells_after}
use Rattle.list.specs.Answer.{head_of}
use Rattle.list.specs.declared.ListHead.{ListHead}
use Rattle.numbering.specs.Plan.{no_plan}
use Rattle.numbering.specs.FromText.{list_from_text, planning_from_text, plan_from_text, writing_from_text, written_from_text}
use Rattle.numbering.specs.FromText.{building_from_text, buffer_from_text}
use Rattle.condition3.specs.Condition3.{PlanningCondition3, WritingCondition3, Condition3}
use Rattle.planning.specs.PromiseLaws.{Promised as PlanningPromised}
use Rattle.writing.specs.PromiseLaws.{Promised as WritingPromised}
use Rattle.building.specs.PromiseLaws.{Promised}
use Rattle.from_text.specs.Condition3.{OfList, TextPlanningCondition3, TextWritingCondition3, TextCondition3}

module _ (text : List ℕ) where
  -- A text above 65,527 bytes is refused, and another is read.
  pub text-long : text_max < length text → list_from_text text ≡ refused 5 0
  unfolding list_from_text in_order met met_at
  text-long long = rw (lt-ltb text_max (length text) long)

  pub text-read : length text ≤ text_max → list_from_text text ≡ reading_of text tags_max
  unfolding list_from_text in_order met met_at
  text-read short = rw (le-ltb text_max (length text) short)

  -- Of a text that is refused nothing is owed.
  pub of_none : {number place : ℕ} (holds : Listed → Type 0) → list_from_text text ≡ refused number place → OfList text holds
  of_none holds e listed e' = absurd (let z : ◌≡◌ {A = ℕ} 0 1 = cc in omega arith)

  -- Of a list that is read, what its operation owes.
  pub of-listed : {listed : Listed} (holds : Listed → Type 0) → list_from_text text ≡ answered listed → holds listed → OfList text holds
  of-listed {listed} holds e h stated e' = let same : listed ≡ stated = cc in rw same at h

  -- Planning: the answer, the plan, and planning's part of Condition 3.
  abbrev pub PlanPromised : Outcome ℕ → List ℕ → Type 0
  PlanPromised outcome plan =
      (outcome ≡ planning_from_text text) × ((plan ≡ plan_from_text text) × TextPlanningCondition3 text outcome plan)

  pub plan-unread : {outcome : Outcome ℕ} {number place : ℕ} → list_from_text text ≡ refused number place
      → outcome ≡ refused number place → PlanPromised outcome no_plan
  unfolding planning_from_text plan_from_text
  plan-unread e is = (is ∙ sym (followed-refused _ e), (sym (left-refused _ _ e), of_none _ e))

  pub plan-read : {outcome : Outcome ℕ} {plan : List ℕ} {listed : Listed} → list_from_text text ≡ answered listed
      → PlanningPromised listed.tags listed.groups listed.limit outcome plan → PlanPromised outcome plan
  unfolding planning_from_text plan_from_text
  plan-read {outcome} {plan} e (answer, (left, condition3)) = (
    answer ∙ sym (followed-answered _ e),
    (
      left ∙ sym (left-answered _ _ e),
      of-listed (λ listed. PlanningCondition3 listed.tags listed.groups listed.limit outcome plan) e condition3,
    ),
  )

  module _ (before : List ℕ) where
    -- Writing: the answer, the buffer, and writing's part.
    abbrev pub WritePromised : List ℕ → Outcome ℕ → List ℕ → Type 0
    WritePromised plan outcome after =
        (outcome ≡ writing_from_text text plan (length before))
        × ((after ≡ written_from_text text plan before) × TextWritingCondition3 text plan outcome after)

    pub write-unread : (plan : List ℕ) {outcome : Outcome ℕ} {number place : ℕ} → list_from_text text ≡ refused number place
        → outcome ≡ refused number place → WritePromised plan outcome before
    unfolding writing_from_text written_from_text
    write-unread plan e is = (is ∙ sym (followed-refused _ e), (sym (left-refused _ _ e), of_none _ e))

    pub write_read : (plan : List ℕ) {outcome : Outcome ℕ} {after : List ℕ} {listed : Listed} → list_from_text text ≡ answered listed
        → WritingPromised listed.tags plan before outcome after → WritePromised plan outcome after
    unfolding writing_from_text written_from_text
    write_read plan {outcome} {after} e (answer, (bytes, condition3)) = (
      answer ∙ sym (followed-answered _ e),
      (bytes ∙ sym (left-answered _ _ e), of-listed (λ listed. WritingCondition3 listed.tags plan outcome after) e condition3),
    )

    -- Building: the answer, the buffer, and Condition 3 whole.
    abbrev pub TextPromised : Outcome ℕ → List ℕ → Type 0
    TextPromised outcome after =
        (outcome ≡ building_from_text text (length before))
        × ((after ≡ buffer_from_text text before) × TextCondition3 text (length before) outcome after)

    pub promised-unread : {outcome : Outcome ℕ} {number place : ℕ} → list_from_text text ≡ refused number place
        → outcome ≡ refused number place → TextPromised outcome before
    unfolding building_from_text buffer_from_text
    promised-unread e is = (is ∙ sym (followed-refused _ e), (sym (left-refused _ _ e), of_none _ e))

    pub promised-read : {outcome : Outcome ℕ} {plan after : List ℕ} {listed : Listed} → list_from_text text ≡ answered listed
        → Promised listed.tags listed.groups listed.limit before outcome plan after → TextPromised outcome after
    unfolding building_from_text buffer_from_text plan_from_text
    promised-read {outcome} {plan} {after} {listed} e (answer, (yielded, (bytes, condition3))) =
        let same : plan ≡ plan_from_text text = yielded ∙ sym (left-answered _ _ e) in (
          answer ∙ sym (followed-answered _ e),
          (
            bytes ∙ sym (left-answered _ _ e),
            of-listed
                (λ listed. Condition3 listed.tags listed.groups listed.limit (length before) (plan_from_text text) outcome after) e
                (rw same at condition3),
          ),
        )

-- What an accepted reading leaves in cells for as many tags as a list may have: the list's tags stand at their beginning, as many as it
-- answers.
pub record ReadInto (text cells : List ℕ) (groups limit count : ℕ) : Type 0 where
  pub outcome : list_from_text text ≡ answered (record { groups = groups; limit = limit; tags = take count cells })
  pub counted : count ≡ length (take count cells)
  pub fits : count ≤ length cells

-- A list by its parts.
listed_of : (listed : Listed) {groups limit : ℕ} {tags : List ℕ} → listed.groups ≡ groups → listed.limit ≡ limit → tags ≡ listed.tags
    → listed ≡ record { groups = groups; limit = limit; tags = tags }
listed_of listed g l t = rw (← g, ← l, t)

-- The answer and the cells of an accepted reading say so.
pub read-into : (text before : List ℕ) {cells : List ℕ} {groups limit count : ℕ}
    → answered (record { groups = groups; limit = limit; count = count }) ≡ answered_by head_of (list_from_text text)
    → cells ≡ cells_after (list_from_text text) before → ReadInto text cells groups limit count
unfolding head_of cells_after
read-into text before {cells} {groups} {limit} {count} answer left =
    let (listed, outcome, same) = answered-of-by head_of (list_from_text text) (sym answer) in
    let many : length listed.tags ≡ count = ap (λ (h : ListHead). h.count) same in
    let filled : cells ≡ listed.tags ++ drop (length listed.tags) before = rw outcome at left in
    let tags : take count cells ≡ listed.tags = rw filled (take_at listed.tags _ count many) in
    record {
      outcome =
          outcome ∙ ap answered (listed_of listed (ap (λ (h : ListHead). h.groups) same) (ap (λ (h : ListHead). h.limit) same) tags);
      counted = sym (ap length tags ∙ many);
      fits = omega (arith, ap length filled, length-append listed.tags (drop (length listed.tags) before));
    }
