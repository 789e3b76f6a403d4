-- `writing::first_seed_above` meets its contract: the position of the first seed out of range, among those of the first groups, is the
-- lowest such group. Assumes nothing.
use Rattle.std.specs.Prelude.{◌≡◌, ◌+◌, ◌-◌, suc, ltb, take, drop}
use Rattle.std.specs.List.{position}
use Rattle.std.proofs.Common.{rules, tests, ◌∙◌, arith}
use Rattle.std.proofs.lemmas.Iterator.{YieldsList-from_slice}
use Rattle.std.proofs.lemmas.Iterator.Search.{position_from_yields_List}
use Rattle.refusal.specs.Limits.{seed_max}
use Rattle.lists.proofs.PositionLaws.{position-first-range}
use Rattle.numbering.specs.Plan.{planned_seed}
use Rattle.numbering.specs.Writing.{seed_above}
use Rattle.writing.proofs.first_seed_above.Goals as goal

pub returns : goal.returns
unfolding planned_seed
returns c =
    let plan = c.args.plan.now in
    let end = c.args.groups + 1 in
    let found : c.position.result ≡ position (λ s. ltb seed_max s) (take (end - 1) (drop 1 plan)) = position_from_yields_List
    (λ s. ltb seed_max s) _ _ c.position.result c.position.ensures.ran (YieldsList-from_slice _ c.iter.ensures.rest)
    (λ x b q k. search (rules, tests)) in
    let lowest = position-first-range (λ s. ltb seed_max s) (seed_above plan) plan 1 end 0 (omega (arith, c.requires))
    (λ k lt. let next : 1 + k ≡ suc k = omega arith in rw next) in
    let all : end - 1 ≡ c.args.groups = omega arith in
    record { answer = found ∙ lowest ∙ rw all }
