-- `plan::worked::seed_of_one_and_three` meets its contract: by the promise of `plan_groups` the first cell has what the
-- definition computes to. Assumes nothing.
use mathlib.Core.Path.{◌≡◌, refl, ◌∙◌, ap}
use mathlib.Core.List.{List, [], ◌∷◌}
use Rattle.std.specs.Prelude.{Option, None, unwrap_or}
use native.Mathlib.Omega.{arith}
use Prim.Native.Nat.{ℕ, zero, suc, ◌≤◌, ◌<◌}
use lib.ListN.{length, get_or, replicate}
use Rattle.refusal.specs.Limits.{groups_max, group_max}
use Rattle.lists.specs.First.{first, met_at, is_some}
use Rattle.hash.specs.Formula.{product, high_part, hashed, multiplier, place_of}
use Rattle.lists.specs.Occurs.{occurs}
use Rattle.filling.specs.Filling.{place_by}
use Rattle.filling.specs.Least.{beginning, least_from, least, feasible}
use Rattle.group.specs.Group.{both_places, candidates, least_seed}
use Rattle.group.specs.Ascending.{Ascending}
use Rattle.group.specs.Unwired.{FirstWired}
use Rattle.numbering.specs.Parts.{part_start, part_of}
use Rattle.lists.specs.UpTo.{up_to}
use Rattle.plan.specs.Seeds.{unseeded, part_seed, seeds_found, Plannable}
use Rattle.plan.proofs.worked.seed_of_one_and_three.Goals as goal

-- The tags and where their part ends.
abbrev tags : List ℕ
tags = 1 ∷ 3 ∷ []

abbrev ends : List ℕ
ends = 2 ∷ []

-- What holds of index 0 holds of each index below 1.
only : (P : ℕ → Type 0) → P 0 → (i : ℕ) → i < 1 → P i
only P p zero lt = p
only P p (suc i) lt = absurd (omega arith)

plannable : Plannable 1 tags ends 2
unfolding part_start part_of
plannable = record {
  parts = record {
    known = omega arith;
    follow = only (λ g. part_start ends g ≤ get_or ends g 0) (omega arith);
    inside = only (λ g. get_or ends g 0 ≤ length tags) (omega arith);
  };
  limit-legal = (omega arith, omega arith);
  few = only (λ g. length (part_of tags ends g) ≤ group_max) (omega arith);
  ascending =
      only (λ g. Ascending (part_of tags ends g))
      (λ i within. only (λ i. get_or tags i 0 < get_or tags (suc i) 0) (omega arith) i (omega arith));
  wired = only (λ g. FirstWired (part_of tags ends g)) (λ some. omega arith);
}

-- `unfolding computed` opens every definition that these compute through.
computed : ℕ
unfolding first met_at is_some product high_part hashed multiplier place_of occurs place_by beginning least_from
    least feasible both_places candidates least_seed part_start part_of unseeded part_seed
computed = 0

no-group-without : first (unseeded tags ends 2) 1 ≡ None
unfolding computed
no-group-without = refl

seed-is : part_seed tags ends 2 0 ≡ 1
unfolding computed
seed-is = refl

-- What the promise says of the first cell, since no group is without a seed.
first_cell : (before : List ℕ) {cells : List ℕ} {o : Option ℕ} → o ≡ first (unseeded tags ends 2) 1
    → cells ≡ seeds_found tags ends 2 (unwrap_or o 1) before → get_or cells 0 0 ≡ 1
unfolding seeds_found up_to
first_cell before told found = ap (λ (l : List ℕ). get_or l 0 0) found ∙ rw (told, no-group-without) seed-is

pub plan_groups-requires : goal.plan_groups-requires
plan_groups-requires c = (plannable, omega arith, refl)

pub returns : goal.returns
returns c = record { answer = first_cell (replicate groups_max 0) c.plan_groups.ensures.answer c.plan_groups.ensures.seeds }
