-- A plan: what planning yields and writing takes. Assumes nothing.
use Rattle.std.specs.Prelude.{ℕ, suc, ◌-◌, List, ◌∷◌, ◌++◌, get_or, replicate}
use Rattle.refusal.specs.Limits.{groups_max}
use Rattle.lists.specs.UpTo.{up_to}

-- "a plan, which is B and 512 seeds, 0 from place B on": 513 numbers, B before the seeds.
unfoldable pub plan_of : ℕ → (ℕ → ℕ) → List ℕ
plan_of groups seed = groups ∷ up_to groups seed ++ replicate (groups_max - groups) 0

-- Of any such numbers: B, and the seed of group g.
unfoldable pub planned_groups : List ℕ → ℕ
planned_groups plan = get_or plan 0 0

unfoldable pub planned_seed : List ℕ → ℕ → ℕ
planned_seed plan g = get_or plan (suc g) 0

-- "a refused planning yields B = 0 and 512 zeros"
abbrev pub no_plan : List ℕ
no_plan = replicate (suc groups_max) 0
