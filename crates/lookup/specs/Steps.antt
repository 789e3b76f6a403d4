-- The steps of a lookup behind the opening checks. Assumes nothing.
use Rattle.std.specs.Prelude.{ℕ, zero, suc, ◌+◌, ◌-◌, cond, eqb, ltb, Option, Some, option_map}
use Rattle.refusal.specs.Outcome.{Outcome, answered}
use Rattle.refusal.specs.Checks.{in_order}
use Rattle.hash.specs.Formula.{place_of}
use Rattle.image.specs.View.{View, count_in, groups_in, start_in, seed_in, end_in}
use Rattle.image.specs.Lookup.{Found, unknown, group_checks, at_slot}

-- Where group g ends, read from the next group's line if there is one; none where that line is malformed.
unfoldable pub end_of : View → ℕ → Option ℕ
end_of v g = cond (ltb (suc g) (groups_in v)) (option_map (λ h. h.0) (v.group_at (suc (suc g)))) (Some (count_in v))

-- The slots looked at, for a group from `start` up to `end` with this seed.
unfoldable pub slots_of : View → ℕ → ℕ → ℕ → ℕ → Outcome Found
slots_of v start end seed t =
    cond (eqb start end) (answered unknown)
    (at_slot v t (start + place_of (end - start) seed 0 t)
    (at_slot v t (start + place_of (end - start) seed 1 t)
    (answered unknown)))

-- Of these, the slots from a choice on: choices 0 and 1, choice 1, or none, in a group of n tags.
unfoldable pub slots_from : View → ℕ → ℕ → ℕ → ℕ → ℕ → Outcome Found
slots_from v start n seed t zero =
    at_slot v t (start + place_of n seed 0 t) (at_slot v t (start + place_of n seed 1 t) (answered unknown))
slots_from v start n seed t (suc zero) = at_slot v t (start + place_of n seed 1 t) (answered unknown)
slots_from v start n seed t (suc (suc choice)) = answered unknown

-- Behind the opening checks: the group's lines, its fault, its slots.
unfoldable pub group_outcome : View → ℕ → ℕ → Outcome Found
group_outcome v t g = in_order (group_checks v g) (slots_of v (start_in v g) (end_in v g) (seed_in v g) t)
