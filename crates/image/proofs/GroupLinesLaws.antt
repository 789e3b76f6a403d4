-- Two views that read a group's line alike, and the next one where it counts, find the group alike and check it alike. Assumes nothing.
use Rattle.std.specs.Prelude.{◌≡◌, refl, Bool, not, ◌&&◌, ℕ, suc, ◌<◌, Option, unwrap_or}
use Rattle.std.proofs.Math.Path.{ap}
use Rattle.std.proofs.Math.Bool.{true, false, cond}
use Rattle.std.proofs.Math.Dec.{ltb}
use borrow.Author.Tests.{ltb-true, not-false}
use Rattle.lists.specs.First.{is_some}
use Rattle.refusal.specs.Checks.{Pass}
use Rattle.refusal.proofs.ChecksLaws.{false-of-met_at, Agree}
use Rattle.image.specs.View.{View, count_in, groups_in, start_in, seed_in, end_in}
use Rattle.image.specs.Lookup.{group_checks}

module _ (v w : View) (g : ℕ) (same-groups : groups_in v ≡ groups_in w) (same_count : count_in v ≡ count_in w)
    (same-own : v.group_at (suc g) ≡ w.group_at (suc g)) where
  pub same_start : start_in v g ≡ start_in w g
  unfolding start_in
  same_start = ap (λ (o : Option (ℕ × ℕ)). (unwrap_or o (0, 0)).0) same-own

  pub same-seed : seed_in v g ≡ seed_in w g
  unfolding seed_in
  same-seed = ap (λ (o : Option (ℕ × ℕ)). (unwrap_or o (0, 0)).1) same-own

  -- The next group's line counts only where there is a next group.
  module _ (same_next : suc g < groups_in v → v.group_at (suc (suc g)) ≡ w.group_at (suc (suc g))) where
    pub same_end : end_in v g ≡ end_in w g
    unfolding end_in start_in
    same_end = rw (← same-groups, ← same_count) (go (ltb (suc g) (groups_in v)) refl)
      where
        go : (b : Bool) → ltb (suc g) (groups_in v) ≡ b
            → cond (ltb (suc g) (groups_in v)) (unwrap_or (v.group_at (suc (suc g))) (0, 0)).0 (count_in v)
            ≡ cond (ltb (suc g) (groups_in v)) (unwrap_or (w.group_at (suc (suc g))) (0, 0)).0 (count_in v)
        go true e = rw (same_next (ltb-true (suc g) (groups_in v) e))
        go false e = rw e

    -- "then at the next group's line if there is one"
    same-malformed : (ltb (suc g) (groups_in v) && not (is_some (v.group_at (suc (suc g)))))
        ≡ (ltb (suc g) (groups_in w) && not (is_some (w.group_at (suc (suc g)))))
    same-malformed = rw (← same-groups) (go (ltb (suc g) (groups_in v)) refl)
      where
        go : (b : Bool) → ltb (suc g) (groups_in v) ≡ b
            → (ltb (suc g) (groups_in v) && not (is_some (v.group_at (suc (suc g)))))
            ≡ (ltb (suc g) (groups_in v) && not (is_some (w.group_at (suc (suc g)))))
        go true e = rw (same_next (ltb-true (suc g) (groups_in v) e))
        go false e = rw e

  -- The checks of the group agree, where the next line is read alike if the first is well formed.
  pub group-agrees : (behind : Type 0)
      → (is_some (v.group_at (suc g)) ≡ true → suc g < groups_in v → v.group_at (suc (suc g)) ≡ w.group_at (suc (suc g)))
      → (is_some (v.group_at (suc g)) ≡ true → Pass (group_checks v g) → behind) → Agree (group_checks v g) (group_checks w g) behind
  unfolding group_checks
  group-agrees behind next rest = (
    rw same-own,
    λ own.
        let well = not-false _ (false-of-met_at (suc g) _ own) in (
          rw (same-malformed (next well)),
          λ more. (rw (same_start, same_end (next well), same_count), λ fault. rest well (own, (more, (fault, tt)))),
        ),
  )
