-- What the seed that placing answers says of a group's part, and the cells that hold the seeds. Assumes nothing.
use Rattle.std.specs.Prelude.{◌≡◌, refl, List, ◌++◌, ℕ, suc, ◌+◌, ◌≤◌, ◌<◌, length, get_or, set, drop, Option, None, Some}
use Rattle.std.proofs.Common.{sym, ◌∙◌, add-one, arith, drop-cons, le-ltb}
use Rattle.std.proofs.lemmas.List.{set_at}
use Rattle.std.proofs.Math.Seq.{append_snoc}
use Rattle.refusal.specs.Limits.{group_max, limit_max}
use Rattle.refusal.proofs.LimitsLaws.{outside-not}
use Rattle.refusal.specs.Outcome.{Outcome, answered, refused, answered_by}
use Rattle.refusal.proofs.OutcomeLaws.{answered-of-by, refused-of-by}
use Rattle.group.specs.Group.{least_seed}
use Rattle.refusal.proofs.ChecksLaws.{◌then◌, met-false}
use Rattle.group.specs.Placing.{Placement, placing_checks, placing_of}
use Rattle.group.specs.Ascending.{Ascending}
use Rattle.group.proofs.AscendingLaws.{check-of-ascending}
use Rattle.group.specs.Unwired.{FirstWired}
use Rattle.group.proofs.UnwiredLaws.{check-of-wired}
use Rattle.lists.specs.UpTo.{up_to}
use Rattle.lists.proofs.UpToLaws.{up_to-length, up_to-more}
use Rattle.placing.proofs.PlacingLaws.{Placeable, placing-seeded, placing-says}
use Rattle.plan.specs.Seeds.{part_seed, seeds_found}

-- What placing answers of the seed.
abbrev pub seed_placed : List ℕ → ℕ → Outcome ℕ
seed_placed part limit = answered_by (λ (placed : Placement). placed.seed) (placing_of part limit)

-- A seed that is answered is the least,
pub placed-seed : (part : List ℕ) (limit : ℕ) {seed : ℕ} → seed_placed part limit ≡ answered seed → least_seed part limit ≡ Some seed
placed-seed part limit e =
    let (placed, outcome, same) = answered-of-by (λ (placed : Placement). placed.seed) (placing_of part limit) e in
    rw same at (placing-says part limit outcome).1

-- and a part that the search is given is refused for want of a seed only.
module _ (part : List ℕ) (limit : ℕ) (legal : (1 ≤ limit) × (limit ≤ limit_max)) (few : length part ≤ group_max) (up : Ascending part)
    (wired : FirstWired part) where
  placeable : Placeable part limit
  unfolding placing_checks
  placeable = record {
    passes =
        met-false (outside-not 1 limit_max limit legal.0 legal.1)
        then met-false (le-ltb group_max (length part) few)
        then check-of-ascending part up
        then check-of-wired part wired
        then tt;
  }

  pub refused-seedless : {number place : ℕ} → seed_placed part limit ≡ refused number place → least_seed part limit ≡ None
  refused-seedless e = go (least_seed part limit) refl
    where
      go : (o : Option ℕ) → least_seed part limit ≡ o → o ≡ None
      go None f = refl
      go (Some s) f =
          let answer = placing-seeded placeable f in
          let refusal = refused-of-by (λ (placed : Placement). placed.seed) (placing_of part limit) e in
          absurd (let z : ◌≡◌ {A = ℕ} 0 1 = cc in omega arith)

-- One number more behind those that are stored.
pub stored_more : (number : ℕ → ℕ) (g : ℕ) {x : ℕ} (before cells : List ℕ) → g < length before
    → cells ≡ up_to g number ++ drop g before → number g ≡ x → set cells g x ≡ up_to (g + 1) number ++ drop (g + 1) before
stored_more number g {x} before cells lt e is =
    rw (e, drop-cons before g 0 lt)
    (set_at (up_to g number) (get_or before g 0) (drop (suc g) before) x g (up_to-length g number)
    ∙ sym (rw (add-one g, up_to-more g number, append_snoc) (rw is)))

-- One seed more.
pub found-more : (ordered ends : List ℕ) (limit g : ℕ) {seed : ℕ} (before cells : List ℕ) → g < length before
    → cells ≡ seeds_found ordered ends limit g before → part_seed ordered ends limit g ≡ seed
    → set cells g seed ≡ seeds_found ordered ends limit (g + 1) before
unfolding seeds_found
found-more ordered ends limit g before cells lt e found = stored_more (part_seed ordered ends limit) g before cells lt e found
