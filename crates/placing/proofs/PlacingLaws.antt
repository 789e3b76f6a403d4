-- The ways in which placing a group ends, by the numbers of its checks. Assumes nothing.
use Rattle.std.specs.Prelude.{◌≡◌, List, ℕ, ◌≤◌, length, Option, None, Some}
use Rattle.std.proofs.Math.Path.{refl}
use Rattle.std.proofs.Common.{◌∙◌, arith}
use borrow.Author.Tests.{ltb-false}
use Rattle.refusal.specs.Limits.{limit_max, group_max}
use Rattle.refusal.proofs.LimitsLaws.{inside}
use Rattle.refusal.specs.Outcome.{answered, refused}
use Rattle.lists.specs.First.{is_some}
use Rattle.refusal.specs.Checks.{Pass}
use Rattle.refusal.specs.ChecksBefore.{checks_before}
use Rattle.refusal.proofs.ChecksLaws.{met-true, met-false, false-of-met, met_by, passed, passed_on, met-first, in_order-pass}
use Rattle.refusal.proofs.ChecksLaws.{pass-before, in_order-answered}
use Rattle.filling.specs.Word.{word_of}
use Rattle.group.specs.Group.{least_seed, taken}
use Rattle.group.specs.Placing.{Placement, placing_checks, placement_of, placing_of}

-- A check that is met where those before it pass is placing's refusal.
pub placing-refused : (tags : List ℕ) (limit number : ℕ) {place : ℕ} → Pass (checks_before number (placing_checks tags limit))
    → met_by (placing_checks tags limit) number ≡ Some place → placing_of tags limit ≡ refused number place
unfolding placing_of
placing-refused tags limit number = met-first (placing_checks tags limit) _ number

-- A group and a limit that pass the checks before 7.
pub record Placeable (tags : List ℕ) (limit : ℕ) : Type 0 where
  pub passes : Pass (checks_before 7 (placing_checks tags limit))

module _ {tags : List ℕ} {limit : ℕ} (p : Placeable tags limit) where
  pub limit-legal : (1 ≤ limit) × (limit ≤ limit_max)
  unfolding placing_checks
  limit-legal = inside 1 limit_max limit (false-of-met _ (passed (checks_before 7 (placing_checks tags limit)) p.passes 4))

  pub few : length tags ≤ group_max
  unfolding placing_checks
  few = ltb-false group_max (length tags) (false-of-met _ (passed (checks_before 7 (placing_checks tags limit)) p.passes 5))

  pub placing-unseeded : least_seed tags limit ≡ None → placing_of tags limit ≡ refused 7 0
  unfolding placing_checks is_some
  placing-unseeded e = placing-refused tags limit 7 p.passes (met-true (rw e))

  pub placing-seeded : {s : ℕ} → least_seed tags limit ≡ Some s
      → placing_of tags limit ≡ answered (record { seed = s; word = word_of (taken tags s) })
  unfolding placing_of placing_checks is_some placement_of
  placing-seeded e =
      in_order-pass (placing_checks tags limit) _ (passed_on (placing_checks tags limit) 7 0 refl p.passes (met-false (rw e))) ∙ rw e

-- An answer says that the checks before 7 pass, and is the least seed and the word of the sequence taken under it.
pub placing-says : (tags : List ℕ) (limit : ℕ) {placed : Placement} → placing_of tags limit ≡ answered placed
    → Placeable tags limit × (least_seed tags limit ≡ Some placed.seed) × (placed.word ≡ word_of (taken tags placed.seed))
unfolding placing_of placing_checks
placing-says tags limit {placed} e = go (least_seed tags limit) refl
  where
    front : Placeable tags limit
    front = record { passes = pass-before (placing_checks tags limit) (in_order-answered (placing_checks tags limit) _ e).0 7 }

    go : (o : Option ℕ) → least_seed tags limit ≡ o
        → Placeable tags limit × (least_seed tags limit ≡ Some placed.seed) × (placed.word ≡ word_of (taken tags placed.seed))
    go None f = let r = placing-unseeded front f in absurd (let z : ◌≡◌ {A = ℕ} 0 1 = cc in omega arith)
    go (Some s) f =
        let same : placed ≡ record { seed = s; word = word_of (taken tags s) } = cc (placing-seeded front f) in
        (front, f ∙ rw same, rw same)
