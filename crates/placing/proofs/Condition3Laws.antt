-- Placing meets Condition 3 of one group; where a group passes the earlier checks, the condition leaves no other answer; and a choice
-- word is a number of 32 bits. Assumes nothing.
use Rattle.std.proofs.Math.Path.{◌≡◌, refl, sym}
use Rattle.std.proofs.Common.{◌∙◌, arith, pow_mono}
use Rattle.std.specs.Prelude.{not, List, ℕ, ◌^◌, ◌≤◌, ◌<◌, length, Option, None, Some}
use borrow.Author.Tests.{ltb-false, le-ltb}
use Rattle.refusal.specs.Limits.{tag_end, limit_max, group_max}
use Rattle.refusal.proofs.LimitsLaws.{outside-not, inside, word-bits}
use Rattle.refusal.specs.Outcome.{Outcome, answered, refused}
use Rattle.lists.specs.First.{is_some}
use Rattle.refusal.specs.Checks.{met}
use Rattle.refusal.proofs.ChecksLaws.{◌then◌, met-true, met-false, false-of-met, passed, in_order-answered}
use Rattle.filling.specs.Word.{word_of, choices_of}
use Rattle.filling.proofs.WordLaws.{word-choices, choices-word, word_below}
use Rattle.group.specs.Group.{least_seed, taken}
use Rattle.group.proofs.GroupLaws.{fills-length, taken-unique, least_seed-some, least_seed-none, least_seed-only, least_seed-out}
use Rattle.group.proofs.AscendingLaws.{ascending-of-check, check-of-ascending}
use Rattle.group.proofs.UnwiredLaws.{wired-of-check, check-of-wired}
use Rattle.group.specs.Placing.{Placement, placing_checks, placement_of, placing_of}
use Rattle.placing.proofs.PlacingLaws.{Placeable, placing-unseeded, placing-seeded}
use Rattle.placing.specs.Condition3.{Unserved, GroupChecks, Placed, GroupCondition3}

module _ (tags : List ℕ) (limit : ℕ) where
  -- The earlier checks pass: one line for each, in their order.
  placeable : GroupChecks tags limit → Placeable tags limit
  unfolding placing_checks
  placeable h = record {
    passes =
        met-false (outside-not 1 limit_max limit h.limit-legal.0 h.limit-legal.1)
        then met-false (le-ltb group_max (length tags) h.count-legal)
        then check-of-ascending tags h.ascending
        then check-of-wired tags h.wired
        then tt;
  }

  -- The group's least seed, and the word of the sequence taken under it.
  placed_of : (s : ℕ) → least_seed tags limit ≡ Some s → Placed tags limit (record { seed = s; word = word_of (taken tags s) })
  placed_of s e =
      let found = least_seed-some tags limit e in
      let size = fills-length (length tags) s tags found.fills in
      let stated : choices_of (length tags) (word_of (taken tags s)) ≡ taken tags s = rw (sym size) (word-choices (taken tags s)) in
      record {
        below-limit = found.below;
        no-higher-bit = rw size at (word_below (taken tags s));
        fills = rw stated found.fills;
        least = rw stated found.not_after;
        passed_over = found.passed;
      }

  -- An answer is these two: check 7 is passed only where there is a seed.
  accepted-placed : (placed : Placement) → placing_of tags limit ≡ answered placed → Placed tags limit placed
  unfolding placing_of placing_checks is_some placement_of
  accepted-placed placed e =
      let checks = placing_checks tags limit in
      let (passes, told) = in_order-answered checks (answered (placement_of tags limit)) e in
      go (least_seed tags limit) refl (passed checks passes 7) told
    where
      go : (o : Option ℕ) → least_seed tags limit ≡ o → met (not (is_some (least_seed tags limit))) ≡ None
          → answered (placement_of tags limit) ≡ answered placed → Placed tags limit placed
      go None e seeded told = absurd (let z : None ≡ Some 0 = sym seeded ∙ met-true (rw e) in let y : ◌≡◌ {A = ℕ} 0 1 = cc in omega arith)
      go (Some s) e seeded told =
          let same : record { seed = s; word = word_of (taken tags s) } ≡ placed = cc in
          rw same at (placed_of s e)

  -- Under the earlier checks the search for the least seed decides.
  module _ (h : GroupChecks tags limit) where
    refused-unserved : placing_of tags limit ≡ refused 7 0 → Unserved tags limit
    refused-unserved e = go (least_seed tags limit) refl
      where
        go : (o : Option ℕ) → least_seed tags limit ≡ o → Unserved tags limit
        go None out = least_seed-none tags limit out
        go (Some s) found = absurd (let z = sym (placing-seeded (placeable h) found) ∙ e in let y : ◌≡◌ {A = ℕ} 0 1 = cc in omega arith)

    unserved-refused : Unserved tags limit → placing_of tags limit ≡ refused 7 0
    unserved-refused out = placing-unseeded (placeable h) (least_seed-out tags limit out)

    served-accepted : (Unserved tags limit → ⊥) → (placed : Placement) × (placing_of tags limit ≡ answered placed)
    served-accepted served = go (least_seed tags limit) refl
      where
        go : (o : Option ℕ) → least_seed tags limit ≡ o → (placed : Placement) × (placing_of tags limit ≡ answered placed)
        go None out = absurd (served (least_seed-none tags limit out))
        go (Some s) found = (_, placing-seeded (placeable h) found)

  -- Placing meets the condition.
  pub placing-condition3 : GroupCondition3 tags limit (placing_of tags limit)
  placing-condition3 = record {
    accepted = accepted-placed;
    refused-7 = λ h. (refused-unserved h, unserved-refused h);
    otherwise = served-accepted;
  }

  -- A seed and a word that meet it are those that placing answers.
  placed-only : GroupChecks tags limit → (placed : Placement) → Placed tags limit placed → placing_of tags limit ≡ answered placed
  placed-only h placed p =
      let found = least_seed-only tags limit placed.seed _ p.below-limit p.fills p.passed_over in
      let sequence = taken-unique tags placed.seed _ p.fills p.least in
      let word = choices-word (length tags) placed.word p.no-higher-bit in
      placing-seeded (placeable h) found ∙ rw (sequence, word)

  -- So where the earlier checks pass the condition leaves no other answer.
  pub condition3-decides : GroupChecks tags limit → {answer : Outcome Placement} → GroupCondition3 tags limit answer
      → answer ≡ placing_of tags limit
  condition3-decides h {answer} c = go (least_seed tags limit) refl
    where
      go : (o : Option ℕ) → least_seed tags limit ≡ o → answer ≡ placing_of tags limit
      go None out =
          let unserved = least_seed-none tags limit out in
          (c.refused-7 h).1 unserved ∙ sym (unserved-refused h unserved)
      go (Some s) found =
          let least = least_seed-some tags limit found in
          let (placed, is) = c.otherwise h (λ unserved. unserved s least.below _ least.fills) in
          is ∙ sym (placed-only h placed (c.accepted placed is))

  -- An answer comes only where the earlier checks pass,
  pub answered-checked : {placed : Placement} → placing_of tags limit ≡ answered placed → GroupChecks tags limit
  unfolding placing_of placing_checks
  answered-checked e =
      let checks = placing_checks tags limit in
      let passes = (in_order-answered checks (answered (placement_of tags limit)) e).0 in
      record {
        limit-legal = inside 1 limit_max limit (false-of-met _ (passed checks passes 4));
        count-legal = ltb-false group_max (length tags) (false-of-met _ (passed checks passes 5));
        ascending = ascending-of-check tags (passed checks passes 6);
        wired = wired-of-check tags (passed checks passes 17);
      }

  -- and its word is a number of 32 bits.
  pub word_fits : (placed : Placement) → placing_of tags limit ≡ answered placed → placed.word < tag_end
  word_fits placed e =
      let longest : 2 ^ length tags ≤ 2 ^ group_max = pow_mono (answered-checked e).count-legal in
      omega (arith, (accepted-placed placed e).no-higher-bit, word-bits)
