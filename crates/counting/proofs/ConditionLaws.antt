-- Counting parts meets its condition; and where a group passes the four checks the condition leaves no other answer. Assumes nothing.
use Rattle.std.specs.Prelude.{ℕ, ◌≤◌, ◌≡◌, true}
use Rattle.std.proofs.Common.{sym, ◌∙◌, arith, le-ltb}
use Rattle.std.proofs.Math.Path.{ap}
use mathlib.Core.List.{List, []}
use Rattle.std.proofs.Math.ListN.{length}
use Rattle.refusal.specs.Limits.{group_max, seed_max}
use Rattle.refusal.specs.Outcome.{Outcome, answered}
use Rattle.refusal.specs.Checks.{Pass}
use Rattle.refusal.proofs.ChecksLaws.{◌then◌, met-false, in_order-pass, in_order-answered}
use Rattle.group.specs.Group.{group_under}
use Rattle.group.proofs.GroupLaws.{group-size, group-below}
use Rattle.group.proofs.AscendingLaws.{check-of-ascending}
use Rattle.group.proofs.UnwiredLaws.{check-of-wired}
use Rattle.filling.specs.Filling.{Key}
use Rattle.lists.specs.UpTo.{up_to}
use Rattle.lists.specs.First.{first, is_some}
use Rattle.graph.specs.HowMany.{how_many}
use Rattle.graph.specs.Parts.{Parts, parts_of}
use Rattle.graph.proofs.PartLaws.{serves-parts, serves-fills, parts_are, parts-unique}
use Rattle.graph.proofs.SequencesLaws.{same_test}
use Rattle.graph.proofs.GraphTheorem.{sequences-counted}
use Rattle.parts_condition.specs.Condition.{PartsChecks, Counted, PartsCondition}
use Rattle.counting.specs.Counting.{counting_checks, counting_of}

module _ (tags : List ℕ) (seed : ℕ) where
  abbrev keys : List Key
  keys = group_under tags seed

  -- The checks pass: one line for each, in their order.
  pub checks-pass : PartsChecks tags seed → Pass (counting_checks tags seed)
  unfolding counting_checks
  checks-pass h =
      met-false (le-ltb seed_max seed h.seed-legal)
      then met-false (le-ltb group_max (length tags) h.count-legal)
      then check-of-ascending tags h.ascending
      then check-of-wired tags h.wired
      then tt

  -- What is counted is so.
  pub counted_of : Counted tags seed (parts_of (length tags) keys)
  counted_of = record {
    first-test = serves-fills keys (length tags) (group-below tags seed);
    no_part = serves-parts keys (length tags);
    number = parts_are (length tags) keys;
    sequences = sequences-counted (length tags) keys (group-size tags seed) (group-below tags seed);
  }

  -- An empty group passes the checks of its tags, and has no places.
  empty-answered : tags ≡ [] → seed ≤ seed_max → counting_of tags seed ≡ answered (record { serves = true; number = 0 })
  unfolding counting_of parts_of first is_some how_many up_to
  empty-answered none legal =
      in_order-pass (counting_checks tags seed) _ (checks-pass checks)
      ∙ ap (λ (l : List ℕ). answered (parts_of (length l) (group_under l seed))) none
    where
      size : length tags ≡ 0
      size = ap length none

      checks : PartsChecks tags seed
      checks = record {
        seed-legal = legal;
        count-legal = omega (arith, size);
        ascending = λ i lt. absurd (omega (arith, size));
        wired = λ some. absurd (omega (arith, size));
      }

  -- Counting parts meets the condition.
  pub counting-condition : PartsCondition tags seed (counting_of tags seed)
  unfolding counting_of
  counting-condition = record {
    counted = λ parts e.
        let told = (in_order-answered (counting_checks tags seed) (answered (parts_of (length tags) keys)) e).1 in
        let same : parts_of (length tags) keys ≡ parts = cc in
        rw same at counted_of;
    otherwise = λ h. (parts_of (length tags) keys, in_order-pass (counting_checks tags seed) _ (checks-pass h));
    empty = empty-answered;
  }

  -- Where the four checks pass, the condition leaves no other answer.
  pub condition-decides : PartsChecks tags seed → {answer : Outcome Parts} → PartsCondition tags seed answer
      → answer ≡ counting_of tags seed
  condition-decides h {answer} c =
      let (parts, told) = c.otherwise h in
      let (counts, is) = counting-condition.otherwise h in
      let has = c.counted parts told in
      let same = counting-condition.counted counts is in
      let served = same_test parts.serves counts.serves (λ e. same.first-test.1 (has.first-test.0 e))
      (λ e. has.first-test.1 (same.first-test.0 e)) in
      let number = parts-unique (length tags) keys parts.number counts.number has.number same.number in
      told ∙ ap answered (one-count parts counts served number) ∙ sym is
    where
      one-count : (p q : Parts) → p.serves ≡ q.serves → p.number ≡ q.number → p ≡ q
      one-count p q s n = rw (← s, ← n)

-- An outcome that is counting's meets its condition.
pub promised : (tags : List ℕ) (seed : ℕ) {outcome : Outcome Parts} → outcome ≡ counting_of tags seed
    → (outcome ≡ counting_of tags seed) × PartsCondition tags seed outcome
promised tags seed e = (e, rw e (counting-condition tags seed))
