-- What the loop that puts the tags of a group into the cells of their places keeps. Assumes nothing.
use Prim.Native.Nat.{ℕ, ◌+◌, ◌≤◌, ◌<◌}
use mathlib.Core.Path.{◌≡◌, refl, ◌∙◌}
use mathlib.Core.Bool.{Bool, true, false, cond}
use mathlib.Core.List.{List}
use native.Mathlib.Omega.{arith}
use lib.Dec.{ltb}
use lib.ListN.{length, get_or, set, length-set}
use lib.Seq.{get_or-set_same, get_or-set_other}
use borrow.Author.Tests.{ltb-true, ltb-false}
use Rattle.hash.specs.Formula.{hashed, multiplier}
use Rattle.group.specs.Group.{taken}
use Rattle.bits.specs.WordBits.{choice_in}
use Rattle.numbering.specs.GroupSlots.{group_slots}
use Rattle.arrange.specs.Arrange.{Arrangeable}
use Rattle.arrange.specs.PlaceLaws.{place_with, place-computed, place-fits, places-apart, slots-of-places}

-- The first i tags stand in the cells of their places.
pub record Arranged (part : List ℕ) (seed room : ℕ) (cells : List ℕ) (i : ℕ) : Type 0 where
  pub upto : i ≤ length part
  pub long : length cells ≡ room
  pub written : (k : ℕ) → k < i → get_or cells (place_with part seed k) 0 ≡ get_or part k 0

-- The multiplier and the place that a turn computes.
pub record Computed (part : List ℕ) (seed word i by place : ℕ) : Type 0 where
  pub by-is : by ≡ cond (choice_in word i) (multiplier seed 1) (multiplier seed 0)
  pub place_is : place ≡ hashed by (length part) (get_or part i 0)

module _ {part : List ℕ} {seed word room : ℕ} (a : Arrangeable part seed word room) where
  -- Before the first turn no tag stands anywhere.
  pub arranged-start : (cells : List ℕ) → length cells ≡ room → Arranged part seed room cells 0
  arranged-start cells l = record { upto = omega arith; long = l; written = λ k lt. absurd (omega arith) }

  module _ {cells : List ℕ} {i : ℕ} (r : Arranged part seed room cells i) where
    module _ {by place : ℕ} (lt : i < length part) (p : Computed part seed word i by place) where
      -- The place that a turn computes is that of its tag,
      pub turn-place : place ≡ place_with part seed i
      turn-place = p.place_is ∙ rw p.by-is (place-computed a i lt)

      -- and has a cell.
      pub turn_inside : place < length cells
      turn_inside = omega (arith, place-fits a i lt, turn-place, r.long, a.room-is)

      -- A turn writes one tag, and over no other tag.
      pub arranged-turn : Arranged part seed room (set cells place (get_or part i 0)) (i + 1)
      arranged-turn = record {
        upto = omega arith;
        long = length-set cells place (get_or part i 0) ∙ r.long;
        written = λ k below. go k below (ltb k i) refl;
      }
        where
          go : (k : ℕ) → k < i + 1 → (b : Bool) → ltb k i ≡ b
              → get_or (set cells place (get_or part i 0)) (place_with part seed k) 0 ≡ get_or part k 0
          go k below true e =
              let lower : k < i = ltb-true k i e in
              let other : place_with part seed k ≡ place → ⊥ =
              λ same. omega (arith, places-apart a k i (omega arith) lt (same ∙ turn-place)) in
              get_or-set_other cells place (place_with part seed k) (get_or part i 0) 0 other ∙ r.written k lower
          go k below false e =
              let same : k ≡ i = omega (arith, ltb-false k i e) in
              rw (same, ← turn-place) (get_or-set_same cells place (get_or part i 0) 0 turn_inside)

    -- After the last turn the cells are the group's slots.
    pub arranged-done : length part ≤ i → cells ≡ group_slots part seed (taken part seed)
    arranged-done past = slots-of-places a cells (r.long ∙ a.room-is) (λ k lt. r.written k (omega arith))
