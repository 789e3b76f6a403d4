-- Two checked images that state the same numbers are the same bytes, and two groups that state the same numbers have the same lines.
-- Assumes nothing.
use Prim.Native.Nat.{ℕ, zero, suc, ◌+◌, ◌-◌, ◌*◌, ◌<◌}
use Rattle.std.specs.Prelude.{◌≡◌, Bool, length, drop, unwrap_or}
use Rattle.std.proofs.Math.Path.{refl, ap}
use Rattle.std.proofs.Common.{sym, ◌∙◌, arith, take-append-drop, length-drop, drop-drop}
use Rattle.std.proofs.Math.Bool.{true, false}
use mathlib.Core.List.{List, [], ◌∷◌}
use Rattle.std.proofs.Math.Dec.{ltb}
use Rattle.std.proofs.Math.ListN.{get_or}
use borrow.Author.Tests.{ltb-true, ltb-false}
use Rattle.refusal.specs.Outcome.{answered}
use Rattle.lists.specs.UpTo.{up_to}
use Rattle.lists.proofs.UpToLaws.{up_to-at, up_to-agree}
use Rattle.text.specs.Line.{line_length, line_at, group_line, slot_line}
use Rattle.image.specs.View.{View, view_of, count_in, groups_in, start_in, seed_in, end_in, slot_line_in, slot_in}
use Rattle.image.specs.Checking.{checking_of}
use Rattle.strict.specs.AsBuilt.{slots_in}
use Rattle.strict_condition.specs.Condition.{group_lines}
use Rattle.strict.proofs.HeldLaws.{image-long, header-stated, group-stated, slot-stated, slots_at_lem, slot-below}

-- Bytes are the same whose lines are the same, where both are whole lines and as many.
lines-decide : (n : ℕ) (xs ys : List ℕ) → length xs ≡ line_length * n → length ys ≡ line_length * n
    → ((k : ℕ) → k < n → line_at k xs ≡ line_at k ys) → xs ≡ ys
unfolding line_at
lines-decide zero [] [] lx ly each = refl
lines-decide zero (x ∷ xs) ys lx ly each = absurd (omega (arith, lx))
lines-decide zero [] (y ∷ ys) lx ly each = absurd (omega (arith, ly))
lines-decide (suc n) xs ys lx ly each =
    let rest = lines-decide n (drop line_length xs) (drop line_length ys) (omega (arith, lx, length-drop line_length xs))
    (omega (arith, ly, length-drop line_length ys)) next in
    sym (take-append-drop line_length xs) ∙ rw (each 0 (omega arith), rest) (take-append-drop line_length ys)
  where
    next : (k : ℕ) → k < n → line_at k (drop line_length xs) ≡ line_at k (drop line_length ys)
    next k lt =
        let line : line_length + line_length * k ≡ line_length * suc k = omega arith in
        rw (drop-drop (line_length * k) line_length xs, drop-drop (line_length * k) line_length ys, line) (each (suc k) (omega arith))

module _ (image other : List ℕ) (a : checking_of image ≡ answered 0) (b : checking_of other ≡ answered 0) where
  abbrev v : View
  v = view_of image

  abbrev w : View
  w = view_of other

  -- The bytes, by all numbers.
  pub bytes-of-numbers : count_in v ≡ count_in w → groups_in v ≡ groups_in w → ((g : ℕ) → g < groups_in v → start_in v g ≡ start_in w g)
      → ((g : ℕ) → g < groups_in v → seed_in v g ≡ seed_in w g) → ((j : ℕ) → j < count_in v → slot_in v j ≡ slot_in w j) → image ≡ other
  unfolding slot_line_in
  bytes-of-numbers same_count same-groups starts seeds slots =
      lines-decide (1 + groups_in v + count_in v) image other (image-long image a)
      (image-long other b ∙ rw (same-groups, same_count)) each
    where
      each : (k : ℕ) → k < 1 + groups_in v + count_in v → line_at k image ≡ line_at k other
      each zero lt = header-stated image a ∙ rw (same_count, same-groups) (sym (header-stated other b))
      each (suc k) lt = go (ltb k (groups_in v)) refl
        where
          go : (c : Bool) → ltb k (groups_in v) ≡ c → line_at (suc k) image ≡ line_at (suc k) other
          go true e =
              let below = ltb-true k (groups_in v) e in
              let there = rw same-groups at below in
              (group-stated image a k below).0 ∙ rw (starts k below, seeds k below) (sym (group-stated other b k there).0)
          go false e =
              let past = ltb-false k (groups_in v) e in
              let j : ℕ = k - groups_in v in
              let below : j < count_in v = omega (arith, lt, past) in
              let line : 1 + groups_in v + j ≡ suc k = omega (arith, past) in
              let line' : 1 + groups_in w + j ≡ suc k = omega (arith, past, same-groups) in
              rw line at (slot-stated image a j below).0
              ∙ rw (slots j below) (sym (rw line' at (slot-stated other b j (rw same_count at below)).0))

  -- The lines of group g, by its numbers, and its numbers, by its lines; where it has the same slots in both.
  module _ (g : ℕ) (below : g < groups_in v) (same-groups : groups_in v ≡ groups_in w) (same_start : start_in v g ≡ start_in w g)
      (same_end : end_in v g ≡ end_in w g) where
    abbrev size : ℕ
    size = end_in v g - start_in v g

    other-below : g < groups_in w
    other-below = rw same-groups at below

    size_is : end_in w g - start_in w g ≡ size
    size_is = rw (same_start, same_end)

    pub lines-of-numbers : seed_in v g ≡ seed_in w g → slots_in v g ≡ slots_in w g → group_lines image g ≡ group_lines other g
    lines-of-numbers seeds slots =
        rw (group-line-same, ← size_is, slot-lines-same)
      where
        group-line-same : line_at (suc g) image ≡ line_at (suc g) other
        group-line-same = (group-stated image a g below).0 ∙ rw (same_start, seeds) (sym (group-stated other b g other-below).0)

        slot-lines-same : up_to (end_in w g - start_in w g) (λ p. line_at (slot_line_in v (start_in v g + p)) image)
            ≡ up_to (end_in w g - start_in w g) (λ p. line_at (slot_line_in w (start_in w g + p)) other)
        slot-lines-same = up_to-agree (end_in w g - start_in w g) _ _ (λ p lt.
            let lt' : p < size = rw size_is at lt in
            let tag : slot_in v (start_in v g + p) ≡ slot_in w (start_in w g + p) =
            sym (slots_at_lem image a g below p lt') ∙ rw slots (slots_at_lem other b g other-below p lt) in
            (slot-stated image a (start_in v g + p) (slot-below image a g below p lt')).0
            ∙ rw tag (sym (slot-stated other b (start_in w g + p) (slot-below other b g other-below p lt)).0))

    pub numbers-of-lines : group_lines image g ≡ group_lines other g → (seed_in v g ≡ seed_in w g) × (slots_in v g ≡ slots_in w g)
    unfolding view_of seed_in slot_in slots_in
    numbers-of-lines e = (
      ap (λ (line : List ℕ). (unwrap_or (group_line line) (0, 0)).1) (ap (λ (lines : List (List ℕ)). get_or lines 0 []) e),
      rw (← size_is) (up_to-agree (end_in w g - start_in w g) (λ p. slot_in v (start_in v g + p))
          (λ p. slot_in w (start_in w g + p)) (λ p lt.
          ap (λ (line : List ℕ). unwrap_or (slot_line line) 0)
          (sym (up_to-at (end_in v g - start_in v g) (λ p. line_at (slot_line_in v (start_in v g + p)) image) [] p (rw size_is at lt))
          ∙ ap (λ (lines : List (List ℕ)). get_or lines (suc p) []) e
          ∙ up_to-at (end_in w g - start_in w g) (λ p. line_at (slot_line_in w (start_in w g + p)) other) [] p lt))),
    )
