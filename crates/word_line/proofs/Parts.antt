-- A group's line in a text: what it reads as, by its two fields and by what stands behind them. Assumes nothing.
use mathlib.Core.Path.{◌≡◌, refl, sym, ◌∙◌}
use mathlib.Core.Bool.{Bool, true, false, cond, ◌&&◌}
use mathlib.Core.List.{List}
use Rattle.std.specs.Prelude.{Option, None, Some}
use Prim.Native.Nat.{ℕ, ◌+◌, ◌-◌, ◌≤◌, ◌<◌}
use native.Mathlib.Omega.{arith}
use lib.Dec.{leb, ltb}
use lib.ListN.{length, take, drop, length-take, length-drop}
use lib.Seq.{take-add, drop-drop, length-take-le}
use Rattle.refusal.specs.Limits.{tag_end, seed_max}
use Rattle.text.specs.Field.{field}
use Rattle.text.specs.Line.{line_length, both_fields, within, slot_line}
use Rattle.word_line.specs.WordLine.{word_line_length, and_third, group_word_line}
use Rattle.word_line.proofs.WordLineLaws.{triple-parts, word-other-length}

-- A range of each part is a range of the whole.
parts_within : (small fits : Bool) (a b c : ℕ)
    → cond (small && fits) (Some (a, b, c)) None ≡ and_third (cond small (Some (a, b)) None) (cond fits (Some c) None)
unfolding and_third
parts_within true true a b c = refl
parts_within true false a b c = refl
parts_within false fits a b c = refl

no_third : (pair : Option (ℕ × ℕ)) → and_third pair None ≡ None
unfolding and_third
no_third None = refl
no_third (Some pair) = refl

within-parts : (pair : Option (ℕ × ℕ)) (third : Option ℕ)
    → within (λ h. leb h.1 seed_max && ltb h.2 tag_end) (and_third pair third)
    ≡ and_third (within (λ h. leb h.1 seed_max) pair) (within (λ t. ltb t tag_end) third)
unfolding within and_third
within-parts None third = refl
within-parts (Some pair) None = sym (no_third (within (λ h. leb h.1 seed_max) (Some pair)))
within-parts (Some pair) (Some c) = parts_within (leb pair.1 seed_max) (ltb c tag_end) pair.0 pair.1 c

module _ (bytes : List ℕ) (at : ℕ) where
  -- A line that the text cuts off is malformed.
  pub line-short : length bytes < at + word_line_length → group_word_line (take word_line_length (drop at bytes)) ≡ None
  line-short short =
      word-other-length (take word_line_length (drop at bytes)) (λ e. omega (arith, simp (length-take, length-drop) at e))

  -- One that is there is its two fields and, from its eleventh byte on, what a slot's line is.
  pub line-parts : at + word_line_length ≤ length bytes
      → group_word_line (take word_line_length (drop at bytes))
      ≡ and_third
      (within (λ h. leb h.1 seed_max)
      (both_fields (field 5 (take 5 (drop at bytes))) (field 5 (take 5 (drop (at + 5) bytes)))))
      (slot_line (take line_length (drop (at + 10) bytes)))
  unfolding group_word_line slot_line
  line-parts room =
      let rest = drop at bytes in
      let long : length rest ≡ length bytes - at = length-drop at bytes in
      let first = length-take-le 5 rest (omega arith) in
      let second = length-take-le 5 (drop 5 rest) (rw length-drop (omega arith)) in
      rw (
        take-add 10 11 rest,
        take-add 5 5 rest,
        triple-parts (take 5 rest) (take 5 (drop 5 rest)) (take line_length (drop 10 rest)) first second,
        drop-drop 5 at bytes,
        drop-drop 10 at bytes,
      )
      (within-parts _ _)

  -- By what was read of its two fields.
  pub line_read : at + word_line_length ≤ length bytes → {pair : Option (ℕ × ℕ)}
      → pair ≡ within (λ h. leb h.1 seed_max) (both_fields (field 5 (take 5 (drop at bytes))) (field 5 (take 5 (drop (at + 5) bytes))))
      → group_word_line (take word_line_length (drop at bytes)) ≡ and_third pair (slot_line (take line_length (drop (at + 10) bytes)))
  line_read room read = line-parts room ∙ rw (sym read)
