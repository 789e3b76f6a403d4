-- `tagless_write::worked::write_line_0` meets its contract, from the promise of `write_lines`: no group's line follows line 0.
-- Assumes nothing.
use mathlib.Core.Path.{◌≡◌, ◌∙◌, ap}
use mathlib.Core.List.{List, [], ◌∷◌, ◌++◌, flatten, append-nil}
use native.Mathlib.Omega.{arith}
use Prim.Native.Nat.{ℕ, ◌≤◌}
use lib.ListN.{drop}
use Rattle.lists.specs.UpTo.{up_to}
use Rattle.text.specs.Line.{pair_line}
use Rattle.tagless_image.specs.Sheet.{tagless_bytes, tagless_length}
use Rattle.tagless_write.specs.Stated.{stated_sheet, Writable}
use Rattle.tagless_write.proofs.worked.write_line_0.Goals as goal

writable : (room : ℕ) → 11 ≤ room → Writable (0 ∷ []) (0 ∷ []) (0 ∷ []) 0 0 room
unfolding tagless_length
writable room long = record {
  ends-known = omega arith;
  seeds-known = omega arith;
  words-known = omega arith;
  few-groups = omega arith;
  few-tags = omega arith;
  ends-small = λ g lt. absurd (omega arith);
  room-enough = omega (arith, long);
}

line-0-only : (before : List ℕ)
    → tagless_bytes (stated_sheet (0 ∷ []) (0 ∷ []) (0 ∷ []) 0 0) ++ drop (tagless_length 0) before ≡ pair_line 0 0 ++ drop 11 before
unfolding tagless_bytes tagless_length stated_sheet up_to flatten
line-0-only before = ap (λ (line : List ℕ). line ++ drop 11 before) (append-nil (pair_line 0 0))

pub write_lines-requires : goal.write_lines-requires
write_lines-requires c = writable _ c.requires

pub returns : goal.returns
returns c = record { bytes = c.write_lines.ensures.bytes ∙ line-0-only _ }
