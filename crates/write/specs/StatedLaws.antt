-- The lines that arrays state. Assumes nothing.
use Prim.Native.Nat.{ℕ, zero, suc, ◌+◌, ◌-◌, ◌≤◌, ◌<◌}
use Rattle.std.specs.Prelude.{◌≡◌, refl, Bool, cond, ltb, get_or}
use Rattle.std.proofs.Common.{◌∙◌, lt-ltb, le-ltb}
use Rattle.std.proofs.Math.Path.{ap}
use Rattle.std.proofs.Math.Bool.{true, false}
use mathlib.Core.List.{List, ◌++◌, flatten}
use native.Mathlib.Omega.{arith}
use Rattle.std.proofs.Math.ListN.{length}
use Rattle.text.specs.Line.{line_length, pair_line, tag_line}
use Rattle.text.proofs.LineLaws.{pair_line-length, tag_line-length}
use Rattle.lists.specs.UpTo.{up_to}
use Rattle.image.specs.Sheet.{lines_of, bytes_of}
use Rattle.lists.proofs.UpToLaws.{up_to-append, up_to-agree}
use Rattle.numbering.specs.Parts.{part_start}
use Rattle.write.specs.Stated.{stated_sheet, stated_line}

module _ (ends seeds slots : List ℕ) (groups count : ℕ) where
  abbrev line : ℕ → List ℕ
  line = stated_line ends seeds slots groups count

  -- Each line has the length of a line.
  pub line-length : (k : ℕ) → length (line k) ≡ line_length
  unfolding stated_line
  line-length zero = pair_line-length count groups
  line-length (suc g) = go (ltb g groups)
    where
      go : (b : Bool)
          → length (cond b (pair_line (part_start ends g) (get_or seeds g 0)) (tag_line (get_or slots (g - groups) 0))) ≡ line_length
      go true = pair_line-length (part_start ends g) (get_or seeds g 0)
      go false = tag_line-length (get_or slots (g - groups) 0)

  -- A group's line, and a slot's.
  pub line-group : (g : ℕ) → g < groups → line (suc g) ≡ pair_line (part_start ends g) (get_or seeds g 0)
  unfolding stated_line
  line-group g lt = rw (lt-ltb g groups lt)

  pub line-slot : (g : ℕ) → groups ≤ g → line (suc g) ≡ tag_line (get_or slots (g - groups) 0)
  unfolding stated_line
  line-slot g le = rw (le-ltb g groups le)

  -- All of them one behind the other are the bytes of the image.
  later-lines : up_to (groups + count) (λ k. line (suc k))
      ≡ up_to groups (λ g. pair_line (part_start ends g) (get_or seeds g 0)) ++ up_to count (λ j. tag_line (get_or slots j 0))
  later-lines =
      up_to-append groups count (λ k. line (suc k))
      ∙ rw (
        up_to-agree groups (λ g. line (suc g)) (λ g. pair_line (part_start ends g) (get_or seeds g 0)) line-group,
        up_to-agree count (λ j. line (suc (groups + j))) (λ j. tag_line (get_or slots j 0)) of-slot,
      )
    where
      of-slot : (j : ℕ) → j < count → line (suc (groups + j)) ≡ tag_line (get_or slots j 0)
      of-slot j lt = let back : groups + j - groups ≡ j = omega arith in line-slot (groups + j) (omega arith) ∙ rw back

  pub stated-bytes : flatten (up_to (1 + groups + count) line) ≡ bytes_of (stated_sheet ends seeds slots groups count)
  unfolding bytes_of lines_of up_to stated_sheet stated_line
  stated-bytes = let e : 1 + groups + count ≡ suc (groups + count) = omega arith in ap flatten (rw (e, later-lines))

-- Where a group begins: the first at 0, a later one where the group before it ends.
pub start_first : (ends : List ℕ) {g : ℕ} → g ≡ 0 → 0 ≡ part_start ends g
unfolding part_start
start_first ends e = rw e

pub start-later : (ends : List ℕ) (g : ℕ) → (g ≡ 0 → ⊥) → get_or ends (g - 1) 0 ≡ part_start ends g
unfolding part_start
start-later ends zero some = absurd (some refl)
start-later ends (suc g) some = let e : suc g - 1 ≡ g = omega arith in rw e
