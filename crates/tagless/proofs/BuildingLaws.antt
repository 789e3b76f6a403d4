-- The ways in which building an index without tags ends, in the order of its checks, and what it leaves. Assumes nothing.
use Rattle.std.specs.Prelude.{◌≡◌, true, false, length, drop, Option, Some, unwrap_or}
use Rattle.std.proofs.Math.Path.{refl}
use Rattle.std.proofs.Common.{ap}
use mathlib.Core.List.{List, ◌++◌}
use Prim.Native.Nat.{ℕ, ◌<◌}
use Rattle.std.proofs.lemmas.Bool.{not-false, not-true}
use Rattle.refusal.specs.Outcome.{answered, refused}
use Rattle.refusal.proofs.OutcomeLaws.{left-answered, left-refused}
use Rattle.lists.specs.First.{first, is_some}
use Rattle.lists.proofs.FirstLaws.{some-of-is_some, none-of-is_some}
use Rattle.refusal.specs.Checks.{Check, Pass}
use Rattle.refusal.specs.ChecksBefore.{checks_before}
use Rattle.refusal.proofs.ChecksLaws.{met_by, met-first, met-alone, in_order-pass, in_order-answered, in_order-refused}
use Rattle.numbering.specs.Members.{members}
use Rattle.numbering.specs.Writing.{written}
use Rattle.tagless_group.specs.Words.{worded_seed}
use Rattle.tagless_group.proofs.WordsLaws.{NoWord, LeastWordSeed, worded_seed-some, worded_seed-none}
use Rattle.tagless_image.specs.Sheet.{tagless_length}
use Rattle.tagless_image.proofs.SheetLaws.{tagless-length}
use Rattle.tagless.specs.Building.{wordless, tagless_building_checks, tagless_building_of, tagless_seed, tagless_word, tagless_sheet_of}
use Rattle.tagless.specs.Building.{tagless_image_of, tagless_after}

-- The image has the length that building answers.
pub image-length : (groups : ℕ) (tags : List ℕ) (limit : ℕ) → length (tagless_image_of groups tags limit) ≡ tagless_length groups
unfolding tagless_image_of tagless_sheet_of
image-length groups tags limit = tagless-length
    (tagless_sheet_of groups tags (tagless_seed groups tags limit) (tagless_word groups tags limit))

module _ (tags : List ℕ) (groups limit : ℕ) where
  -- A group that is not without a word has its least seed and word,
  pub taken-least : (g : ℕ) → wordless groups tags limit g ≡ false
      → LeastWordSeed (members groups g tags) limit (tagless_seed groups tags limit g) (tagless_word groups tags limit g)
  unfolding tagless_seed tagless_word
  taken-least g e =
      let (taken, found) = some-of-is_some (worded_seed own limit) (not-false (is_some (worded_seed own limit)) e) in go taken found
    where
      own : List ℕ
      own = members groups g tags

      go : (taken : ℕ × ℕ) → worded_seed own limit ≡ Some taken
          → LeastWordSeed own limit (tagless_seed groups tags limit g) (tagless_word groups tags limit g)
      go (s, w) found =
          let seed-is : tagless_seed groups tags limit g ≡ s = ap (λ (o : Option (ℕ × ℕ)). (unwrap_or o (0, 0)).0) found in
          let word-is : tagless_word groups tags limit g ≡ w = ap (λ (o : Option (ℕ × ℕ)). (unwrap_or o (0, 0)).1) found in
          rw (seed-is, word-is) (worded_seed-some own limit found)

  -- and one that is has none under any seed below the limit.
  pub none-taken : (g : ℕ) → wordless groups tags limit g ≡ true → (s : ℕ) → s < limit → NoWord (members groups g tags) s
  none-taken g e =
      let own = members groups g tags in
      worded_seed-none own limit (none-of-is_some (worded_seed own limit) (not-true (is_some (worded_seed own limit)) e))

  module _ (room : ℕ) where
    abbrev checks : List Check
    checks = tagless_building_checks tags groups limit room

    -- A check that is met where those before it pass is building's refusal.
    pub building-refused : (number : ℕ) {place : ℕ} → Pass (checks_before number checks) → met_by checks number ≡ Some place
        → tagless_building_of tags groups limit room ≡ refused number place
    unfolding tagless_building_of
    building-refused number passes e = met-first checks _ number passes e

    pub building-answered : Pass checks → tagless_building_of tags groups limit room ≡ answered (tagless_length groups)
    unfolding tagless_building_of
    building-answered passes = in_order-pass checks _ passes

    -- An answer says that the checks pass, and it is the length.
    pub building-says : {size : ℕ} → tagless_building_of tags groups limit room ≡ answered size
        → Pass checks × (tagless_length groups ≡ size)
    unfolding tagless_building_of
    building-says e = let (passes, answer) = in_order-answered checks (answered (tagless_length groups)) e in (passes, cc)

    -- A refusal 7 comes from the last check, since no earlier one has its number.
    pub building-seven : {g : ℕ} → tagless_building_of tags groups limit room ≡ refused 7 g
        → first (wordless groups tags limit) groups ≡ Some g
    unfolding tagless_building_of tagless_building_checks
    building-seven e = (met-alone checks 7 refl (in_order-refused checks (tagless_length groups) e)).1

  -- The buffer: the image and then what was there; a refusal leaves it.
  pub after-answered : (before : List ℕ) {size : ℕ} → tagless_building_of tags groups limit (length before) ≡ answered size
      → tagless_after tags groups limit before
      ≡ tagless_image_of groups tags limit ++ drop (length (tagless_image_of groups tags limit)) before
  unfolding tagless_after written
  after-answered before e = left-answered _ _ e

  pub after-refused : (before : List ℕ) {number place : ℕ} → tagless_building_of tags groups limit (length before) ≡ refused number place
      → tagless_after tags groups limit before ≡ before
  unfolding tagless_after written
  after-refused before e = left-refused _ _ e
