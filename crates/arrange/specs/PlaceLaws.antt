-- The place of the tag with an index, and that the cells of the places, each with its tag, are the group's slots. Assumes nothing.
use Rattle.std.specs.Prelude.{ℕ, zero, suc, ◌<◌, ◌≡◌, refl, Bool, true, false, cond, List, [], ◌∷◌, get_or}
use Rattle.std.proofs.Math.Path.{sym}
use Rattle.std.proofs.Common.{◌∙◌, eq-eqb, ne_eqb}
use native.Mathlib.Omega.{arith}
use Rattle.std.proofs.Math.ListN.{length}
use Rattle.std.proofs.Math.Seq.{ext_get_or}
use Rattle.hash.specs.Formula.{hashed, multiplier, place_of}
use Rattle.lists.specs.Occurs.{distinct}
use Rattle.lists.proofs.OccursLaws.{occurs-not, distinct_head, distinct_tail, get_or-occurs, occurs-get_or, distinct-get_or}
use Rattle.filling.specs.Filling.{place_by, Fills}
use Rattle.filling.proofs.LeastLaws.{feasible-fills}
use Rattle.group.specs.Group.{both_places, group_under, taken}
use Rattle.group.proofs.GroupLaws.{fills-length, taken-fills}
use Rattle.bits.specs.WordBits.{choice_in}
use Rattle.bits.specs.WordBitsLaws.{word-choice}
use Rattle.lists.specs.UpTo.{up_to}
use Rattle.lists.proofs.UpToLaws.{up_to-length, up_to-at}
use Rattle.numbering.specs.Number.{choice_of, place_in, tag_numbered}
use Rattle.numbering.proofs.NumberLaws.{ImageOf, image-onto, place-apart, place_inside, some-listed, tag_numbered-is}
use Rattle.numbering.specs.GroupSlots.{group_slots}
use Rattle.arrange.specs.Arrange.{Arrangeable}

-- The choice of the tag with index i is the choice with index i.
pub choice_of-at : (tags : List ℕ) (choices : List Bool) (i : ℕ) → distinct tags ≡ true → length choices ≡ length tags → i < length tags
    → choice_of tags choices (get_or tags i 0) ≡ get_or choices i false
unfolding choice_of
choice_of-at [] choices i d l lt = absurd (omega arith)
choice_of-at (u ∷ us) [] i d l lt = absurd (omega arith)
choice_of-at (u ∷ us) (c ∷ cs) zero d l lt = rw (eq-eqb u u refl)
choice_of-at (u ∷ us) (c ∷ cs) (suc i) d l lt =
    let below : i < length us = omega arith in
    let other : get_or us i 0 ≡ u → ⊥ = λ e. occurs-not u us (rw e at (get_or-occurs us i below)) (distinct_head u us d) in
    rw (ne_eqb (get_or us i 0) u other) (choice_of-at us cs i (distinct_tail u us d) (omega arith) below)

-- Hashing by the multiplier of a choice gives the place that the choice takes.
hashed-choice : (n seed t : ℕ) (choice : Bool)
    → hashed (cond choice (multiplier seed 1) (multiplier seed 0)) n t ≡ place_by choice (both_places n seed t)
unfolding place_by both_places place_of
hashed-choice n seed t false = refl
hashed-choice n seed t true = refl

-- The place of the tag with index i, under the sequence taken.
abbrev pub place_with : List ℕ → ℕ → ℕ → ℕ
place_with part seed i = place_in part seed (taken part seed) (get_or part i 0)

module _ {part : List ℕ} {seed word room : ℕ} (a : Arrangeable part seed word room) where
  -- The sequence taken fills the group.
  arranged-fills : Fills (group_under part seed) (taken part seed)
  arranged-fills = let (cs, f) = feasible-fills (group_under part seed) a.filled in taken-fills part seed cs f

  -- It has a choice for each tag.
  choices-whole : length (taken part seed) ≡ length part
  choices-whole = fills-length (length part) seed part arranged-fills

  -- The place of the tag with index i is what the code computes, from the word.
  pub place-computed : (i : ℕ) → i < length part
      → hashed (cond (choice_in word i) (multiplier seed 1) (multiplier seed 0)) (length part) (get_or part i 0) ≡ place_with part seed i
  unfolding place_in
  place-computed i lt =
      rw (
        a.word-is,
        word-choice (taken part seed) i (omega (arith, choices-whole)),
        choice_of-at part (taken part seed) i a.differ choices-whole lt,
      )
      (hashed-choice (length part) seed (get_or part i 0) (get_or (taken part seed) i false))

  -- It is below the size of the group,
  pub place-fits : (i : ℕ) → i < length part → place_with part seed i < length part
  place-fits i lt = place_inside part seed (taken part seed) (get_or part i 0) (omega arith)

  -- and no two tags have one place.
  pub places-apart : (i j : ℕ) → i < length part → j < length part → place_with part seed i ≡ place_with part seed j → i ≡ j
  places-apart i j li lj e =
      let apart = place-apart part seed (taken part seed) a.differ arranged-fills in
      distinct-get_or part a.differ i j li lj
      (apart (get_or part i 0) (get_or part j 0) (get_or-occurs part i li) (get_or-occurs part j lj) e)

  -- Each place is some tag's.
  place-reached : (j : ℕ) → j < length part → ImageOf (place_in part seed (taken part seed)) part j
  place-reached =
      image-onto (place_in part seed (taken part seed)) part a.differ
      (place-apart part seed (taken part seed) a.differ arranged-fills)
      (λ t m. place_inside part seed (taken part seed) t (some-listed part t m))

  -- Cells that have each tag at its place, and no more cells, are the group's slots.
  pub slots-of-places : (cells : List ℕ) → length cells ≡ length part
      → ((i : ℕ) → i < length part → get_or cells (place_with part seed i) 0 ≡ get_or part i 0)
      → cells ≡ group_slots part seed (taken part seed)
  unfolding group_slots
  slots-of-places cells l each =
      let place = place_in part seed (taken part seed) in
      ext_get_or 0 cells (up_to (length part) (tag_numbered place part))
      (l ∙ sym (up_to-length (length part) (tag_numbered place part))) (λ j lt.
      let below : j < length part = omega arith in
      let has = tag_numbered-is place part j (place-reached j below) in
      let at = occurs-get_or part (tag_numbered place part j) has.0 in
      rw (up_to-at (length part) (tag_numbered place part) 0 j below) (rw (at.value, has.1) at (each at.index at.inside)))
