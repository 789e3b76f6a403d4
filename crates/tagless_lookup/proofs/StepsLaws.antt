-- Each step of a lookup in an index without tags, by what the lines read as. Assumes nothing.
use Rattle.std.specs.Prelude.{◌≡◌, true, false, ◌||◌, List, ltb, Option, None, Some, unwrap_or, option_map}
use Rattle.std.proofs.Common.{◌∙◌, arith}
use Rattle.std.proofs.Math.Path.{ap}
use Prim.Native.Nat.{ℕ, suc, ◌+◌, ◌-◌, ◌≤◌, ◌<◌}
use borrow.Author.Tests.{eq-eqb, ne_eqb}
use Rattle.refusal.specs.Limits.{unwired}
use Rattle.refusal.specs.Outcome.{answered, refused}
use Rattle.refusal.proofs.ChecksLaws.{in_order-append}
use Rattle.hash.specs.Formula.{group_of, place_of}
use Rattle.filling.specs.Word.{choice_number}
use Rattle.image.specs.View.{count_in, faulty, candidate_in}
use Rattle.image.specs.Lookup.{number, unknown}
use Rattle.image.proofs.UnwiredLaws.{by-wired}
use Rattle.lookup.specs.Steps.{end_of}
use Rattle.lookup.specs.GroupLaws.{end-at-count, end-at-next, end_is, start_is, seed-is}
use Rattle.lookup.specs.GroupLaws.{own-refused, next-refused, fault-refused, group-passes}
use Rattle.tagless_group.specs.Words.{choice_by}
use Rattle.word_line.specs.WordLine.{start_and_seed}
use Rattle.tagless_image.specs.View.{stated_at, tagless_view, word_in}
use Rattle.tagless_image.specs.Checking.{tagless_opening}
use Rattle.tagless_image.specs.Lookup.{tagless_lookup_checks, number_by, tagless_in_group, tagless_lookup_of}
use Rattle.tagless_image.proofs.LookupLaws.{lookup-unwired, lookup-wired}
use Rattle.tagless_opening.specs.Opening.{tagless_opening_of, TaglessOpens}
use Rattle.tagless_opening.specs.OpeningLaws.{opening-refused, opening-passes, opening-answered}
use Rattle.tagless_lookup.specs.Steps.{group_outcome}

module _ (image : List ℕ) where
  -- A line as the view has it.
  line-in : (k : ℕ) {o : Option (ℕ × ℕ × ℕ)} → stated_at image k ≡ o → (tagless_view image).group_at k ≡ option_map start_and_seed o
  unfolding tagless_view
  line-in k e = rw e

  -- Where a group ends.
  pub end-of-last : {count groups : ℕ} → TaglessOpens image count groups → (g : ℕ) → suc g ≡ groups
      → end_of (tagless_view image) g ≡ Some count
  end-of-last opens g last = rw (← opens.count-is) (end-at-count (tagless_view image) g (omega (arith, opens.groups-is)))

  pub end-of-malformed : {count groups : ℕ} → TaglessOpens image count groups → (g : ℕ) → suc g < groups
      → (tagless_view image).group_at (suc (suc g)) ≡ None → end_of (tagless_view image) g ≡ None
  end-of-malformed opens g lt = end-at-next (tagless_view image) g (omega (arith, opens.groups-is))

  pub end-of-next : {count groups : ℕ} → TaglessOpens image count groups → (g : ℕ) → suc g < groups
      → {start seed : ℕ} → (tagless_view image).group_at (suc (suc g)) ≡ Some (start, seed) → end_of (tagless_view image) g ≡ Some start
  end-of-next opens g lt = end-at-next (tagless_view image) g (omega (arith, opens.groups-is))

  -- The group's line, the next one, its fault, and its number.
  module _ (t g : ℕ) where
    pub own-malformed : stated_at image (suc g) ≡ None → group_outcome image t g ≡ refused 12 (suc g)
    unfolding group_outcome
    own-malformed e = own-refused (tagless_view image) g _ (line-in (suc g) e)

    module _ {start seed word : ℕ} (stated : stated_at image (suc g) ≡ Some (start, seed, word)) where
      own : (tagless_view image).group_at (suc g) ≡ Some (start, seed)
      own = line-in (suc g) stated

      word-is : word_in image g ≡ word
      unfolding word_in
      word-is = ap (λ (o : Option (ℕ × ℕ × ℕ)). (unwrap_or o (0, 0, 0)).2) stated

      pub next-malformed : end_of (tagless_view image) g ≡ None → group_outcome image t g ≡ refused 12 (suc (suc g))
      unfolding group_outcome
      next-malformed e = next-refused (tagless_view image) g _ own e

      module _ {end : ℕ} (ends : end_of (tagless_view image) g ≡ Some end) where
        pub group-faulty : (faulty g start end || ltb (count_in (tagless_view image)) end) ≡ true → group_outcome image t g ≡ refused 13 g
        unfolding group_outcome
        group-faulty e = fault-refused (tagless_view image) g _ own ends e

        module _ (fair : faulty g start end ≡ false) (within : end ≤ count_in (tagless_view image)) where
          pub group_empty : start ≡ end → group_outcome image t g ≡ answered unknown
          unfolding group_outcome
          group_empty empty =
              group-passes (tagless_view image) g _ own ends fair within
              ∙ rw (start_is (tagless_view image) g own, end_is (tagless_view image) g ends, eq-eqb start end empty)

          pub group-number : (start ≡ end → ⊥)
              → group_outcome image t g ≡ answered (number (start + place_of (end - start) seed (choice_number (choice_by word seed t)) t))
          unfolding group_outcome number_by candidate_in
          group-number filled =
              group-passes (tagless_view image) g _ own ends fair within
              ∙ rw (
                start_is (tagless_view image) g own,
                end_is (tagless_view image) g ends,
                seed-is (tagless_view image) g own,
                word-is,
                ne_eqb start end filled,
              )

  -- The opening, and what stands behind it: nothing for tag 0, and the group of any other.
  pub lookup-unopened : (t : ℕ) {reason place : ℕ} → tagless_opening_of image ≡ refused reason place
      → tagless_lookup_of image t ≡ refused reason place
  unfolding tagless_in_group tagless_lookup_checks
  lookup-unopened t e = by-wired t
      (λ zero. rw zero (lookup-unwired image ∙ opening-refused image e _))
      (λ wired. lookup-wired image t wired ∙ in_order-append (tagless_opening (tagless_view image)) _ _ ∙ opening-refused image e _)

  pub lookup-nobody : {counts : ℕ × ℕ} → tagless_opening_of image ≡ answered counts → tagless_lookup_of image unwired ≡ answered unknown
  lookup-nobody e = lookup-unwired image ∙ opening-passes image e _

  pub lookup-opened : {count groups : ℕ} → tagless_opening_of image ≡ answered (count, groups) → (t : ℕ) → (t ≡ unwired → ⊥)
      → tagless_lookup_of image t ≡ group_outcome image t (group_of groups t)
  unfolding tagless_in_group tagless_lookup_checks group_outcome
  lookup-opened e t wired =
      lookup-wired image t wired
      ∙ in_order-append (tagless_opening (tagless_view image)) _ _
      ∙ opening-passes image e _
      ∙ ap (λ (b : ℕ). group_outcome image t (group_of b t)) (opening-answered image e).groups-is
