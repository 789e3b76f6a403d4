-- What checking establishes of an index without tags, and what lookup then answers. Assumes nothing.
use Rattle.std.specs.Prelude.{◌≡◌, refl, Bool, true, false, cond, not, ◌&&◌, ◌||◌, List, ℕ, zero, suc, ◌+◌, ◌<◌, eqb, ltb}
use Rattle.std.proofs.Common.{◌∙◌, arith, ltb-true, lt-ltb, le-ltb, eq-eqb, ne_eqb}
use Rattle.std.proofs.lemmas.Bool.{not-false}
use Rattle.refusal.specs.Limits.{unwired}
use Rattle.refusal.specs.Outcome.{answered}
use Rattle.lists.specs.First.{is_some}
use Rattle.lists.proofs.FirstLaws.{first-none, first_out, some-of-is_some}
use Rattle.refusal.specs.Checks.{Pass}
use Rattle.refusal.proofs.ChecksLaws.{◌then◌, met_at-false, false-of-met, passed, pass-append, pass-split, in_order-pass}
use Rattle.hash.proofs.FormulaLaws.{group-below}
use Rattle.text.specs.Line.{line_at, image_header}
use Rattle.text.proofs.LineLaws.{image-header-only}
use Rattle.image.specs.View.{View, count_in, groups_in, start_in, end_in, faulty}
use Rattle.image.specs.Checking.{malformed_in}
use Rattle.image.specs.Lookup.{number, unknown, group_checks}
use Rattle.image.specs.LinesRead.{own_group}
use Rattle.image.specs.Fair.{AllFair}
use Rattle.image.proofs.FaultLaws.{fair-of-faulty, end-most}
use Rattle.tagless_image.specs.View.{tagless_view, word_in}
use Rattle.tagless_image.specs.Checking.{tagless_opening, tagless_checks}
use Rattle.tagless_image.specs.Lookup.{tagless_lookup_checks, number_by, tagless_in_group, tagless_lookup_of}
use Rattle.tagless_image.proofs.LookupLaws.{lookup-unwired, lookup-wired}

-- What checking establishes of an image that it accepts.
pub record Sound (v : View) : Type 0 where
  pub opens : Pass (tagless_opening v)
  pub group_lines : (g : ℕ) → g < groups_in v → is_some (v.group_at (suc g)) ≡ true
  pub not-faulty : (g : ℕ) → g < groups_in v → faulty g (start_in v g) (end_in v g) ≡ false

-- Line 0 of an image that opens is well formed.
opens-header : (v : View) → Pass (tagless_opening v) → is_some v.header ≡ true
unfolding tagless_opening
opens-header v passes = not-false (is_some v.header) (false-of-met _ (passed (tagless_opening v) passes 12))

pub sound-of-pass : (v : View) → Pass (tagless_checks v) → Sound v
unfolding tagless_checks malformed_in
sound-of-pass v passes =
    let (opens, (lines, (groups, end))) = pass-split (tagless_opening v) _ passes in
    let well = first-none (malformed_in v) (1 + groups_in v) lines in
    record {
      opens = opens;
      group_lines = λ g lt. not-false (is_some (v.group_at (suc g))) (rw (lt-ltb g (groups_in v) lt) at (well (suc g) (omega arith)));
      not-faulty = first-none (λ g. faulty g (start_in v g) (end_in v g)) (groups_in v) groups;
    }

-- And such an image is accepted.
pub pass-of-sound : (v : View) → Sound v → Pass (tagless_checks v)
unfolding tagless_checks malformed_in
pass-of-sound v s =
    pass-append (tagless_opening v) _ s.opens
    (first_out (malformed_in v) (1 + groups_in v) well
    then first_out (λ g. faulty g (start_in v g) (end_in v g)) (groups_in v) s.not-faulty
    then tt)
  where
    well : (k : ℕ) → k < 1 + groups_in v → malformed_in v k ≡ false
    well zero lt = rw (opens-header v s.opens)
    well (suc k) lt = let inside : k < groups_in v = omega arith in rw (lt-ltb k (groups_in v) inside, s.group_lines k inside)

-- A sound image has a group: its line 0 says so.
pub groups-some : (image : List ℕ) → Sound (tagless_view image) → 0 < groups_in (tagless_view image)
unfolding tagless_view groups_in
groups-some image sound =
    let ((n, b), reads) = some-of-is_some (image_header (line_at 0 image)) (opens-header (tagless_view image) sound.opens) in
    let range = image-header-only n b (line_at 0 image) reads in
    rw reads range.2

-- The checks of a lookup in a group pass.
group-passes : (v : View) → Sound v → (g : ℕ) → g < groups_in v → Pass (tagless_lookup_checks v g)
unfolding tagless_lookup_checks group_checks
group-passes v sound g lt =
    pass-append (tagless_opening v) _ sound.opens
    (met_at-false (suc g) own then met_at-false (suc (suc g)) next then met_at-false g fault then tt)
  where
    fair : AllFair v
    fair h below = fair-of-faulty h (start_in v h) (end_in v h) (sound.not-faulty h below)

    own : not (is_some (v.group_at (suc g))) ≡ false
    own = rw (sound.group_lines g lt)

    next : (ltb (suc g) (groups_in v) && not (is_some (v.group_at (suc (suc g))))) ≡ false
    next = go (ltb (suc g) (groups_in v)) refl
      where
        go : (b : Bool) → ltb (suc g) (groups_in v) ≡ b → (ltb (suc g) (groups_in v) && not (is_some (v.group_at (suc (suc g))))) ≡ false
        go true e = rw (e, sound.group_lines (suc g) (ltb-true (suc g) (groups_in v) e))
        go false e = rw e

    fault : (faulty g (start_in v g) (end_in v g) || ltb (count_in v) (end_in v g)) ≡ false
    fault = rw (sound.not-faulty g lt, le-ltb (count_in v) (end_in v g) (end-most v fair g lt))

-- In a sound image lookup answers unknown for tag 0 and in an empty group, and otherwise the start plus the place by the word's choice.
module _ (image : List ℕ) (sound : Sound (tagless_view image)) where
  pub sound-unwired : tagless_lookup_of image unwired ≡ answered unknown
  sound-unwired = lookup-unwired image ∙ in_order-pass (tagless_opening (tagless_view image)) _ sound.opens

  module _ (many : 0 < groups_in (tagless_view image)) (t : ℕ) (wired : t ≡ unwired → ⊥) where
    own : ℕ
    own = own_group (tagless_view image) t

    lookup-passes : tagless_lookup_of image t
        ≡ cond (eqb (start_in (tagless_view image) own) (end_in (tagless_view image) own)) (answered unknown)
        (answered (number (number_by (tagless_view image) (word_in image own) own t)))
    unfolding tagless_in_group own
    lookup-passes =
        let v = tagless_view image in
        lookup-wired image t wired
        ∙ in_order-pass (tagless_lookup_checks v own) _ (group-passes v sound own (group-below (groups_in v) t many))

    pub sound_empty : start_in (tagless_view image) (own_group (tagless_view image) t)
        ≡ end_in (tagless_view image) (own_group (tagless_view image) t)
        → tagless_lookup_of image t ≡ answered unknown
    unfolding own
    sound_empty empty = lookup-passes ∙ rw (eq-eqb _ _ empty)

    pub sound-number : (start_in (tagless_view image) (own_group (tagless_view image) t)
        ≡ end_in (tagless_view image) (own_group (tagless_view image) t) → ⊥)
        → tagless_lookup_of image t
        ≡ answered (number (number_by (tagless_view image) (word_in image (own_group (tagless_view image) t))
        (own_group (tagless_view image) t) t))
    unfolding own
    sound-number filled = lookup-passes ∙ rw (ne_eqb _ _ filled)
