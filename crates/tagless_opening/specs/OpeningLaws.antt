-- What follows from how an index without tags opens, and the four ways in which it does. Assumes nothing.
use Rattle.std.specs.Prelude.{◌≡◌, List, ℕ, ◌+◌, ◌*◌, ◌≤◌, ◌<◌, length, None, Some}
use Rattle.std.proofs.Math.Path.{sym, ap}
use Rattle.std.proofs.Common.{◌∙◌}
use Rattle.refusal.specs.Outcome.{Outcome, answered, refused}
use Rattle.refusal.specs.Checks.{in_order}
use Rattle.text.specs.Line.{line_length, line_at, image_header}
use Rattle.text.proofs.LineLaws.{image-header-only}
use Rattle.word_line.specs.WordLine.{word_line_length}
use Rattle.image.specs.View.{groups_in}
use Rattle.opening.specs.OpenedLaws.{counts-in, refused-for, passes-for, opens-for, short-for, malformed-for, other-for, counts-for}
use Rattle.tagless_image.specs.Sheet.{tagless_length}
use Rattle.tagless_image.specs.View.{tagless_view}
use Rattle.tagless_image.specs.Checking.{tagless_opening}
use Rattle.tagless_opening.specs.Opening.{tagless_opening_of, TaglessOpens}

module _ (image : List ℕ) where
  -- The length that line 0 states.
  abbrev whole : ℕ
  whole = tagless_length (groups_in (tagless_view image))

  -- A refusal of the opening is a refusal of everything that begins with it.
  pub opening-refused : {A : Type 0} {number place : ℕ} → tagless_opening_of image ≡ refused number place
      → (o : Outcome A) → in_order (tagless_opening (tagless_view image)) o ≡ refused number place
  unfolding tagless_opening_of tagless_opening
  opening-refused e o = refused-for whole (tagless_view image) e o

  -- Behind an image that opens, what follows decides.
  pub opening-passes : {A : Type 0} {counts : ℕ × ℕ} → tagless_opening_of image ≡ answered counts
      → (o : Outcome A) → in_order (tagless_opening (tagless_view image)) o ≡ o
  unfolding tagless_opening_of tagless_opening
  opening-passes e o = passes-for whole (tagless_view image) e o

  pub opening-answered : {count groups : ℕ} → tagless_opening_of image ≡ answered (count, groups) → TaglessOpens image count groups
  unfolding tagless_opening_of tagless_view
  opening-answered {count} {groups} e =
      let (long, reads) = opens-for whole (tagless_view image) e in
      let range = image-header-only count groups (line_at 0 image) reads in
      let counts = counts-in (tagless_view image) reads in
      record {
        size = long ∙ ap tagless_length counts.1;
        count-is = counts.0;
        groups-is = counts.1;
        count-legal = range.1;
        groups-some = range.2;
        groups-legal = range.3;
      }

  -- The four ways in which it opens.
  pub open-short : length image < line_length → tagless_opening_of image ≡ refused 11 0
  unfolding tagless_opening_of tagless_view
  open-short short = short-for whole (tagless_view image) short

  module _ (long : line_length ≤ length image) where
    pub open-malformed : image_header (line_at 0 image) ≡ None → tagless_opening_of image ≡ refused 12 0
    unfolding tagless_opening_of tagless_view
    open-malformed header = malformed-for whole (tagless_view image) long header

    module _ {n b : ℕ} (header : image_header (line_at 0 image) ≡ Some (n, b)) where
      -- The stated length is 11 + 21 × B.
      whole_is : whole ≡ line_length + word_line_length * b
      unfolding tagless_view tagless_length
      whole_is = rw (counts-in (tagless_view image) header).1

      pub open-other-length : (length image ≡ line_length + word_line_length * b → ⊥) → tagless_opening_of image ≡ refused 11 0
      unfolding tagless_opening_of tagless_view
      open-other-length other = other-for whole (tagless_view image) long header (λ same. other (same ∙ whole_is))

      pub open-counts : length image ≡ line_length + word_line_length * b → tagless_opening_of image ≡ answered (n, b)
      unfolding tagless_opening_of tagless_view
      open-counts same = counts-for whole (tagless_view image) long header (same ∙ sym whole_is)
