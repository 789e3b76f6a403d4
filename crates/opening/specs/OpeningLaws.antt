-- What follows from how an image opens, for what stands behind the opening checks. Assumes nothing.
use Rattle.std.specs.Prelude.{◌≡◌, List, ℕ, ◌+◌, ◌*◌, ◌≤◌, ◌<◌, length, None, Some}
use Rattle.std.proofs.Math.Path.{sym}
use Rattle.std.proofs.Common.{◌∙◌}
use Rattle.refusal.specs.Outcome.{Outcome, answered, refused}
use Rattle.refusal.specs.Checks.{in_order}
use Rattle.text.specs.Line.{line_length, line_at, image_header}
use Rattle.text.proofs.LineLaws.{image-header-only}
use Rattle.image.specs.Sheet.{image_length}
use Rattle.image.specs.View.{view_of, count_in, groups_in}
use Rattle.image.specs.Checking.{opening_checks}
use Rattle.opening.specs.OpenedLaws.{counts-in, refused-for, passes-for, opens-for, short-for, malformed-for, other-for, counts-for}
use Rattle.opening.specs.Opening.{opening_of, Opens}

-- The length that line 0 states.
abbrev whole_of : List ℕ → ℕ
whole_of image = image_length (groups_in (view_of image)) (count_in (view_of image))

-- A refusal of the opening is a refusal of everything that begins with it.
pub opening-refused : {A : Type 0} (image : List ℕ) {number place : ℕ} → opening_of image ≡ refused number place
    → (o : Outcome A) → in_order (opening_checks (view_of image)) o ≡ refused number place
unfolding opening_of opening_checks
opening-refused image e o = refused-for (whole_of image) (view_of image) e o

-- Behind an image that opens, what follows decides.
pub opening-passes : {A : Type 0} (image : List ℕ) {counts : ℕ × ℕ} → opening_of image ≡ answered counts
    → (o : Outcome A) → in_order (opening_checks (view_of image)) o ≡ o
unfolding opening_of opening_checks
opening-passes image e o = passes-for (whole_of image) (view_of image) e o

pub opening-answered : (image : List ℕ) {count groups : ℕ} → opening_of image ≡ answered (count, groups) → Opens image count groups
unfolding opening_of view_of image_length
opening-answered image {count} {groups} e =
    let (long, reads) = opens-for (whole_of image) (view_of image) e in
    let range = image-header-only count groups (line_at 0 image) reads in
    let counts = counts-in (view_of image) reads in
    record {
      size = long ∙ cc (counts.0, counts.1);
      count-is = counts.0;
      groups-is = counts.1;
      count-legal = range.1;
      groups-some = range.2;
      groups-legal = range.3;
    }

-- The four ways in which an image opens.
module _ (image : List ℕ) where
  pub open-short : length image < line_length → opening_of image ≡ refused 11 0
  unfolding opening_of view_of
  open-short short = short-for (whole_of image) (view_of image) short

  module _ (long : line_length ≤ length image) where
    pub open-malformed : image_header (line_at 0 image) ≡ None → opening_of image ≡ refused 12 0
    unfolding opening_of view_of
    open-malformed header = malformed-for (whole_of image) (view_of image) long header

    -- The stated length is 11 × (1 + B + N).
    whole_is : {n b : ℕ} → image_header (line_at 0 image) ≡ Some (n, b) → whole_of image ≡ line_length * (1 + b + n)
    unfolding view_of image_length
    whole_is header = let counts = counts-in (view_of image) header in cc (counts.0, counts.1)

    pub open-other-length : {n b : ℕ} → image_header (line_at 0 image) ≡ Some (n, b) → (length image ≡ line_length * (1 + b + n) → ⊥)
        → opening_of image ≡ refused 11 0
    unfolding opening_of view_of
    open-other-length header other =
        other-for (whole_of image) (view_of image) long header (λ same. other (same ∙ whole_is header))

    pub open-counts : {n b : ℕ} → image_header (line_at 0 image) ≡ Some (n, b) → length image ≡ line_length * (1 + b + n)
        → opening_of image ≡ answered (n, b)
    unfolding opening_of view_of
    open-counts header whole = counts-for (whole_of image) (view_of image) long header (whole ∙ sym (whole_is header))
