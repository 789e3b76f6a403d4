-- The answers of an index without tags keep apart all outcomes that the functions can come to, and lookup's meet what is owed.
-- Assumes nothing.
use Rattle.std.specs.Prelude.{◌≡◌, refl, List, ℕ, suc, ◌≤◌, ◌<◌, eqb, Option, None, Some, unwrap_or}
use Rattle.std.proofs.Common.{◌∙◌, arith}
use Rattle.refusal.specs.Limits.{tag_end, tags_max, unwired}
use Rattle.refusal.specs.Outcome.{Outcome, answered, refused, answered_by}
use Rattle.refusal.proofs.OutcomeLaws.{answered-of-followed}
use Rattle.refusal.specs.Checks.{in_order}
use Rattle.refusal.proofs.ChecksLaws.{◌then◌, in_order-pass, in_order-append, in_order-answered}
use Rattle.refusal.proofs.PlaceLaws.{PlaceBelow, below-checks, below-cond, met_at-below, met-below, first_below}
use Rattle.refusal.proofs.PlaceLaws.{Numbered, numbered-checks, numbered-followed, numbered-cond}
use Rattle.hash.specs.Formula.{group_of}
use Rattle.hash.proofs.FormulaLaws.{group-below}
use Rattle.text.specs.Line.{line_at, image_header}
use Rattle.text.proofs.LineLaws.{image-header-only}
use Rattle.image.specs.View.{count_in, groups_in, start_in, end_in}
use Rattle.image.specs.Checking.{malformed_in}
use Rattle.image.specs.Lookup.{Found, number, unknown, group_checks}
use Rattle.numbering.specs.FromText.{list_from_text}
use Rattle.from_text.specs.PlaceLaws.{text_lines, list-numbered}
use Rattle.tagless_image.specs.View.{tagless_view, word_in}
use Rattle.tagless_image.specs.Checking.{tagless_opening, tagless_checks, tagless_checking_of}
use Rattle.tagless_image.specs.Lookup.{tagless_lookup_checks, number_by, tagless_in_group, tagless_lookup_of}
use Rattle.tagless_image.proofs.LookupLaws.{lookup-below}
use Rattle.tagless_opening.specs.Opening.{tagless_opening_of, TaglessOpens}
use Rattle.tagless_opening.specs.OpeningLaws.{opening-answered}
use Rattle.tagless_lookup.proofs.CheckedLaws.{lookup-condition2}
use Rattle.tagless.specs.Building.{tagless_building_checks, tagless_building_of}
use Rattle.tagless.specs.FromText.{tagless_from_text}
use Rattle.tagless_from_text.specs.PlaceLaws.{tagless-text-place, answered-most}
use Rattle.answer64.specs.Answer64.{answer64, found_number}
use Rattle.answer64.proofs.Answer64Laws.{Fits, fits-of, SlotFound, found-fits, found-apart, answers-apart}
use Rattle.opening.specs.PlaceLaws.{image_lines}
use Rattle.calls_tagless.specs.Tagless.{tagless_build_answer, tagless_check_answer, tagless_lookup_answer, TaglessAnswerCondition2}

building-numbered : (tags : List ℕ) (groups limit room : ℕ) → Numbered (tagless_building_of tags groups limit room)
unfolding tagless_building_of tagless_building_checks
building-numbered tags groups limit room = numbered-checks (tagless_building_checks tags groups limit room) _ refl tt

-- Building: every refusal has a number and a place that fits, and a length is small.
pub tagless-build-fits : (text : List ℕ) (room : ℕ) → Fits (tagless_from_text text room)
unfolding tagless_from_text
tagless-build-fits text room =
    fits-of text_lines (tagless_from_text text room) (omega arith) (tagless-text-place text room)
    (numbered-followed (list_from_text text) _ (list-numbered text)
    (λ listed. building-numbered listed.tags listed.groups listed.limit room))
    small
  where
    small : (n : ℕ) → tagless_from_text text room ≡ answered n → n < tag_end
    small n e =
        let (listed, read, told) = answered-of-followed (list_from_text text) _ e in
        omega (arith, answered-most listed.tags listed.groups listed.limit room told)

-- Behind the opening checks, which name no place, N and B are known to be in their ranges.
opened-place : {A : Type 0} (image : List ℕ) (o : Outcome A)
    → (TaglessOpens image (count_in (tagless_view image)) (groups_in (tagless_view image)) → PlaceBelow image_lines o)
    → PlaceBelow image_lines (in_order (tagless_opening (tagless_view image)) o)
unfolding tagless_opening tagless_opening_of
opened-place image o h =
    below-checks image_lines (tagless_opening (tagless_view image)) o
    ((λ _. met-below image_lines _ (omega arith))
    then (λ _. met-below image_lines _ (omega arith))
    then (λ _. met-below image_lines _ (omega arith))
    then tt)
    (λ passes. h (opening-answered image (in_order-pass (tagless_opening (tagless_view image)) _ passes)))

-- The place of a refusal of checking, and of lookup.
pub tagless-check-place : (image : List ℕ) → PlaceBelow image_lines (tagless_checking_of image)
unfolding tagless_checking_of tagless_checks
tagless-check-place image =
    let v = tagless_view image in
    rw (in_order-append {A = ℕ} (tagless_opening v) _ _)
    (opened-place image _ (λ opens.
    below-checks {A = ℕ} image_lines _ _
    ((λ _. first_below image_lines (malformed_in v) _ (omega (arith, opens.groups-legal)))
    then (λ _. first_below image_lines _ (groups_in v) (omega (arith, opens.groups-legal)))
    then tt)
    (λ _. tt)))

group-place : (image : List ℕ) (t : ℕ)
    → (let g = group_of (groups_in (tagless_view image)) t in
    PlaceBelow image_lines (tagless_in_group (tagless_view image) (word_in image g) t g))
unfolding tagless_in_group tagless_lookup_checks group_checks
group-place image t =
    let v = tagless_view image in
    let g = group_of (groups_in v) t in
    rw (in_order-append (tagless_opening v) _ _)
    (opened-place image _ (λ opens.
    let lt = group-below (groups_in v) t opens.groups-some in
    below-checks image_lines (group_checks v g) _
    ((λ _. met_at-below image_lines (suc g) _ (omega (arith, opens.groups-legal)))
    then (λ _. met_at-below image_lines (suc (suc g)) _ (omega (arith, opens.groups-legal)))
    then (λ _. met_at-below image_lines g _ (omega (arith, opens.groups-legal)))
    then tt)
    (λ _. below-cond image_lines (eqb (start_in v g) (end_in v g)) (answered unknown) _ (λ _. tt) (λ _. tt))))

pub tagless-lookup-place : (image : List ℕ) (t : ℕ) → PlaceBelow image_lines (tagless_lookup_of image t)
unfolding tagless_lookup_of
tagless-lookup-place image t =
    below-cond image_lines (eqb t unwired) _ _ (λ _. opened-place image (answered unknown) (λ _. tt)) (λ _. group-place image t)

-- So every outcome of checking and of lookup fits.
pub tagless-check-fits : (image : List ℕ) → Fits (tagless_checking_of image)
unfolding tagless_checking_of tagless_checks tagless_opening
tagless-check-fits image =
    fits-of image_lines (tagless_checking_of image) (omega arith) (tagless-check-place image)
    (numbered-checks (tagless_checks (tagless_view image)) (answered 0) refl tt)
    (λ n e. let told = (in_order-answered (tagless_checks (tagless_view image)) (answered 0) e).1 in let z : 0 ≡ n = cc in omega arith)

lookup-numbered : (image : List ℕ) (t : ℕ) → Numbered (tagless_lookup_of image t)
unfolding tagless_lookup_of tagless_in_group tagless_lookup_checks group_checks tagless_opening
lookup-numbered image t =
    let v = tagless_view image in
    let g = group_of (groups_in v) t in
    numbered-cond (eqb t unwired) _ _ (numbered-checks (tagless_opening v) (answered unknown) refl tt)
    (numbered-checks (tagless_lookup_checks v g) _ refl
    (numbered-cond (eqb (start_in v g) (end_in v g)) (answered unknown) (answered (number (number_by v (word_in image g) g t))) tt tt))

-- A view of bytes has at most 4,096 numbers.
pub count_most : (image : List ℕ) → count_in (tagless_view image) ≤ tags_max
unfolding count_in tagless_view
count_most image = go (image_header (line_at 0 image)) refl
  where
    go : (o : Option (ℕ × ℕ)) → image_header (line_at 0 image) ≡ o → (unwrap_or o (0, 0)).0 ≤ tags_max
    go None e = omega arith
    go (Some (n, b)) e = (image-header-only n b (line_at 0 image) e).1

lookup-slot : (image : List ℕ) (t : ℕ) → SlotFound (tagless_lookup_of image t)
lookup-slot image t = go (tagless_lookup_of image t) refl
  where
    go : (o : Outcome Found) → tagless_lookup_of image t ≡ o → SlotFound o
    go (answered (number j)) e = omega (arith, lookup-below image t j e, count_most image)
    go (answered unknown) e = tt
    go (refused reason place) e = tt

pub tagless-lookup-fits : (image : List ℕ) (t : ℕ) → Fits (answered_by found_number (tagless_lookup_of image t))
tagless-lookup-fits image t =
    found-fits image_lines (tagless_lookup_of image t) (omega arith) (lookup-slot image t) (tagless-lookup-place image t)
    (lookup-numbered image t)

-- Calls with one answer came to one outcome.
pub tagless-build-apart : (text text' : List ℕ) (room room' : ℕ) → tagless_build_answer text room ≡ tagless_build_answer text' room'
    → tagless_from_text text room ≡ tagless_from_text text' room'
unfolding tagless_build_answer
tagless-build-apart text text' room room' = answers-apart _ _ (tagless-build-fits text room) (tagless-build-fits text' room')

pub tagless-check-apart : (image image' : List ℕ) → tagless_check_answer image ≡ tagless_check_answer image'
    → tagless_checking_of image ≡ tagless_checking_of image'
unfolding tagless_check_answer
tagless-check-apart image image' = answers-apart _ _ (tagless-check-fits image) (tagless-check-fits image')

pub tagless-lookup-apart : (image image' : List ℕ) (t t' : ℕ) → tagless_lookup_answer image t ≡ tagless_lookup_answer image' t'
    → tagless_lookup_of image t ≡ tagless_lookup_of image' t'
unfolding tagless_lookup_answer
tagless-lookup-apart image image' t t' e =
    found-apart (tagless_lookup_of image t) (tagless_lookup_of image' t') (lookup-slot image t) (lookup-slot image' t')
    (answers-apart _ _ (tagless-lookup-fits image t) (tagless-lookup-fits image' t') e)

-- What lookup answers is the answer, and meets what is owed.
pub tagless-condition2 : (image : List ℕ) (t : ℕ) {r : ℕ} → r ≡ tagless_lookup_answer image t
    → (r ≡ tagless_lookup_answer image t) × TaglessAnswerCondition2 image t r
unfolding tagless_lookup_answer answer64 answered_by found_number
tagless-condition2 image t {r} e =
    let told = lookup-condition2 image t in (
      e,
      record {
        finds = λ accepted other.
            let (j, found) = told.finds accepted other in
            let is : r ≡ j = e ∙ rw found in
            rw is (told.below accepted j found);
        misses = λ accepted none-there. e ∙ rw ((told.misses accepted).1 none-there);
      },
    )
