-- Each step of checking an index without tags, by what the lines read as and by what the earlier steps have passed. Assumes nothing.
use Rattle.std.specs.Prelude.{◌≡◌, Bool, true, List, ltb, length, get_or, set, Option, None, Some, unwrap_or}
use Rattle.std.proofs.Math.Path.{refl, ap}
use Rattle.std.proofs.Common.{sym, ◌∙◌, add-one, length-set, get_or-set_same}
use Rattle.std.proofs.Math.Bool.{false, not}
use Prim.Native.Nat.{ℕ, suc, ◌+◌, ◌<◌}
use native.Mathlib.Omega.{arith}
use Rattle.std.proofs.Math.Seq.{get_or-set_other}
use borrow.Author.Tests.{lt-ltb, ltb-true, ltb-false}
use Rattle.refusal.specs.Limits.{groups_max}
use Rattle.refusal.specs.Outcome.{answered, refused}
use Rattle.lists.specs.First.{first, is_some}
use Rattle.lists.proofs.FirstLaws.{first_out, first_cong}
use Rattle.refusal.specs.Checks.{in_order}
use Rattle.refusal.proofs.ChecksLaws.{in_order-append}
use Rattle.image.specs.View.{View, groups_in, start_in, end_in, faulty}
use Rattle.image.specs.Checking.{malformed_in}
use Rattle.image.proofs.FaultLaws.{end-next, end-last}
use Rattle.checking.specs.Steps.{faulty_at}
use Rattle.checking.specs.StepsLaws.{filled_none, filled-turn}
use Rattle.tagless_image.specs.View.{tagless_view}
use Rattle.tagless_image.specs.Checking.{tagless_opening, tagless_checks, tagless_checking_of}
use Rattle.tagless_opening.specs.Opening.{tagless_opening_of, TaglessOpens}
use Rattle.tagless_opening.specs.OpeningLaws.{opening-refused, opening-passes, opening-answered}
use Rattle.tagless_checking.specs.Steps.{StartsStored}

-- The lines of an image that opens.
module _ (image : List ℕ) {count groups : ℕ} (opens : TaglessOpens image count groups) where
  -- Line 0 is well formed: otherwise the image would have no group.
  header_read : malformed_in (tagless_view image) 0 ≡ false
  unfolding malformed_in is_some groups_in
  header_read = go (tagless_view image).header refl
    where
      go : (o : Option (ℕ × ℕ)) → (tagless_view image).header ≡ o → not (is_some o) ≡ false
      go (Some h) e = refl
      go None e =
          let empty : groups_in (tagless_view image) ≡ 0 = ap (λ (o : Option (ℕ × ℕ)). (unwrap_or o (0, 0)).1) e in
          absurd (omega (arith, opens.groups-some, opens.groups-is))

  pub lines_start : first (malformed_in (tagless_view image)) 1 ≡ None
  lines_start = first_out (malformed_in (tagless_view image)) 1 (λ j lt. let z : j ≡ 0 = omega arith in rw z header_read)

  -- The line of group g, by what it reads as.
  pub line-tested : (g : ℕ) → g < groups → {o : Option (ℕ × ℕ)} → (tagless_view image).group_at (suc g) ≡ o
      → malformed_in (tagless_view image) (1 + g) ≡ not (is_some o)
  unfolding malformed_in
  line-tested g below e =
      let own : g < groups_in (tagless_view image) = omega (arith, opens.groups-is) in
      let line : 1 + g ≡ suc g = omega arith in
      rw (line, lt-ltb g (groups_in (tagless_view image)) own, e)

  -- The starts that are stored: none, and one more.
  pub starts_none : (starts : List ℕ) → length starts ≡ groups_max + 1
      → StartsStored (tagless_view image) count groups 1 (set starts groups count)
  starts_none starts long = record {
    start = filled_none (start_in (tagless_view image)) 1 (groups_max + 1) (set starts groups count)
        (length-set starts groups count ∙ long);
    end = get_or-set_same starts groups count 0 (omega (arith, opens.groups-legal));
  }

  pub starts-turn : (g : ℕ) {start seed : ℕ} (starts : List ℕ) → g < groups → (tagless_view image).group_at (suc g) ≡ Some (start, seed)
      → StartsStored (tagless_view image) count groups (1 + g) starts
      → StartsStored (tagless_view image) count groups (1 + (g + 1)) (set starts g start)
  unfolding start_in
  starts-turn g {start} starts below reads stored =
      let legal = opens.groups-legal in
      record {
        start = filled-turn (start_in (tagless_view image)) 1 (groups_max + 1) g start starts (omega arith) own stored.start;
        end = get_or-set_other starts g groups start 0 (λ same. omega arith) ∙ stored.end;
      }
    where
      own : start_in (tagless_view image) g ≡ start
      own = ap (λ (o : Option (ℕ × ℕ)). (unwrap_or o (0, 0)).0) reads

  -- Where every line is read, the cells decide which group is faulty.
  pub faulty-cells : {starts : List ℕ} → StartsStored (tagless_view image) count groups (1 + groups) starts
      → first (faulty_at starts) groups
      ≡ first (λ g. faulty g (start_in (tagless_view image) g) (end_in (tagless_view image) g)) (groups_in (tagless_view image))
  faulty-cells {starts} stored =
      rw opens.groups-is
      (first_cong (faulty_at starts) (λ g. faulty g (start_in v g) (end_in v g)) groups
      (λ g below. rw (stored.start.holds g (omega arith), add-one, next g below (ltb (suc g) groups) refl)))
    where
      v : View
      v = tagless_view image

      next : (g : ℕ) → g < groups → (b : Bool) → ltb (suc g) groups ≡ b → get_or starts (suc g) 0 ≡ end_in v g
      next g below true e =
          let lt = ltb-true (suc g) groups e in
          stored.start.holds (suc g) (omega arith) ∙ sym (end-next v g (rw opens.groups-is lt))
      next g below false e =
          let last : suc g ≡ groups = omega (arith, ltb-false (suc g) groups e) in
          ap (λ (k : ℕ). get_or starts k 0) last
          ∙ stored.end
          ∙ sym opens.count-is
          ∙ sym (end-last v g (omega (arith, opens.groups-is)))

module _ (image : List ℕ) where
  -- An image that does not open.
  pub check-unopened : {number place : ℕ} → tagless_opening_of image ≡ refused number place
      → tagless_checking_of image ≡ refused number place
  unfolding tagless_checking_of tagless_checks
  check-unopened e = in_order-append (tagless_opening (tagless_view image)) _ _ ∙ opening-refused image e _

  -- One that opens: a malformed line, a faulty group, or accepted.
  module _ {count groups : ℕ} (opened : tagless_opening_of image ≡ answered (count, groups)) where
    opens : TaglessOpens image count groups
    opens = opening-answered image opened

    pub check-line : {k : ℕ} → first (malformed_in (tagless_view image)) (1 + groups) ≡ Some k → tagless_checking_of image ≡ refused 12 k
    unfolding tagless_checking_of tagless_checks in_order
    check-line e =
        in_order-append (tagless_opening (tagless_view image)) _ _
        ∙ opening-passes image opened _
        ∙ rw (opens.groups-is, e)

    module _ (lines : first (malformed_in (tagless_view image)) (1 + groups) ≡ None) {starts : List ℕ}
        (stored : StartsStored (tagless_view image) count groups (1 + groups) starts) where
      behind : {o : Option ℕ} → first (faulty_at starts) groups ≡ o
          → first (λ g. faulty g (start_in (tagless_view image) g) (end_in (tagless_view image) g)) (groups_in (tagless_view image)) ≡ o
      behind e = sym (faulty-cells image opens stored) ∙ e

      pub check-faulty : {g : ℕ} → first (faulty_at starts) groups ≡ Some g → tagless_checking_of image ≡ refused 13 g
      unfolding tagless_checking_of tagless_checks in_order
      check-faulty e =
          in_order-append (tagless_opening (tagless_view image)) _ _
          ∙ opening-passes image opened _
          ∙ rw (behind e, opens.groups-is, lines)

      pub check-accepted : first (faulty_at starts) groups ≡ None → tagless_checking_of image ≡ answered 0
      unfolding tagless_checking_of tagless_checks in_order
      check-accepted e =
          in_order-append (tagless_opening (tagless_view image)) _ _
          ∙ opening-passes image opened _
          ∙ rw (behind e, opens.groups-is, lines)
