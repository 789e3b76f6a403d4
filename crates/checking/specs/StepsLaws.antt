-- Each step of checking, by what the lines read as and by what the earlier steps have passed. Assumes nothing.
use Rattle.std.specs.Prelude.{◌≡◌, ◌⊎◌, List, [], ◌∷◌, get_or, set, Option, None, Some, unwrap_or}
use Rattle.std.proofs.Math.Path.{refl, ap}
use Rattle.std.proofs.Common.{sym, ◌∙◌, inl, inr, eq-or-lt_of_le, length-set, get_or-set_same, lt-ltb, le-ltb}
use Rattle.std.proofs.Math.Bool.{false, not}
use Prim.Native.Nat.{ℕ, zero, suc, ◌+◌, ◌-◌, ◌≤◌, ◌<◌}
use native.Mathlib.Omega.{arith}
use Rattle.std.proofs.Math.Decide.{dec_lt}
use Rattle.std.proofs.Math.ListN.{length}
use Rattle.std.proofs.Math.Seq.{get_or-set_other}
use Rattle.refusal.specs.Limits.{seed_max, tags_max, groups_max}
use Rattle.refusal.specs.Outcome.{Outcome, answered, refused}
use Rattle.lists.specs.First.{first, is_some}
use Rattle.lists.proofs.FirstLaws.{first_some, first-none, first_out, first_more, first_cong}
use Rattle.refusal.specs.Checks.{in_order}
use Rattle.refusal.proofs.ChecksLaws.{in_order-append}
use Rattle.text.specs.Line.{line_at, group_line, slot_line}
use Rattle.text.proofs.LineLaws.{group-only}
use Rattle.text.specs.TagLines.{tag_in, no_tag_from, passed, tags_stored}
use Rattle.text.proofs.TagLinesLaws.{tag-slot, line_before, line-at, stored-length, stored-holds}
use Rattle.image.specs.View.{View, view_of, count_in, groups_in, start_in, seed_in, end_in, slot_line_in, slot_in, faulty}
use Rattle.image.specs.Checking.{opening_checks, malformed_in, holds_unwired, misplaced, repeated, number_checks, checking_checks}
use Rattle.image.specs.Checking.{checking_of}
use Rattle.image.proofs.FaultLaws.{fair-of-faulty}
use Rattle.image.specs.SameNumbers.{SameNumbers}
use Rattle.image.proofs.SameNumbersLaws.{same-unwired, same-faulty, same-misplaced, same-repeated}
use Rattle.opening.specs.Opening.{opening_of, Opens}
use Rattle.opening.specs.OpeningLaws.{opening-refused, opening-passes, opening-answered}
use Rattle.slots.specs.Cells.{cells_view, Legal, Regular}
use Rattle.slots.specs.CellsLaws.{cells_count, cells-groups, cells-start, cells-seed, cells-slot, cells-end}
use Rattle.slots.specs.Fault.{fault_of, fault_before}
use Rattle.checking.specs.Steps.{unwired_at, faulty_at, lines_before, Filled, GroupsStored, TagsStored, fault_outcome}

-- One cell more is filled.
pub filled_none : (number : ℕ → ℕ) (from size : ℕ) (cells : List ℕ) → length cells ≡ size → Filled number from from size cells
filled_none number from size cells long = record { long = long; holds = λ i below. absurd (omega arith) }

pub filled-turn : (number : ℕ → ℕ) (from size i x : ℕ) (cells : List ℕ) → i < size → number i ≡ x → Filled number from (from + i) size cells
    → Filled number from (from + (i + 1)) size (set cells i x)
filled-turn number from size i x cells below states filled = record {
  long = length-set cells i x ∙ filled.long;
  holds = λ k lower. go k (eq-or-lt_of_le (omega arith));
}
  where
    go : (k : ℕ) → (k ≡ i) ⊎ (k < i) → get_or (set cells i x) k 0 ≡ number k
    go k (inl same) = rw (same, get_or-set_same cells i x 0 (omega (arith, filled.long)), states)
    go k (inr lower) = get_or-set_other cells i k x 0 (λ same. omega arith) ∙ filled.holds k (omega arith)

-- The lines of an image that opens.
module _ (image : List ℕ) {count groups : ℕ} (opens : Opens image count groups) where
  -- Line 0 is well formed: otherwise the image would have no group.
  header_read : malformed_in (view_of image) 0 ≡ false
  unfolding malformed_in is_some groups_in
  header_read = go (view_of image).header refl
    where
      go : (o : Option (ℕ × ℕ)) → (view_of image).header ≡ o → not (is_some o) ≡ false
      go (Some h) e = refl
      go None e =
          let empty : groups_in (view_of image) ≡ 0 = ap (λ (o : Option (ℕ × ℕ)). (unwrap_or o (0, 0)).1) e in
          absurd (omega (arith, opens.groups-some, opens.groups-is))

  pub lines_start : first (malformed_in (view_of image)) 1 ≡ None
  lines_start = first_out (malformed_in (view_of image)) 1 (λ j lt. let z : j ≡ 0 = omega arith in rw z header_read)

  -- Line k, as a group line and as a slot line.
  pub group-line-tested : (k : ℕ) → 1 ≤ k → k < 1 + groups → (o : Option (ℕ × ℕ)) → group_line (line_at k image) ≡ o
      → malformed_in (view_of image) k ≡ not (is_some o)
  unfolding malformed_in view_of
  group-line-tested zero from below o e = absurd (omega arith)
  group-line-tested (suc k) from below o e =
      let own : k < groups_in (view_of image) = omega (arith, opens.groups-is) in
      rw (lt-ltb k (groups_in (view_of image)) own, e)

  pub slot-line-tested : (k : ℕ) → 1 + groups ≤ k → (o : Option ℕ) → slot_line (line_at k image) ≡ o
      → malformed_in (view_of image) k ≡ not (is_some o)
  unfolding malformed_in view_of
  slot-line-tested zero from o e = absurd (omega arith)
  slot-line-tested (suc k) from o e =
      let past : groups_in (view_of image) ≤ k = omega (arith, opens.groups-is) in
      rw (le-ltb k (groups_in (view_of image)) past, e)

  -- The groups that are stored: none, and one more.
  pub groups_none : (starts seeds : List ℕ) → length starts ≡ groups_max + 1 → length seeds ≡ groups_max
      → GroupsStored (view_of image) count groups 1 (set starts groups count) seeds
  groups_none starts seeds long long' = record {
    start = filled_none (start_in (view_of image)) 1 (groups_max + 1) (set starts groups count) (length-set starts groups count ∙ long);
    seed = filled_none (seed_in (view_of image)) 1 groups_max seeds long';
    end = get_or-set_same starts groups count 0 (omega (arith, opens.groups-legal));
  }

  pub groups-turn : (g start seed : ℕ) (starts seeds : List ℕ) → g < groups → group_line (line_at (1 + g) image) ≡ Some (start, seed)
      → GroupsStored (view_of image) count groups (1 + g) starts seeds
      → GroupsStored (view_of image) count groups (1 + (g + 1)) (set starts g start) (set seeds g seed)
  unfolding start_in seed_in view_of
  groups-turn g start seed starts seeds below reads stored =
      let legal = opens.groups-legal in
      let line : suc g ≡ 1 + g = omega arith in
      let v = view_of image in
      record {
        start = filled-turn (start_in v) 1 (groups_max + 1) g start starts (omega arith) (rw (start_in, line, reads)) stored.start;
        seed = filled-turn (seed_in v) 1 groups_max g seed seeds (omega arith) (rw (seed_in, line, reads)) stored.seed;
        end = get_or-set_other starts g groups start 0 (λ same. omega arith) ∙ stored.end;
      }

  -- Behind the group lines the first line that is no tag's is the first malformed one,
  pub slot-lines : first (malformed_in (view_of image)) (1 + groups) ≡ None
      → first (no_tag_from (1 + groups) image) (1 + groups + count) ≡ first (malformed_in (view_of image)) (1 + groups + count)
  slot-lines before =
      first_cong (no_tag_from (1 + groups) image) (malformed_in (view_of image)) (1 + groups + count)
      (λ k lt. line k (dec_lt k (1 + groups)))
    where
      line : (k : ℕ) → Dec (k < 1 + groups) → no_tag_from (1 + groups) image k ≡ malformed_in (view_of image) k
      line k (yes lt) =
          line_before (1 + groups) image k lt ∙ sym (first-none (malformed_in (view_of image)) (1 + groups) before k lt)
      line k (no ge) =
          line-at (1 + groups) image k (omega (arith, ge))
          ∙ sym (slot-line-tested k (omega (arith, ge)) (tag_in (line_at k image)) (sym (tag-slot (line_at k image))))

  -- and the tags of the lines before it are those of their slots.
  pub slots-stored : (before : List ℕ) {o : Option ℕ} → length before ≡ tags_max
      → o ≡ first (no_tag_from (1 + groups) image) (1 + groups + count)
      → TagsStored (view_of image) groups (lines_before o (1 + groups + count))
      (tags_stored (passed o (1 + groups) (1 + groups + count)) (1 + groups) image before)
  unfolding slot_in slot_line_in view_of
  slots-stored before {o} long found =
      let lines = lines_before o (1 + groups + count) in
      let few : lines ≤ 1 + groups + count = within o found in
      let fits : lines - (1 + groups) ≤ length before = omega (arith, opens.count-legal) in
      record {
        long = stored-length (1 + groups) image before (lines - (1 + groups)) ∙ long;
        holds = λ j lt.
            stored-holds (1 + groups) image before (lines - (1 + groups)) fits j (omega arith)
            ∙ rw (opens.groups-is, tag-slot (line_at (1 + groups + j) image));
      }
    where
      within : (o : Option ℕ) → o ≡ first (no_tag_from (1 + groups) image) (1 + groups + count)
          → lines_before o (1 + groups + count) ≤ 1 + groups + count
      within None e = omega arith
      within (Some k) e = omega (arith, (first_some (no_tag_from (1 + groups) image) (1 + groups + count) (sym e)).below)

  -- A seed is in its range.
  seed-legal : (g : ℕ) → seed_in (view_of image) g ≤ seed_max
  unfolding seed_in view_of
  seed-legal g = go (group_line (line_at (suc g) image)) refl
    where
      go : (o : Option (ℕ × ℕ)) → group_line (line_at (suc g) image) ≡ o → (unwrap_or o (0, 0)).1 ≤ seed_max
      go None e = omega arith
      go (Some (start, seed)) e = (group-only start seed (line_at (suc g) image) e).2

  -- Where every line is read, the cells hold the image's numbers, and these are in their ranges.
  module _ {starts seeds : List ℕ} (stored : GroupsStored (view_of image) count groups (1 + groups) starts seeds) where
    pub cells_same : {tags : List ℕ} → TagsStored (view_of image) groups (1 + groups + count) tags
        → SameNumbers (view_of image) (cells_view starts seeds tags groups)
    cells_same {tags} slots =
        let group-is = opens.groups-is in
        let count-is = opens.count-is in
        record {
          count = count-is ∙ sym stored.end ∙ sym (cells_count starts seeds tags groups);
          groups = group-is ∙ sym (cells-groups starts seeds tags groups);
          some-group = omega (arith, opens.groups-some);
          starts = λ g below. sym (stored.start.holds g (omega arith)) ∙ sym (cells-start starts seeds tags groups g);
          seeds = λ g below. sym (stored.seed.holds g (omega arith)) ∙ sym (cells-seed starts seeds tags groups g);
          slots = λ j below. sym (slots.holds j (omega arith)) ∙ sym (cells-slot starts seeds tags groups j);
        }

    pub cells-legal : Legal starts seeds groups
    cells-legal = record {
      groups-some = opens.groups-some;
      groups-legal = opens.groups-legal;
      count-legal = omega (arith, stored.end, opens.count-legal);
      seeds-legal = λ g below. omega (arith, stored.seed.holds g (omega arith), seed-legal g);
    }

-- A refusal is not an answer.
pub not-both : {o : Outcome ℕ} {number place a : ℕ} → o ≡ refused number place → o ≡ answered a → ⊥
not-both e f = absurd (let z : ◌≡◌ {A = ℕ} 0 1 = cc in omega arith)

-- No group is faulty.
pub regular-of : (starts seeds : List ℕ) (groups : ℕ) → Legal starts seeds groups → first (faulty_at starts) groups ≡ None
    → Regular starts seeds groups
regular-of starts seeds groups legal e = record {
  legal = legal;
  fair = λ g below. fair-of-faulty g (get_or starts g 0) (get_or starts (g + 1) 0) (first-none (faulty_at starts) groups e g below);
}

-- The checks of the numbers, over cells.
module _ (starts seeds tags : List ℕ) (groups : ℕ) where
  abbrev cells : View
  cells = cells_view starts seeds tags groups

  unwired-cells : first (holds_unwired cells) (count_in cells) ≡ first (unwired_at tags) (get_or starts groups 0)
  unfolding holds_unwired
  unwired-cells =
      ap (first (holds_unwired cells)) (cells_count starts seeds tags groups)
      ∙ first_cong _ _ (get_or starts groups 0) (λ j below. rw (cells-slot starts seeds tags groups j))

  faulty-cells : first (λ g. faulty g (start_in cells g) (end_in cells g)) (groups_in cells) ≡ first (faulty_at starts) groups
  faulty-cells =
      ap (first (λ g. faulty g (start_in cells g) (end_in cells g))) (cells-groups starts seeds tags groups)
      ∙ first_cong _ _ groups (λ g below. rw (cells-start starts seeds tags groups g, cells-end starts seeds tags groups g below))

  -- The lowest slot that holds 0 decides,
  pub numbers-unwired : {j : ℕ} → first (unwired_at tags) (get_or starts groups 0) ≡ Some j
      → in_order {A = ℕ} (number_checks cells) (answered 0) ≡ refused 17 j
  unfolding number_checks in_order
  numbers-unwired e = rw (unwired-cells, e)

  -- and where none does, the lowest faulty group, and then the fault of the slots.
  module _ (wired : first (unwired_at tags) (get_or starts groups 0) ≡ None) where
    pub numbers-faulty : {g : ℕ} → first (faulty_at starts) groups ≡ Some g
        → in_order {A = ℕ} (number_checks cells) (answered 0) ≡ refused 13 g
    unfolding number_checks in_order
    numbers-faulty e = rw (unwired-cells, wired, faulty-cells, e)

    pub numbers-slots : first (faulty_at starts) groups ≡ None
        → in_order (number_checks cells) (answered 0) ≡ fault_outcome (fault_before cells (get_or starts groups 0))
    unfolding number_checks in_order fault_before
    numbers-slots e =
        rw (unwired-cells, wired, faulty-cells, e, cells_count starts seeds tags groups)
        (go (first (misplaced cells) (get_or starts groups 0)) (first (repeated cells) (get_or starts groups 0)))
      where
        go : (o p : Option ℕ) → in_order ((14, o) ∷ (15, p) ∷ []) (answered 0) ≡ fault_outcome (fault_of o p)
        go (Some j) p = refl
        go None (Some j) = refl
        go None None = refl

-- Views that state the same numbers are checked alike.
same_numbers : (v w : View) → SameNumbers v w → in_order {A = ℕ} (number_checks v) (answered 0) ≡ in_order (number_checks w) (answered 0)
unfolding number_checks
same_numbers v w same = rw (same-unwired v w same, same-faulty v w same, same-misplaced v w same, same-repeated v w same)

-- An image that does not open is refused so.
pub check-unopened : (image : List ℕ) {number place : ℕ} → opening_of image ≡ refused number place
    → checking_of image ≡ refused number place
unfolding checking_of checking_checks
check-unopened image e = in_order-append (opening_checks (view_of image)) _ _ ∙ opening-refused image e _

-- In one that opens, a malformed line decides, and where there is none, the numbers in the cells do.
module _ (image : List ℕ) {count groups : ℕ} (opened : opening_of image ≡ answered (count, groups)) where
  opens : Opens image count groups
  opens = opening-answered image opened

  pub check-line : {k : ℕ} → first (malformed_in (view_of image)) (1 + groups + count) ≡ Some k → checking_of image ≡ refused 12 k
  unfolding checking_of checking_checks in_order
  check-line e =
      in_order-append (opening_checks (view_of image)) _ _ ∙ opening-passes image opened _ ∙ rw (opens.groups-is, opens.count-is, e)

  pub check-group-line : {k : ℕ} → first (malformed_in (view_of image)) (1 + groups) ≡ Some k → checking_of image ≡ refused 12 k
  check-group-line e = check-line (first_more (malformed_in (view_of image)) (1 + groups) (1 + groups + count) (omega arith) e)

  lines-passed : first (malformed_in (view_of image)) (1 + groups + count) ≡ None
      → checking_of image ≡ in_order (number_checks (view_of image)) (answered 0)
  unfolding checking_of checking_checks in_order
  lines-passed e =
      in_order-append (opening_checks (view_of image)) _ _ ∙ opening-passes image opened _ ∙ rw (opens.groups-is, opens.count-is, e)

  pub check-numbers : (w : View) → first (malformed_in (view_of image)) (1 + groups + count) ≡ None → SameNumbers (view_of image) w
      → checking_of image ≡ in_order (number_checks w) (answered 0)
  check-numbers w lines same = lines-passed lines ∙ same_numbers (view_of image) w same
