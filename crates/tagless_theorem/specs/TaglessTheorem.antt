-- The condition of an index without tags holds of building as it is defined, for every list, group count, seed limit and buffer.
-- Assumes nothing.
use Rattle.std.specs.Prelude.{◌≡◌, refl, Bool, true, List, [], ◌∷◌, ℕ, ◌+◌, ◌*◌, ◌<◌, length, take, drop, Option, None, Some}
use Rattle.std.proofs.Math.Path.{sym}
use Rattle.std.proofs.Common.{◌∙◌, arith, take_at}
use Rattle.std.proofs.Math.Bool.{false}
use borrow.Author.Tests.{ltb-false, le-ltb}
use Rattle.refusal.specs.Limits.{tags_max, groups_max, group_max, limit_max, unwired}
use Rattle.refusal.proofs.LimitsLaws.{outside-not, inside}
use Rattle.refusal.specs.Outcome.{answered, refused}
use Rattle.lists.specs.First.{first}
use Rattle.lists.proofs.FirstLaws.{first_some, first-none, first_found, first_out}
use Rattle.lists.specs.Occurs.{occurs}
use Rattle.lists.proofs.OccursLaws.{occurs-not}
use Rattle.refusal.specs.Checks.{Check, Pass}
use Rattle.refusal.specs.ChecksBefore.{checks_before}
use Rattle.refusal.proofs.ChecksLaws.{◌then◌, met-false, false-of-met, passed, pass-before, pass-append}
use Rattle.group.proofs.AscendingLaws.{ascending-of-check, check-of-ascending, ascending-distinct}
use Rattle.group.proofs.UnwiredLaws.{wired-of-check, check-of-wired, wired-absent}
use Rattle.image.specs.Lookup.{number, unknown}
use Rattle.image.proofs.UnwiredLaws.{by-wired}
use Rattle.hash.specs.Formula.{group_of}
use Rattle.numbering.specs.Members.{members}
use Rattle.numbering.proofs.MembersLaws.{members-own}
use Rattle.numbering.specs.Number.{number_of}
use Rattle.numbering.proofs.NumberLaws.{AllFill, all_placed, number-below, number-apart, number-onto, some-listed}
use Rattle.numbering.specs.Planning.{too_large}
use Rattle.condition3.specs.Condition3.{TagOf}
use Rattle.tagless_group.proofs.WordsLaws.{LeastWordSeed}
use Rattle.tagless_image.specs.Sheet.{tagless_length}
use Rattle.tagless_image.proofs.SheetLaws.{header_at, group_at_lem}
use Rattle.tagless_image.specs.Lookup.{tagless_lookup_of}
use Rattle.tagless_image.proofs.LookupLaws.{lookup-below}
use Rattle.tagless.specs.Number.{tagless_number}
use Rattle.tagless.specs.Building.{wordless, word_check, tagless_building_checks, tagless_building_of, tagless_seed}
use Rattle.tagless.specs.Building.{tagless_word, tagless_sheet_of}
use Rattle.tagless.specs.Building.{tagless_image_of, tagless_after}
use Rattle.tagless.proofs.BuildingLaws.{image-length, taken-least, none-taken, building-refused, building-answered, building-says}
use Rattle.tagless.proofs.BuildingLaws.{building-seven, after-answered}
use Rattle.tagless_condition.specs.Condition.{HasWord, LowestWithoutWord, TaglessEarlierChecks, TaglessAccepted, TaglessCondition}
use Rattle.tagless_theorem.specs.BuiltLaws.{InRange, word_choices, number-by-choices, built-checked, built-unwired, built-empty}
use Rattle.tagless_theorem.specs.BuiltLaws.{built-number, built-count}

module _ (tags : List ℕ) (groups limit : ℕ) where
  -- The lowest group without a word, by the first index that passes the test.
  lowest-of-first : (g : ℕ) → first (wordless groups tags limit) groups ≡ Some g → LowestWithoutWord groups tags limit g
  lowest-of-first g e =
      let at = first_some (wordless groups tags limit) groups e in
      record {
        group = at.below;
        without = none-taken tags groups limit g at.holds;
        lower = λ h lt.
            let has = taken-least tags groups limit h (at.lowest h lt) in
            record {
              seed = tagless_seed groups tags limit h;
              below = has.below;
              word = tagless_word groups tags limit h;
              word_below = has.least.below;
              fills = has.least.fills;
            };
      }

  first-of-lowest : (g : ℕ) → LowestWithoutWord groups tags limit g → first (wordless groups tags limit) groups ≡ Some g
  first-of-lowest g low =
      first_found (wordless groups tags limit) groups g low.group (here (wordless groups tags limit g) refl)
      (λ h lt. there h (low.lower h lt) (wordless groups tags limit h) refl)
    where
      here : (b : Bool) → wordless groups tags limit g ≡ b → wordless groups tags limit g ≡ true
      here true e = e
      here false e =
          let has = taken-least tags groups limit g e in
          absurd (low.without (tagless_seed groups tags limit g) has.below (tagless_word groups tags limit g) has.least.below
          has.least.fills)

      there : (h : ℕ) → HasWord groups tags limit h → (b : Bool) → wordless groups tags limit h ≡ b → wordless groups tags limit h ≡ false
      there h has true e =
          absurd (none-taken tags groups limit h e has.seed has.below has.word has.word_below has.fills)
      there h has false e = e

  none-of-never : ((g : ℕ) → LowestWithoutWord groups tags limit g → ⊥) → first (wordless groups tags limit) groups ≡ None
  none-of-never never = go (first (wordless groups tags limit) groups) refl
    where
      go : (o : Option ℕ) → first (wordless groups tags limit) groups ≡ o → first (wordless groups tags limit) groups ≡ None
      go None e = e
      go (Some g) e = absurd (never g (lowest-of-first g e))

  module _ (room : ℕ) where
    abbrev checks : List Check
    checks = tagless_building_checks tags groups limit room

    -- The checks before 7 pass exactly where the conditions on the inputs and the buffer hold: one line for each, in their order.
    pass-of-earlier : TaglessEarlierChecks tags groups limit room → Pass (checks_before 7 checks)
    unfolding tagless_building_checks tagless_length
    pass-of-earlier h =
        met-false (outside-not 1 groups_max groups h.inputs.groups-legal.0 h.inputs.groups-legal.1)
        then met-false (outside-not 1 limit_max limit h.inputs.limit-legal.0 h.inputs.limit-legal.1)
        then met-false (le-ltb tags_max (length tags) h.inputs.count-legal)
        then check-of-ascending tags h.inputs.ascending
        then check-of-wired tags h.inputs.wired
        then met-false (le-ltb room (11 + 21 * groups) h.fits)
        then first_out (too_large groups tags) groups small
        then tt
      where
        small : (g : ℕ) → g < groups → too_large groups tags g ≡ false
        small g lt = le-ltb group_max (length (members groups g tags)) (h.inputs.groups-small g lt)

    pub earlier-of-pass : Pass (checks_before 7 checks) → TaglessEarlierChecks tags groups limit room
    unfolding tagless_building_checks tagless_length
    earlier-of-pass h =
        let check = passed (checks_before 7 checks) h in
        record {
          inputs = record {
            groups-legal = inside 1 groups_max groups (false-of-met _ (check 8));
            limit-legal = inside 1 limit_max limit (false-of-met _ (check 4));
            count-legal = ltb-false tags_max (length tags) (false-of-met _ (check 5));
            ascending = ascending-of-check tags (check 6);
            wired = wired-of-check tags (check 17);
            groups-small = λ g lt.
                ltb-false group_max (length (members groups g tags)) (first-none (too_large groups tags) groups (check 10) g lt);
          };
          fits = ltb-false room (11 + 21 * groups) (false-of-met _ (check 9));
        }

    -- The checks pass where those before 7 do and 7 does.
    pass_all : Pass (checks_before 7 checks) → first (wordless groups tags limit) groups ≡ None → Pass checks
    unfolding tagless_building_checks
    pass_all front seven = pass-append (checks_before 7 checks) (word_check groups tags limit ∷ []) front (seven, tt)

    pub seven-due : TaglessEarlierChecks tags groups limit room → {g : ℕ} → first (wordless groups tags limit) groups ≡ Some g
        → tagless_building_of tags groups limit room ≡ refused 7 g
    unfolding tagless_building_checks
    seven-due h e = building-refused tags groups limit room 7 (pass-of-earlier h) e

-- An accepted building.
module _ (tags : List ℕ) (groups limit : ℕ) (before : List ℕ) (size : ℕ)
    (e : tagless_building_of tags groups limit (length before) ≡ answered size) where
  abbrev seed : ℕ → ℕ
  seed = tagless_seed groups tags limit

  abbrev word : ℕ → ℕ
  word = tagless_word groups tags limit

  passes : Pass (tagless_building_checks tags groups limit (length before))
  passes = (building-says tags groups limit (length before) e).0

  size_is : tagless_length groups ≡ size
  size_is = (building-says tags groups limit (length before) e).1

  earlier : TaglessEarlierChecks tags groups limit (length before)
  earlier =
      earlier-of-pass tags groups limit (length before)
      (pass-before (tagless_building_checks tags groups limit (length before)) passes 7)

  least : (g : ℕ) → g < groups → LeastWordSeed (members groups g tags) limit (seed g) (word g)
  unfolding tagless_building_checks
  least g lt =
      taken-least tags groups limit g
      (first-none (wordless groups tags limit) groups
      (passed (tagless_building_checks tags groups limit (length before)) passes 7) g lt)

  range : InRange tags groups seed word
  range = record {
    groups-legal = earlier.inputs.groups-legal;
    count-legal = earlier.inputs.count-legal;
    seeds-legal = λ g lt. let below = (least g lt).below in omega (arith, earlier.inputs.limit-legal);
    words-legal = λ g lt. (least g lt).least.below;
    groups-small = earlier.inputs.groups-small;
  }

  fill : AllFill groups tags seed (word_choices groups tags seed word)
  fill = record {
    some-group = earlier.inputs.groups-legal.0;
    differ = ascending-distinct tags earlier.inputs.ascending;
    fills = λ g lt. (least g lt).least.fills;
  }

  -- The buffer's first bytes are the image.
  pub image-written : take size (tagless_after tags groups limit before) ≡ tagless_image_of groups tags limit
  image-written =
      let image = tagless_image_of groups tags limit in
      rw (after-answered tags groups limit before e)
      (take_at image (drop (length image) before) size (image-length groups tags limit ∙ size_is))

  -- The numbers of the listed tags.
  abbrev own : ℕ → ℕ
  own = tagless_number groups tags seed word

  same_number : (t : ℕ) → occurs t tags ≡ true → number_of groups tags seed (word_choices groups tags seed word) t ≡ own t
  same_number = number-by-choices groups tags seed word

  below : (t : ℕ) → occurs t tags ≡ true → own t < length tags
  unfolding number_of
  below t m = rw (← same_number t m) (number-below (all_placed fill) t m)

  once : (j : ℕ) → j < length tags → TagOf tags own j
  unfolding number_of
  once j lt =
      let one = number-onto (all_placed fill) j lt in
      let from = one.from in
      record {
        tag = from;
        listed = one.listed;
        number_is = sym (same_number from one.listed) ∙ one.value;
        only = λ t m same.
            number-apart (all_placed fill) t from m one.listed (same_number t m ∙ same ∙ sym one.value);
      }

  -- A listed tag is not 0, and its group is not empty.
  listed-wired : (t : ℕ) → occurs t tags ≡ true → t ≡ unwired → ⊥
  listed-wired t m zero =
      occurs-not unwired tags (rw zero at m) (wired-absent tags earlier.inputs.ascending earlier.inputs.wired)

  listed-some : (t : ℕ) → occurs t tags ≡ true → length (members groups (group_of groups t) tags) ≡ 0 → ⊥
  listed-some t m empty =
      let own-group = members groups (group_of groups t) tags in
      omega (arith, some-listed own-group t (members-own groups tags t m))

  abbrev image : List ℕ
  image = tagless_image_of groups tags limit

  found : (t : ℕ) → occurs t tags ≡ true → tagless_lookup_of image t ≡ answered (number (own t))
  unfolding tagless_image_of
  found t m = built-number range t (listed-wired t m) (listed-some t m)

  stranger : (t j : ℕ) → tagless_lookup_of image t ≡ answered (number j) → j < length tags
  unfolding tagless_image_of
  stranger t j f = rw (built-count range) at (lookup-below image t j f)

  empty : (t : ℕ) → length (members groups (group_of groups t) tags) ≡ 0 → tagless_lookup_of image t ≡ answered unknown
  unfolding tagless_image_of
  empty t nobody-there = by-wired t (λ zero. rw zero (built-unwired range)) (λ wired. built-empty range t wired nobody-there)

  pub accepted : TaglessAccepted tags groups limit (tagless_after tags groups limit before) size
  unfolding tagless_length tagless_image_of tagless_sheet_of
  accepted = record {
    seed = seed;
    word = word;
    whole = sym size_is;
    header = rw image-written (header_at (tagless_sheet_of groups tags seed word));
    line = λ g lt. rw image-written (group_at_lem (tagless_sheet_of groups tags seed word) g lt);
    seed-below = λ g lt. (least g lt).below;
    word_below = λ g lt. (least g lt).least.below;
    fills = λ g lt. (least g lt).least.fills;
    passed_over = λ g lt. (least g lt).passed;
    least-word = λ g lt. (least g lt).least.lower;
    number-below = below;
    number-once = once;
    listed = λ t in-range m. rw image-written (found t m);
    stranger = λ t in-range j f. stranger t j (rw image-written at f);
    empty = λ t in-range nobody-there. rw image-written (empty t nobody-there);
    nobody = rw image-written (built-unwired range);
    checked = rw image-written (built-checked range);
  }

-- THE CONDITION OF AN INDEX WITHOUT TAGS.
pub tagless-condition : (tags : List ℕ) (groups limit : ℕ) (before : List ℕ)
    → TaglessCondition tags groups limit (length before) (tagless_building_of tags groups limit (length before))
    (tagless_after tags groups limit before)
unfolding tagless_length
tagless-condition tags groups limit before = record {
  accepted = accepted tags groups limit before;
  no_word = λ g e. (lowest-of-first tags groups limit g (building-seven tags groups limit (length before) e)).without;
  refused-7 = λ h g. (
    λ e. lowest-of-first tags groups limit g (building-seven tags groups limit (length before) e),
    λ low. seven-due tags groups limit (length before) h (first-of-lowest tags groups limit g low),
  );
  otherwise = λ h never.
      building-answered tags groups limit (length before)
      (pass_all tags groups limit (length before) (pass-of-earlier tags groups limit (length before) h)
      (none-of-never tags groups limit never));
}
