-- What the arrays hold once the tags are ordered, and the seeds and words found. Assumes nothing.
use Rattle.std.specs.Prelude.{◌≡◌, List, ◌++◌, ℕ, ◌≤◌, ◌<◌, length, get_or, drop, None}
use Rattle.std.proofs.Math.Path.{refl}
use Rattle.std.proofs.Common.{◌∙◌, arith, length-append, length-drop}
use Rattle.std.proofs.Math.ListN.{get_or-append}
use borrow.Author.Tests.{ltb-false}
use Rattle.refusal.specs.Limits.{tags_max, groups_max}
use Rattle.refusal.proofs.LimitsLaws.{inside}
use Rattle.refusal.specs.Outcome.{answered}
use Rattle.refusal.specs.Checks.{Check, Pass}
use Rattle.refusal.specs.ChecksBefore.{checks_before}
use Rattle.refusal.proofs.ChecksLaws.{false-of-met, passed, passed_on}
use Rattle.lists.specs.First.{first}
use Rattle.lists.proofs.FirstLaws.{first_cong}
use Rattle.lists.specs.UpTo.{up_to}
use Rattle.lists.proofs.UpToLaws.{up_to-length, up_to-at}
use Rattle.numbering.specs.Planning.{too_large}
use Rattle.tagless_image.specs.Sheet.{tagless_bytes, tagless_length}
use Rattle.tagless_image.proofs.SheetLaws.{bytes-agree}
use Rattle.tagless.specs.Building.{wordless, tagless_building_checks, tagless_building_of, tagless_seed, tagless_word, tagless_sheet_of}
use Rattle.tagless.specs.Building.{tagless_image_of}
use Rattle.tagless.proofs.BuildingLaws.{image-length, building-answered}
use Rattle.tagless_condition.specs.Condition.{TaglessEarlierChecks}
use Rattle.tagless_theorem.specs.TaglessTheorem.{earlier-of-pass}
use Rattle.tagless_plan.specs.Words.{unworded, part_seed, part_word, stored_up_to, Searchable}
use Rattle.tagless_write.specs.Stated.{stated_sheet, Writable}
use Rattle.tagless_building.specs.Arrays.{Admitted, Orderly}

-- What the checks before 10 say of the arguments, each by its number.
module _ {tags : List ℕ} {groups limit room : ℕ} (a : Admitted tags groups limit room) where
  abbrev checks : ℕ → List Check
  checks number = checks_before number (tagless_building_checks tags groups limit room)

  pub admitted-groups : (1 ≤ groups) × (groups ≤ groups_max)
  unfolding tagless_building_checks
  admitted-groups = inside 1 groups_max groups (false-of-met _ (passed (checks 10) a.passes 8))

  pub admitted-count : length tags ≤ tags_max
  unfolding tagless_building_checks
  admitted-count = ltb-false tags_max (length tags) (false-of-met _ (passed (checks 10) a.passes 5))

  -- With 10 all checks before 7 pass.
  pub passed-10 : first (too_large groups tags) groups ≡ None → Pass (checks 7)
  unfolding tagless_building_checks
  passed-10 small = passed_on (tagless_building_checks tags groups limit room) 10 7 refl a.passes small

-- A number that is stored for each group below `found`.
stored_at : (number : ℕ → ℕ) (found : ℕ) (before : List ℕ) (g : ℕ) → g < found → get_or (stored_up_to number found before) g 0 ≡ number g
unfolding stored_up_to
stored_at number found before g lt =
    let counted = up_to-length found number in
    get_or-append (up_to found number) (drop found before) 0 g (omega arith) ∙ up_to-at found number 0 g lt

stored-length : (number : ℕ → ℕ) (found : ℕ) (before : List ℕ) → found ≤ length before
    → length (stored_up_to number found before) ≡ length before
unfolding stored_up_to
stored-length number found before fits =
    omega (arith, length-append (up_to found number) (drop found before), up_to-length found number, length-drop found before)

module _ {tags : List ℕ} {groups limit : ℕ} {ordered ends : List ℕ} {room : ℕ} (o : Orderly tags groups limit ordered ends room) where
  -- The conditions on the inputs and the buffer hold.
  pub earlier : TaglessEarlierChecks tags groups limit room
  earlier = earlier-of-pass tags groups limit room o.passes

  -- What the search for the seeds and words needs.
  pub searchable : Searchable groups ordered ends limit
  searchable = record {
    parts = o.sorted.parts;
    limit-legal = earlier.inputs.limit-legal.1;
    few = λ g lt. rw (o.sorted.part g lt) (earlier.inputs.groups-small g lt);
  }

  -- The lowest part without a word is the lowest group without one.
  pub wordless-first : first (unworded ordered ends limit) groups ≡ first (wordless groups tags limit) groups
  unfolding unworded
  wordless-first = first_cong (unworded ordered ends limit) (wordless groups tags limit) groups (λ g lt. rw (o.sorted.part g lt))

  -- The cells once the seeds and words of all groups are found;
  module _ (before : List ℕ) (cells : length before ≡ groups_max) where
    abbrev seeds : List ℕ
    seeds = stored_up_to (part_seed ordered ends limit) groups before

    abbrev words : List ℕ
    words = stored_up_to (part_word ordered ends limit) groups before

    pub seeds-long : length seeds ≡ groups_max
    seeds-long = stored-length (part_seed ordered ends limit) groups before (omega (arith, earlier.inputs.groups-legal)) ∙ cells

    pub words_long : length words ≡ groups_max
    words_long = stored-length (part_word ordered ends limit) groups before (omega (arith, earlier.inputs.groups-legal)) ∙ cells

    pub writable : Writable ends seeds words groups (length tags) room
    unfolding tagless_length
    writable = record {
      ends-known = o.sorted.parts.known;
      seeds-known = omega (arith, seeds-long, earlier.inputs.groups-legal);
      words-known = omega (arith, words_long, earlier.inputs.groups-legal);
      few-groups = earlier.inputs.groups-legal.1;
      few-tags = earlier.inputs.count-legal;
      ends-small = λ g lt. omega (arith, o.sorted.parts.inside g lt, o.few-cells);
      room-enough = earlier.fits;
    }

    -- and the lines that they state are the image.
    written-image : tagless_bytes (stated_sheet ends seeds words groups (length tags)) ≡ tagless_image_of groups tags limit
    unfolding tagless_image_of stated_sheet tagless_sheet_of tagless_seed tagless_word part_seed part_word
    written-image =
        bytes-agree (stated_sheet ends seeds words groups (length tags))
        (tagless_sheet_of groups tags (tagless_seed groups tags limit) (tagless_word groups tags limit))
        (record {
          count = refl;
          groups = refl;
          start = λ g lt. o.sorted.start g (omega arith);
          seed = λ g lt. stored_at (part_seed ordered ends limit) groups before g lt ∙ rw (part_seed, tagless_seed, o.sorted.part g lt);
          word = λ g lt. stored_at (part_word ordered ends limit) groups before g lt ∙ rw (part_word, tagless_word, o.sorted.part g lt);
        })

    pub written-bytes : (buffer : List ℕ)
        → tagless_bytes (stated_sheet ends seeds words groups (length tags)) ++ drop (tagless_length groups) buffer
        ≡ tagless_image_of groups tags limit ++ drop (length (tagless_image_of groups tags limit)) buffer
    written-bytes buffer = rw (written-image, image-length groups tags limit)

  -- Where every group has a word the answer is the length.
  pub size-answered : first (wordless groups tags limit) groups ≡ None
      → tagless_building_of tags groups limit room ≡ answered (tagless_length groups)
  unfolding tagless_building_checks
  size-answered every =
      building-answered tags groups limit room
      (passed_on (tagless_building_checks tags groups limit room) 7 0 refl o.passes every)
