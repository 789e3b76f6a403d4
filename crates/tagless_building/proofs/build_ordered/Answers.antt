-- `tagless_building::build_ordered` meets its contract: where every group has a seed with a word, what is written is the image.
-- Assumes nothing.
use mathlib.Core.Path.{◌≡◌, refl, sym, ◌∙◌, ap, ap₂, subst⁻¹}
use mathlib.Core.List.{List, ◌++◌}
use Prim.Native.Nat.{ℕ}
use lib.ListN.{length, drop, replicate}
use Rattle.refusal.specs.Reason.{refusal_of}
use Rattle.refusal.specs.Limits.{groups_max}
use Rattle.refusal.specs.Outcome.{answered}
use Rattle.tagless_image.specs.Sheet.{tagless_bytes, tagless_length}
use Rattle.tagless.specs.Building.{tagless_building_checks}
use Rattle.tagless.proofs.BuildingLaws.{building-refused, after-refused, after-answered}
use Rattle.tagless_plan.specs.Words.{part_seed, part_word, stored_up_to}
use Rattle.tagless_write.specs.Stated.{stated_sheet, Writable}
use Rattle.tagless_building.specs.ArraysLaws.{earlier, searchable, wordless-first, seeds-long, words_long, writable, written-bytes}
use Rattle.tagless_building.specs.Arrays.{Orderly}
use Rattle.tagless_building.specs.ArraysLaws.{size-answered}
use Rattle.tagless_building.proofs.build_ordered.Goals as goal

module _ {tags : List ℕ} {groups limit : ℕ} {ordered ends : List ℕ} {room : ℕ} (orderly : Orderly tags groups limit ordered ends room) where
  abbrev zeros : List ℕ
  zeros = replicate groups_max 0

  -- Arrays with the seeds and the words of all groups state an image.
  able : {seeds words : List ℕ} → seeds ≡ stored_up_to (part_seed ordered ends limit) groups zeros
      → words ≡ stored_up_to (part_word ordered ends limit) groups zeros → Writable ends seeds words groups (length tags) room
  able {seeds} {words} seeds-are words_are =
      subst⁻¹ (λ (l : List ℕ). Writable ends l words groups (length tags) room) seeds-are
      (subst⁻¹ (λ (l : List ℕ). Writable ends (stored_up_to (part_seed ordered ends limit) groups zeros) l groups (length tags) room)
      words_are (writable orderly zeros refl))

pub word_groups-requires : goal.word_groups-requires
word_groups-requires c = record {
  searchable = (searchable c.requires, (earlier c.requires).inputs.groups-legal.1);
  seeds_len = (refl, refl);
}

pub returns-in-Some : goal.returns-in-Some
unfolding tagless_building_checks
returns-in-Some c =
    let a = c.args in
    let lowest = sym (wordless-first c.requires) ∙ sym c.word_groups.ensures.answer ∙ c.in-Some.is in
    let outcome = building-refused a.tags.now a.groups a.limit (length a.buffer.now) 7 c.requires.passes lowest in
    record {
      answer = ap refusal_of c.at.ensures.answer ∙ sym outcome;
      bytes = sym (after-refused a.tags.now a.groups a.limit a.buffer.now outcome);
    }

pub slice_bounds-write_lines-end : goal.slice_bounds-write_lines-end
slice_bounds-write_lines-end c =
    let seeds-are = rw c.in_default.is at c.word_groups.ensures.seeds in
    sym (ap length seeds-are ∙ seeds-long c.requires (zeros c.requires) refl)

pub slice_bounds-write_lines-end-2 : goal.slice_bounds-write_lines-end-2
slice_bounds-write_lines-end-2 c =
    let words_are = rw c.in_default.is at c.word_groups.ensures.words in
    sym (ap length words_are ∙ words_long c.requires (zeros c.requires) refl)

pub write_lines-requires : goal.write_lines-requires
write_lines-requires c =
    let seeds-are = rw c.in_default.is at c.word_groups.ensures.seeds in
    let words_are = rw c.in_default.is at c.word_groups.ensures.words in
    able c.requires seeds-are words_are

pub image_length-requires : goal.image_length-requires
image_length-requires c = (earlier c.requires).inputs.groups-legal.1

pub returns : goal.returns
returns c =
    let a = c.args in
    let seeds-are = rw c.in_default.is at c.word_groups.ensures.seeds in
    let words_are = rw c.in_default.is at c.word_groups.ensures.words in
    let every = sym (wordless-first c.requires) ∙ sym c.word_groups.ensures.answer ∙ c.in_default.is in
    let outcome = size-answered c.requires every in
    let stated =
    ap₂ (λ (l m : List ℕ). tagless_bytes (stated_sheet a.ends.now l m a.groups (length a.tags.now))
    ++ drop (tagless_length a.groups) a.buffer.now) seeds-are words_are in
    record {
      answer = ap answered c.image_length.ensures.answer ∙ sym outcome;
      bytes = c.write_lines.ensures.bytes
          ∙ stated
          ∙ written-bytes c.requires (zeros c.requires) refl a.buffer.now
          ∙ sym (after-answered a.tags.now a.groups a.limit a.buffer.now outcome);
    }
