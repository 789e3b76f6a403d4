-- Building an index without tags, in one call. Document 02, §5. Assumes nothing.
use Rattle.std.specs.Prelude.{ℕ, Bool, not, List, [], ◌∷◌, ltb, length, unwrap_or}
use Rattle.refusal.specs.Outcome.{Outcome, answered}
use Rattle.lists.specs.First.{first, is_some}
use Rattle.refusal.specs.Checks.{Check, met, in_order}
use Rattle.group.specs.Ascending.{limit_check, ascending_check}
use Rattle.group.specs.Unwired.{unwired_check}
use Rattle.numbering.specs.Members.{members, start_of}
use Rattle.numbering.specs.Planning.{groups_check, count_check, size_check}
use Rattle.numbering.specs.Writing.{written}
use Rattle.tagless_group.specs.Words.{worded_seed}
use Rattle.tagless_image.specs.Sheet.{TaglessSheet, tagless_bytes, tagless_length}

-- "9: buffer shorter than the image." The buffer has `room` bytes.
abbrev pub tagless_room_check : ℕ → ℕ → Check
tagless_room_check groups room = (9, met (ltb room (tagless_length groups)))

-- "7: at the lowest group without a seed": one for which no seed below the limit has a word.
abbrev pub wordless : ℕ → List ℕ → ℕ → ℕ → Bool
wordless groups tags limit g = not (is_some (worded_seed (members groups g tags) limit))

abbrev pub word_check : ℕ → List ℕ → ℕ → Check
word_check groups tags limit = (7, first (wordless groups tags limit) groups)

-- "Refusals 4 to 13 and 17 keep their sense and order for the new lines, built in one call with 9 before 10 and 7 as in document 01".
unfoldable pub tagless_building_checks : List ℕ → ℕ → ℕ → ℕ → List Check
tagless_building_checks tags groups limit room =
    groups_check groups
    ∷ limit_check limit
    ∷ count_check tags
    ∷ ascending_check tags
    ∷ unwired_check tags
    ∷ tagless_room_check groups room
    ∷ size_check groups tags
    ∷ word_check groups tags limit
    ∷ []

-- "Otherwise the image stands at the buffer's beginning and the answer is its length."
unfoldable pub tagless_building_of : List ℕ → ℕ → ℕ → ℕ → Outcome ℕ
tagless_building_of tags groups limit room = in_order (tagless_building_checks tags groups limit room) (answered (tagless_length groups))

-- The seed and the word taken for group g: "the least seed, then the numerically least word. An empty group has 0 and 0."
unfoldable pub tagless_seed : ℕ → List ℕ → ℕ → ℕ → ℕ
tagless_seed groups tags limit g = (unwrap_or (worded_seed (members groups g tags) limit) (0, 0)).0

unfoldable pub tagless_word : ℕ → List ℕ → ℕ → ℕ → ℕ
tagless_word groups tags limit g = (unwrap_or (worded_seed (members groups g tags) limit) (0, 0)).1

-- The numbers that the image of a list states, under given seeds and words.
unfoldable pub tagless_sheet_of : ℕ → List ℕ → (ℕ → ℕ) → (ℕ → ℕ) → TaglessSheet
tagless_sheet_of groups tags seed word = record {
  count = length tags;
  groups = groups;
  start = λ g. start_of groups g tags;
  seed = seed;
  word = word;
}

-- The image, and the buffer afterwards.
unfoldable pub tagless_image_of : ℕ → List ℕ → ℕ → List ℕ
tagless_image_of groups tags limit = tagless_bytes
    (tagless_sheet_of groups tags (tagless_seed groups tags limit) (tagless_word groups tags limit))

unfoldable pub tagless_after : List ℕ → ℕ → ℕ → List ℕ → List ℕ
tagless_after tags groups limit before =
    written (tagless_building_of tags groups limit (length before)) (tagless_image_of groups tags limit) before
