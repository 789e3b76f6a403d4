-- The number of a tag in an index without tags, under any seeds and words. Document 02, §5. Assumes nothing.
use Rattle.std.specs.Prelude.{ℕ, ◌+◌, List, length}
use Rattle.hash.specs.Formula.{group_of, place_of}
use Rattle.filling.specs.Word.{choice_number}
use Rattle.tagless_group.specs.Words.{choice_by}
use Rattle.numbering.specs.Members.{members, start_of}

-- "start plus place for the choice so found": the group's start, and the tag's place among as many as the group has tags, by the choice
-- that the group's word makes for it. Every tag whose group is not empty has one, listed or not.
unfoldable pub tagless_number : ℕ → List ℕ → (ℕ → ℕ) → (ℕ → ℕ) → ℕ → ℕ
tagless_number groups tags seed word t =
    let g = group_of groups t in
    start_of groups g tags
    + place_of (length (members groups g tags)) (seed g) (choice_number (choice_by (word g) (seed g) t)) t
