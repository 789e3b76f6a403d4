-- Lookup in an index without tags. Document 02, §5. Assumes nothing.
use Rattle.std.specs.Prelude.{ℕ, cond, List, ◌++◌, eqb}
use Rattle.refusal.specs.Limits.{unwired}
use Rattle.refusal.specs.Outcome.{Outcome, answered}
use Rattle.refusal.specs.Checks.{Check, in_order}
use Rattle.hash.specs.Formula.{group_of}
use Rattle.filling.specs.Word.{choice_number}
use Rattle.image.specs.View.{View, groups_in, start_in, seed_in, end_in, candidate_in}
use Rattle.image.specs.Lookup.{Found, number, unknown, group_checks}
use Rattle.tagless_group.specs.Words.{choice_by}
use Rattle.tagless_image.specs.View.{tagless_view, word_in}
use Rattle.tagless_image.specs.Checking.{tagless_opening}

-- First 11, 12 and 11 as in checking, then what lookup in an image with slots checks of a tag's group: 12 at its line, 12 at the next
-- group's line if there is one, 13.
unfoldable pub tagless_lookup_checks : View → ℕ → List Check
tagless_lookup_checks v g = tagless_opening v ++ group_checks v g

-- "start plus place for the choice so found": the choice that the group's word makes for the tag.
unfoldable pub number_by : View → ℕ → ℕ → ℕ → ℕ
number_by v word g t = candidate_in v g (choice_number (choice_by word (seed_in v g) t)) t

-- "Lookup gives start plus place …, unknown in an empty group".
unfoldable pub tagless_in_group : View → ℕ → ℕ → ℕ → Outcome Found
tagless_in_group v word t g =
    in_order (tagless_lookup_checks v g)
    (cond (eqb (start_in v g) (end_in v g)) (answered unknown) (answered (number (number_by v word g t))))

-- "and for tag 0", once line 0 and the length have passed. A tag that was not listed gets a number too: no tag is kept.
unfoldable pub tagless_lookup_of : List ℕ → ℕ → Outcome Found
tagless_lookup_of image t =
    let v = tagless_view image in
    let g = group_of (groups_in v) t in
    cond (eqb t unwired) (in_order (tagless_opening v) (answered unknown)) (tagless_in_group v (word_in image g) t g)
