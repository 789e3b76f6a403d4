-- The number of a tag, under any seeds and choice sequences. Assumes nothing.
use Rattle.std.specs.Prelude.{ℕ, ◌+◌, Bool, false, cond, List, [], ◌∷◌, eqb, length}
use Rattle.hash.specs.Formula.{group_of}
use Rattle.filling.specs.Filling.{place_by}
use Rattle.group.specs.Group.{both_places}
use Rattle.numbering.specs.Members.{members, start_of}

-- The choice of tag t in a group's sequence: the one at the tag's index.
unfoldable pub choice_of : List ℕ → List Bool → ℕ → Bool
choice_of [] choices t = false
choice_of (u ∷ us) [] t = false
choice_of (u ∷ us) (choice ∷ choices) t = cond (eqb t u) choice (choice_of us choices t)

-- The place of tag t in its group, under the group's seed and sequence.
unfoldable pub place_in : List ℕ → ℕ → List Bool → ℕ → ℕ
place_in tags seed choices t = place_by (choice_of tags choices t) (both_places (length tags) seed t)

-- "The number of a tag is its group's start plus its place", under the seed and the sequence of each group.
unfoldable pub number_of : ℕ → List ℕ → (ℕ → ℕ) → (ℕ → List Bool) → ℕ → ℕ
number_of groups tags seed choices t =
    let g = group_of groups t in
    start_of groups g tags + place_in (members groups g tags) (seed g) (choices g) t

-- "the tag whose number is j"; 0 where no tag has it.
unfoldable pub tag_numbered : (ℕ → ℕ) → List ℕ → ℕ → ℕ
tag_numbered number [] j = 0
tag_numbered number (t ∷ ts) j = cond (eqb (number t) j) t (tag_numbered number ts j)
