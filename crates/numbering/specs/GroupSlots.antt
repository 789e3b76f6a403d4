-- The slots of one group. Assumes nothing.
use Rattle.std.specs.Prelude.{ℕ, Bool, List, length}
use Rattle.lists.specs.UpTo.{up_to}
use Rattle.numbering.specs.Number.{place_in, tag_numbered}

-- The tags of a group in the order of their places, under a seed and a choice sequence: for each place the tag that has it.
unfoldable pub group_slots : List ℕ → ℕ → List Bool → List ℕ
group_slots tags seed choices = up_to (length tags) (tag_numbered (place_in tags seed choices) tags)
