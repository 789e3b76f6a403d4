-- Tags on any number of places: the least seed, the sequence taken, and the word. A group that is placed has as many places as tags.
-- Assumes nothing.
use Rattle.std.specs.Prelude.{ℕ, Bool, List, [], Option, unwrap_or, option_map}
use Rattle.lists.specs.First.{first}
use Rattle.filling.specs.Least.{feasible}
use Rattle.filling.specs.Taken.{sequence_taken}
use Rattle.filling.specs.Word.{word_of}
use Rattle.group.specs.Group.{candidates}

-- "The search stops at the first seed that some choice sequence fills": the least seed below the limit under which some sequence gives
-- the tags places of their own among n places, if there is one. "An empty group has seed 0".
unfoldable pub least_seed_on : ℕ → List ℕ → ℕ → Option ℕ
least_seed_on n tags limit = first (λ s. feasible (candidates n s tags)) limit

-- The choice sequence taken under a seed, among n places; empty where none fills.
unfoldable pub taken_on : ℕ → List ℕ → ℕ → List Bool
taken_on n tags s = unwrap_or (sequence_taken (candidates n s tags)) []

-- The word of tags under a seed, among n places: the choice word of the sequence taken, where any sequence fills.
unfoldable pub word_on : ℕ → List ℕ → ℕ → Option ℕ
word_on n tags s = option_map word_of (sequence_taken (candidates n s tags))
