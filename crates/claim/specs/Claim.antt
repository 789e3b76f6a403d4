-- What building and then looking up a tag comes to, in terms of the list alone. Assumes nothing.
use Rattle.std.specs.Prelude.{ℕ, cond, List}
use Rattle.refusal.specs.Outcome.{Outcome, answered, followed_by}
use Rattle.lists.specs.Occurs.{occurs}
use Rattle.image.specs.Lookup.{Found, number, unknown}
use Rattle.numbering.specs.Number.{number_of}
use Rattle.numbering.specs.Planning.{seed_taken}
use Rattle.numbering.specs.Building.{choices_taken, building_of}

-- "lookup in the written image answers the tag's number if it is in the list, and unknown if it is not".
unfoldable pub found_in : List ℕ → ℕ → ℕ → ℕ → Found
found_in tags groups limit tag =
    cond (occurs tag tags) (number (number_of groups tags (seed_taken groups tags limit) (choices_taken groups tags limit) tag)) unknown

-- Building's refusal, or what is found. The buffer has `room` bytes.
unfoldable pub claim_of : List ℕ → ℕ → ℕ → ℕ → ℕ → Outcome Found
claim_of tags groups limit room tag = followed_by (building_of tags groups limit room) (λ size. answered (found_in tags groups limit tag))
