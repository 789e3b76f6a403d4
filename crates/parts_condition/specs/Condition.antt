-- WHAT COUNTING PARTS OWES: a relation of the group, the seed and the answer. It speaks of choice sequences, of walks along tags and of the
-- parts that they make, and names no definition by which counting parts is specified. Document 02, §8. Assumes nothing.
use Rattle.std.specs.Prelude.{◌≡◌, ◌↔◌, Bool, true, List, [], ℕ, ◌^◌, ◌≤◌, length}
use Rattle.refusal.specs.Limits.{group_max, seed_max}
use Rattle.refusal.specs.Outcome.{Outcome, answered}
use Rattle.filling.specs.Filling.{Fills}
use Rattle.group.specs.Group.{group_under}
use Rattle.group.specs.Ascending.{Ascending}
use Rattle.group.specs.Unwired.{FirstWired}
use Rattle.graph.specs.HowMany.{how_many}
use Rattle.graph.specs.Part.{NoPartHasMoreEdges, PartsAre}
use Rattle.graph.specs.Parts.{Parts}
use Rattle.graph.specs.Sequences.{all_sequences, fills}

-- What stops counting parts is not there: four conditions on the inputs.
pub record PartsChecks (tags : List ℕ) (seed : ℕ) : Type 0 where
  pub seed-legal : seed ≤ seed_max
  pub count-legal : length tags ≤ group_max
  pub ascending : Ascending tags
  pub wired : FirstWired tags

-- What holds of an answer: the graph has the group's places as points, all n of them, and its tags as edges.
pub record Counted (tags : List ℕ) (seed : ℕ) (parts : Parts) : Type 0 where
  -- "It agrees with the first on every group of up to 32 tags and every seed": it serves exactly where some choice sequence fills.
  pub first-test : (parts.serves ≡ true) ↔ ((choices : List Bool) × Fills (group_under tags seed) choices)
  -- "a seed serves just when no connected part of the graph … has more edges than points"
  pub no_part : (parts.serves ≡ true) ↔ NoPartHasMoreEdges (length tags) (group_under tags seed)
  -- "how many parts there are", whether the seed serves or not.
  pub number : PartsAre (length tags) (group_under tags seed) parts.number
  -- "When a seed serves n tags on n places, the number of filling sequences is 2 to the power of the number of parts": of all 2^n
  -- sequences, each counted once.
  pub sequences : parts.serves ≡ true
      → how_many (fills (group_under tags seed)) (all_sequences (length tags)) ≡ 2 ^ parts.number

pub record PartsCondition (tags : List ℕ) (seed : ℕ) (answer : Outcome Parts) : Type 0 where
  pub counted : (parts : Parts) → answer ≡ answered parts → Counted tags seed parts
  -- Nothing else stops it.
  pub otherwise : PartsChecks tags seed → (parts : Parts) × (answer ≡ answered parts)
  -- "the empty group is served, with no parts"
  pub empty : tags ≡ [] → seed ≤ seed_max → answer ≡ answered (record { serves = true; number = 0 })
