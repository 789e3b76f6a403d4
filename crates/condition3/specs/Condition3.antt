-- CONDITION 3, one claim about a building and all lookups in what it wrote: a relation of the list, B, L, the buffer's length, the plan
-- that planning yielded, building's answer and the bytes left. Planning owes one part of it and writing the other. It says what holds,
-- and names no definition by which planning, writing and building are specified. Assumes nothing.
use Rattle.std.specs.Prelude.{◌≡◌, ◌↔◌, Bool, true, false, List, ℕ, suc, ◌+◌, ◌*◌, ◌≤◌, ◌<◌, length, get_or, take}
use Rattle.refusal.specs.Limits.{tag_end, tags_max, groups_max, limit_max, group_max}
use Rattle.refusal.specs.Outcome.{Outcome, answered, refused}
use Rattle.text.specs.Line.{line_at, pair_line}
use Rattle.lists.specs.Occurs.{occurs}
use Rattle.filling.specs.Filling.{Fills}
use Rattle.filling.specs.Order.{NotAfter}
use Rattle.group.specs.Group.{group_under}
use Rattle.image.specs.Lookup.{number, unknown, lookup_of}
use Rattle.numbering.specs.Members.{members, start_of}
use Rattle.numbering.specs.Number.{number_of}
use Rattle.numbering.specs.Plan.{planned_groups, planned_seed}

-- The places of group g's tags under a seed: a sequence that fills them gives each tag a place of its own.
abbrev pub GroupFills : ℕ → List ℕ → ℕ → ℕ → List Bool → Type 0
GroupFills groups tags g s choices = Fills (group_under (members groups g tags) s) choices

-- "No sequence of choices whatever, first or second place for each tag of a group, makes a seed … give each of its tags a place of
-- its own."
abbrev pub NothingFills : ℕ → List ℕ → ℕ → ℕ → Type 0
NothingFills groups tags g s = (choices : List Bool) → GroupFills groups tags g s choices → ⊥

-- A seed below the limit under which such a sequence exists.
pub record HasSeed (groups : ℕ) (tags : List ℕ) (limit g : ℕ) : Type 0 where
  pub seed : ℕ
  pub below : seed < limit
  pub choices : List Bool
  pub fills : GroupFills groups tags g seed choices

-- "the lowest such group": the lowest group without a seed below the limit.
pub record LowestWithout (groups : ℕ) (tags : List ℕ) (limit g : ℕ) : Type 0 where
  pub group : g < groups
  pub without : (s : ℕ) → s < limit → NothingFills groups tags g s
  pub lower : (h : ℕ) → h < g → HasSeed groups tags limit h

-- "The earlier checks are those that building makes before 7": the six conditions on the inputs, whatever the buffer. The first tag,
-- where there is one, is not 0.
pub record EarlierChecks (tags : List ℕ) (groups limit : ℕ) : Type 0 where
  pub groups-legal : (1 ≤ groups) × (groups ≤ groups_max)
  pub limit-legal : (1 ≤ limit) × (limit ≤ limit_max)
  pub count-legal : length tags ≤ tags_max
  pub ascending : (i : ℕ) → suc i < length tags → get_or tags i 0 < get_or tags (suc i) 0
  pub wired : 0 < length tags → 0 < get_or tags 0 0
  pub groups-small : (g : ℕ) → g < groups → length (members groups g tags) ≤ group_max

-- A plan that serves the list: B, and for each group a seed below the limit under which some sequence fills.
pub record Serves (tags : List ℕ) (groups limit : ℕ) (plan : List ℕ) : Type 0 where
  pub groups-are : planned_groups plan ≡ groups
  pub below-limit : (g : ℕ) → g < groups → planned_seed plan g < limit
  pub serving : ℕ → List Bool
  pub served : (g : ℕ) → g < groups → GroupFills groups tags g (planned_seed plan g) (serving g)

-- What holds of the yielded plan, and of an answer of planning or of building: `answer` is either.
pub record SeedCondition3 (tags : List ℕ) (groups limit : ℕ) (answer : Outcome ℕ) (plan : List ℕ) : Type 0 where
  pub serves : (accepted : ℕ) → answer ≡ answered accepted → Serves tags groups limit plan
  -- "a seed lower than the group's seed in the yielded plan is passed over too, even if writing refuses"
  pub passed_over : (g : ℕ) → g < planned_groups plan → (s : ℕ) → s < planned_seed plan g → NothingFills groups tags g s
  -- "where refusal 7 names the group", every seed below L is passed over.
  pub no-seed : (g : ℕ) → answer ≡ refused 7 g → (s : ℕ) → s < limit → NothingFills groups tags g s
  -- "A list that passes all earlier checks is refused for want of a seed exactly when some group has no seed below the limit under
  -- which such a sequence exists, and the refusal names the lowest such group."
  pub refused-7 : EarlierChecks tags groups limit → (g : ℕ) → (answer ≡ refused 7 g) ↔ LowestWithout groups tags limit g
  -- Otherwise the plan serves.
  pub otherwise-serves : EarlierChecks tags groups limit → ((g : ℕ) → LowestWithout groups tags limit g → ⊥)
      → Serves tags groups limit plan

-- Planning's part: a relation of the list, B, L, planning's answer and the yielded plan.
pub record PlanningCondition3 (tags : List ℕ) (groups limit : ℕ) (answer : Outcome ℕ) (plan : List ℕ) : Type 0 where
  pub seeds : SeedCondition3 tags groups limit answer plan
  pub otherwise : EarlierChecks tags groups limit → ((g : ℕ) → LowestWithout groups tags limit g → ⊥) → answer ≡ answered groups

-- The tag of the list whose number is j.
pub record TagOf (tags : List ℕ) (number_for : ℕ → ℕ) (j : ℕ) : Type 0 where
  pub tag : ℕ
  pub listed : occurs tag tags ≡ true
  pub number_is : number_for tag ≡ j
  pub only : (t : ℕ) → occurs t tags ≡ true → number_for t ≡ j → t ≡ tag

-- What holds of an accepted writing, with B groups under the plan's seeds, that answered `size` and left the buffer `after`. "The written
-- image is the buffer's first bytes, as many as building answers, as building left them." The seeds of the plan and the sequences taken
-- serve lines, numbers and lookups alike.
pub record Accepted (tags : List ℕ) (groups : ℕ) (plan after : List ℕ) (size : ℕ) : Type 0 where
  pub choices : ℕ → List Bool
  -- The length, and the seed in each group's line of the written image.
  pub whole : size ≡ 11 * (1 + groups + length tags)
  pub line : (g : ℕ) → g < groups → line_at (suc g) (take size after) ≡ pair_line (start_of groups g tags) (planned_seed plan g)
  -- The sequence taken fills under that seed and is the least that does, in the order of choices: fewest ones, then the lowest tag.
  pub fills : (g : ℕ) → g < groups → GroupFills groups tags g (planned_seed plan g) (choices g)
  pub least : (g : ℕ) → g < groups → (other : List Bool) → GroupFills groups tags g (planned_seed plan g) other → NotAfter (choices g) other
  -- "each number below N belongs to exactly one of its tags and each of its tags has exactly one of them"
  pub number-below : (t : ℕ) → occurs t tags ≡ true → number_of groups tags (planned_seed plan) choices t < length tags
  pub number-once : (j : ℕ) → j < length tags → TagOf tags (number_of groups tags (planned_seed plan) choices) j
  -- "for every tag there is, lookup in the written image answers the tag's number if it is in the list, and unknown if it is not"
  pub listed : (t : ℕ) → t < tag_end → occurs t tags ≡ true
      → lookup_of (take size after) t ≡ answered (number (number_of groups tags (planned_seed plan) choices t))
  pub unlisted : (t : ℕ) → t < tag_end → occurs t tags ≡ false → lookup_of (take size after) t ≡ answered unknown

-- Writing's part, whatever plan it is given: a relation of the list, the plan, writing's answer and the bytes left.
abbrev pub WritingCondition3 : List ℕ → List ℕ → Outcome ℕ → List ℕ → Type 0
WritingCondition3 tags plan answer after = (size : ℕ) → answer ≡ answered size → Accepted tags (planned_groups plan) plan after size

-- The whole.
pub record Condition3 (tags : List ℕ) (groups limit room : ℕ) (plan : List ℕ) (answer : Outcome ℕ) (after : List ℕ) : Type 0 where
  pub seeds : SeedCondition3 tags groups limit answer plan
  pub accepted : (size : ℕ) → answer ≡ answered size → Accepted tags groups plan after size
  -- Where no group is without a seed the list is accepted if the image fits, and refused with 9 if it does not.
  pub otherwise : EarlierChecks tags groups limit → ((g : ℕ) → LowestWithout groups tags limit g → ⊥)
      → 11 * (1 + groups + length tags) ≤ room → answer ≡ answered (11 * (1 + groups + length tags))
  pub too_short : EarlierChecks tags groups limit → ((g : ℕ) → LowestWithout groups tags limit g → ⊥)
      → room < 11 * (1 + groups + length tags) → answer ≡ refused 9 0
