-- CONDITION 3 OF ONE GROUP: its sentences on seeds and choice sequences, as a relation of the tags, L and placing's answer. It says
-- what holds, and names no definition by which placing is specified. Assumes nothing.
use Rattle.std.specs.Prelude.{◌≡◌, ◌↔◌, Bool, List, ℕ, ◌^◌, ◌≤◌, ◌<◌, length}
use Rattle.refusal.specs.Limits.{limit_max, group_max}
use Rattle.refusal.specs.Outcome.{Outcome, answered, refused}
use Rattle.filling.specs.Filling.{Fills}
use Rattle.filling.specs.Order.{NotAfter}
use Rattle.filling.specs.Word.{choices_of}
use Rattle.group.specs.Group.{group_under}
use Rattle.group.specs.Ascending.{Ascending}
use Rattle.group.specs.Unwired.{FirstWired}
use Rattle.group.specs.Placing.{Placement}

-- "No sequence of choices whatever" gives each tag a place of its own, under any seed below the limit.
abbrev pub Unserved : List ℕ → ℕ → Type 0
Unserved tags limit = (s : ℕ) → s < limit → (choices : List Bool) → Fills (group_under tags s) choices → ⊥

-- The checks that placing makes before 7: four conditions on the inputs.
pub record GroupChecks (tags : List ℕ) (limit : ℕ) : Type 0 where
  pub limit-legal : (1 ≤ limit) × (limit ≤ limit_max)
  pub count-legal : length tags ≤ group_max
  pub ascending : Ascending tags
  pub wired : FirstWired tags

-- What holds of a seed and a choice word that were answered.
pub record Placed (tags : List ℕ) (limit : ℕ) (placed : Placement) : Type 0 where
  pub below-limit : placed.seed < limit
  -- "The choice word has bit i equal to the choice of the tag with index i; all higher bits are 0."
  pub no-higher-bit : placed.word < 2 ^ length tags
  -- The sequence that the word states fills under the seed and is the least that does, in the order of choices: fewest ones, then the
  -- lowest tag. Every lower seed is passed over.
  pub fills : Fills (group_under tags placed.seed) (choices_of (length tags) placed.word)
  pub least : (other : List Bool) → Fills (group_under tags placed.seed) other → NotAfter (choices_of (length tags) placed.word) other
  pub passed_over : Unserved tags placed.seed

pub record GroupCondition3 (tags : List ℕ) (limit : ℕ) (answer : Outcome Placement) : Type 0 where
  pub accepted : (placed : Placement) → answer ≡ answered placed → Placed tags limit placed
  -- A group that passes the earlier checks "is refused for want of a seed exactly when" no seed below the limit serves it,
  pub refused-7 : GroupChecks tags limit → (answer ≡ refused 7 0) ↔ Unserved tags limit
  -- and otherwise it is accepted.
  pub otherwise : GroupChecks tags limit → (Unserved tags limit → ⊥) → (placed : Placement) × (answer ≡ answered placed)
