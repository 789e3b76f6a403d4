-- What a line of document 01's worked values states, in one form for all. Assumes nothing.
use Rattle.std.specs.Prelude.{◌≡◌, Bool, List, [], ◌∷◌, ◌++◌, ℕ, ◌≤◌, ◌<◌, length, get_or, drop}
use Rattle.refusal.specs.Outcome.{Outcome, answered}
use Rattle.hash.specs.Formula.{group_of, place_of}
use Rattle.hash.specs.OneTag.{place_of_one_tag}
use Rattle.filling.specs.Filling.{Fills}
use Rattle.group.specs.Group.{group_under, taken}
use Rattle.group.specs.Placing.{Placement, placing_of}
use Rattle.image.specs.Sheet.{image_length}
use Rattle.numbering.specs.Number.{number_of}
use Rattle.numbering.specs.Planning.{seed_taken}
use Rattle.numbering.specs.Building.{choices_taken, building_of, buffer_after}

-- One thing that a line states of a list of tags, of a group count or of a tag.
pub data Claim : Type 0 where
  -- placing the tags comes to this
  placing : List ℕ → Outcome Placement → Claim
  -- building from the tags with so many groups comes to this, in every buffer that is long enough for the image
  building : List ℕ → ℕ → Outcome ℕ → Claim
  -- and leaves these bytes at the buffer's beginning, and what was there behind them
  bytes : List ℕ → ℕ → List ℕ → Claim
  -- the number of a tag of the list, with so many groups
  number : List ℕ → ℕ → ℕ → ℕ → Claim
  -- among so many, under a seed and a choice, a tag has this place
  place : ℕ → ℕ → ℕ → ℕ → ℕ → Claim
  -- with so many groups, a tag falls in this group
  group : ℕ → ℕ → ℕ → Claim
  -- under a seed this choice sequence fills, or is the one taken
  fills : List ℕ → ℕ → List Bool → Claim
  takes : List ℕ → ℕ → List Bool → Claim
  -- under no seed and no choice does a tag of the group reach this place
  unreached : List ℕ → ℕ → Claim

-- What a claim says for the seed limit L.
unfoldable pub Holds : ℕ → Claim → Type 0
Holds limit (placing tags outcome) = placing_of tags limit ≡ outcome
Holds limit (building tags groups outcome) =
    (room : ℕ) → image_length groups (length tags) ≤ room → building_of tags groups limit room ≡ outcome
Holds limit (bytes tags groups image) =
    (before : List ℕ)
    → image_length groups (length tags) ≤ length before
    → buffer_after tags groups limit before ≡ image ++ drop (length image) before
Holds limit (number tags groups t j) =
    number_of groups tags (seed_taken groups tags limit) (choices_taken groups tags limit) t ≡ j
Holds limit (place n seed choice t p) = place_of_one_tag n seed choice t ≡ answered p
Holds limit (group groups t g) = group_of groups t ≡ g
Holds limit (fills tags seed choices) = Fills (group_under tags seed) choices
Holds limit (takes tags seed choices) = taken tags seed ≡ choices
Holds limit (unreached tags p) = (seed choice i : ℕ) → i < length tags → place_of (length tags) seed choice (get_or tags i 0) ≡ p → ⊥

unfoldable pub AllHold : ℕ → List Claim → Type 0
AllHold limit [] = Unit {0}
AllHold limit (claim ∷ claims) = Holds limit claim × AllHold limit claims

-- A line: its claims, and the seed limits for which it makes them.
pub record Row : Type 0 where
  pub from : ℕ
  pub upto : ℕ
  pub claims : List Claim

unfoldable pub RowHolds : Row → Type 0
RowHolds row = (limit : ℕ) → row.from ≤ limit → limit ≤ row.upto → AllHold limit row.claims

unfoldable pub Every : List Row → Type 0
Every [] = Unit {0}
Every (row ∷ rows) = RowHolds row × Every rows
