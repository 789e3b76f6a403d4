-- The steps of checking behind the opening checks. Assumes nothing.
use Rattle.std.specs.Prelude.{ℕ, ◌+◌, ◌<◌, ◌≡◌, Bool, List, eqb, length, get_or, Option, None, Some, unwrap_or}
use Rattle.refusal.specs.Limits.{tags_max, groups_max, unwired}
use Rattle.refusal.specs.Outcome.{Outcome, answered, refused}
use Rattle.image.specs.View.{View, start_in, seed_in, slot_in, faulty}
use Rattle.image.specs.SameNumbers.{SameNumbers}
use Rattle.slots.specs.Cells.{cells_view, Legal}
use Rattle.slots.specs.declared.SlotFault.{SlotFault}
use Rattle.slots.specs.declared.SlotFault.TheVariants.{Misplaced, Repeated}

-- Slot j holds 0, by the cells of the tags.
abbrev pub unwired_at : List ℕ → ℕ → Bool
unwired_at tags j = eqb (get_or tags j 0) unwired

-- Group g is faulty, by the cells of the starts.
abbrev pub faulty_at : List ℕ → ℕ → Bool
faulty_at starts g = faulty g (get_or starts g 0) (get_or starts (g + 1) 0)

-- How many lines stand before the first malformed one: all where none is.
abbrev pub lines_before : Option ℕ → ℕ → ℕ
lines_before found all = unwrap_or found all

-- The cells hold one number of each line from line `from` on that is among the first `lines`.
pub record Filled (number : ℕ → ℕ) (from lines size : ℕ) (cells : List ℕ) : Type 0 where
  pub long : length cells ≡ size
  pub holds : (i : ℕ) → from + i < lines → get_or cells i 0 ≡ number i

-- The cells hold the starts and the seeds of the groups whose lines are among the first, and N stands behind the starts.
pub record GroupsStored (v : View) (count groups lines : ℕ) (starts seeds : List ℕ) : Type 0 where
  pub start : Filled (start_in v) 1 lines (groups_max + 1) starts
  pub seed : Filled (seed_in v) 1 lines groups_max seeds
  pub end : get_or starts groups 0 ≡ count

-- The cells hold the tags of the slots whose lines are among the first.
abbrev pub TagsStored : View → ℕ → ℕ → List ℕ → Type 0
TagsStored v groups lines tags = Filled (slot_in v) (1 + groups) lines tags_max tags

-- The cells hold all numbers that an image states, each in its range.
pub record Stated (v : View) (groups : ℕ) (starts seeds tags : List ℕ) : Type 0 where
  pub same : SameNumbers v (cells_view starts seeds tags groups)
  pub legal : Legal starts seeds groups
  pub tags-long : length tags ≡ tags_max

-- What a fault of the slots is refused with; without one the image is accepted.
abbrev pub fault_outcome : Option SlotFault → Outcome ℕ
fault_outcome (Some (Misplaced j)) = refused 14 j
fault_outcome (Some (Repeated j)) = refused 15 j
fault_outcome None = answered 0
