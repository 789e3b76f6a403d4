-- The slot that holds a tag. Assumes nothing.
use Rattle.std.specs.Prelude.{ℕ, ◌<◌, ◌≡◌, List, Some}
use Rattle.image.specs.View.{View, view_of, count_in, slot_line_in}

-- Slot j holds tag t.
pub record HoldsTag (v : View) (j t : ℕ) : Type 0 where
  pub slot : j < count_in v
  pub tag : v.slot_at (slot_line_in v j) ≡ Some t

-- Slot j of an image holds t.
abbrev pub SlotHolds : List ℕ → ℕ → ℕ → Type 0
SlotHolds image j t = HoldsTag (view_of image) j t
