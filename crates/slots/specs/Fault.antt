-- What is wrong with the slots before one of them. Assumes nothing.
use Rattle.std.specs.Prelude.{ℕ, Option, None, Some}
use Rattle.lists.specs.First.{first, met_at}
use Rattle.image.specs.View.{View}
use Rattle.image.specs.Checking.{misplaced, repeated}
use Rattle.slots.specs.declared.SlotFault.{SlotFault}
use Rattle.slots.specs.declared.SlotFault.TheVariants.{Misplaced, Repeated}

-- "14 … 15 …": the lowest misplaced slot, or where none is, the lowest that repeats a tag.
abbrev pub fault_of : Option ℕ → Option ℕ → Option SlotFault
fault_of (Some j) o = Some (Misplaced j)
fault_of None (Some j) = Some (Repeated j)
fault_of None None = None

-- A fault, or where there is none, that slot j repeats a tag.
abbrev pub or_repeated : Option SlotFault → ℕ → Option SlotFault
or_repeated (Some fault) j = Some fault
or_repeated None j = Some (Repeated j)

-- The fault of slot j.
unfoldable pub fault_at : View → ℕ → Option SlotFault
fault_at v j = fault_of (met_at j (misplaced v j)) (met_at j (repeated v j))

-- The fault of the slots before slot k.
unfoldable pub fault_before : View → ℕ → Option SlotFault
fault_before v k = fault_of (first (misplaced v) k) (first (repeated v) k)
