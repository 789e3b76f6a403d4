-- `digits::worked::byte_before_seven` meets its contract: by the two promises the field is the figure that the definitions compute to.
-- Assumes nothing.
use mathlib.Core.Path.{◌≡◌, refl}
use mathlib.Core.List.{[], ◌∷◌}
use Prim.Native.Nat.{◌-◌}
use Rattle.lists.specs.First.{met_at, first}
use Rattle.digits.specs.Digits.{digits_from}
use Rattle.digits.specs.Width.{fits, width_of}
use Rattle.digits.proofs.worked.byte_before_seven.Goals as goal

computed : digits_from (2 - width_of 7) 2 7 ≡ 32 ∷ 55 ∷ []
unfolding digits_from width_of first met_at fits
computed = refl

pub returns : goal.returns
returns c = record { answer = rw (c.write_digits_from.ensures.bytes, c.first_column-first.ensures.answer, computed) }
