-- "Tag 0 belongs to nobody" (document 02, §1): the check that keeps it out of a list, shared by the operations that take one.
-- Assumes nothing.
use Rattle.std.specs.Prelude.{ℕ, ◌<◌, Bool, false, List, [], ◌∷◌, eqb, length, get_or}
use Rattle.refusal.specs.Limits.{unwired}
use Rattle.refusal.specs.Checks.{Check, met}

-- "the first tag is 0": an empty list has no first tag.
unfoldable pub starts_unwired : List ℕ → Bool
starts_unwired [] = false
starts_unwired (t ∷ tags) = eqb t unwired

-- "17 if the first tag is 0": it names place 0.
abbrev pub unwired_check : List ℕ → Check
unwired_check tags = (17, met (starts_unwired tags))

-- The first tag, where there is one, is not 0.
abbrev pub FirstWired : List ℕ → Type 0
FirstWired tags = 0 < length tags → 0 < get_or tags 0 0
