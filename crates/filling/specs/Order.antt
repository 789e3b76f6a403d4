-- The order of choices: which of the choice sequences for the same keys comes first. Assumes nothing.
use Rattle.std.specs.Prelude.{ℕ, ◌+◌, ◌<◌, ◌≡◌, ◌⊎◌, Bool, true, false, List, [], ◌∷◌}
use Rattle.filling.specs.Word.{choice_number}

-- The ones of a sequence: how many keys take their second place.
unfoldable pub ones : List Bool → ℕ
ones [] = 0
ones (choice ∷ choices) = choice_number choice + ones choices

-- "the lowest tag decide[s], 0 before 1": the lowest one for which the two have different choices.
unfoldable pub LowestDecides : List Bool → List Bool → Type 0
LowestDecides [] ds = Unit {0}
LowestDecides (c ∷ cs) [] = ⊥
LowestDecides (false ∷ cs) (false ∷ ds) = LowestDecides cs ds
LowestDecides (false ∷ cs) (true ∷ ds) = Unit {0}
LowestDecides (true ∷ cs) (false ∷ ds) = ⊥
LowestDecides (true ∷ cs) (true ∷ ds) = LowestDecides cs ds

-- The order: cs comes before ds, or is ds. "the one with the fewest ones is now taken, and only between equals does the lowest tag
-- decide, 0 before 1".
unfoldable pub NotAfter : List Bool → List Bool → Type 0
NotAfter cs ds = (ones cs < ones ds) ⊎ ((ones cs ≡ ones ds) × LowestDecides cs ds)
