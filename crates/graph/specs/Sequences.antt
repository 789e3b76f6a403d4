-- All choice sequences, and those of them that fill. Assumes nothing.
use Rattle.std.specs.Prelude.{ℕ, zero, suc, Bool, true, false, not, ◌&&◌, List, [], ◌∷◌, ◌++◌, map, eqb, length}
use Rattle.std.specs.Bool.{xor}
use Rattle.lists.specs.Occurs.{distinct}
use Rattle.filling.specs.Filling.{Key, chosen}

-- All sequences of n choices, each once: 2^n.
unfoldable pub all_sequences : ℕ → List (List Bool)
all_sequences zero = [] ∷ []
all_sequences (suc n) = map (λ choices. false ∷ choices) (all_sequences n) ++ map (λ choices. true ∷ choices) (all_sequences n)

-- "It fills the group … if the n chosen places are all different": `Fills` as a test.
unfoldable pub fills : List Key → List Bool → Bool
fills keys choices = eqb (length choices) (length keys) && distinct (chosen keys choices)

-- Are two choice sequences one?
unfoldable pub same : List Bool → List Bool → Bool
same [] [] = true
same [] (d ∷ ds) = false
same (c ∷ cs) [] = false
same (c ∷ cs) (d ∷ ds) = not (xor c d) && same cs ds
