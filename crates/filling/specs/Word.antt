-- The choice word. Assumes nothing.
use Rattle.std.specs.Prelude.{ℕ, zero, suc, ◌+◌, ◌*◌, ◌/◌, ◌%◌, Bool, true, false, List, [], ◌∷◌, eqb}

-- A choice as the number 0 or 1.
unfoldable pub choice_number : Bool → ℕ
choice_number false = 0
choice_number true = 1

-- "The choice word has bit i equal to the choice of the tag with index i; all higher bits are 0." No choices: word 0.
unfoldable pub word_of : List Bool → ℕ
word_of [] = 0
word_of (choice ∷ choices) = choice_number choice + 2 * word_of choices

-- The lowest n bits of a word as choices, bit 0 first.
unfoldable pub choices_of : ℕ → ℕ → List Bool
choices_of zero word = []
choices_of (suc n) word = eqb (word % 2) 1 ∷ choices_of n (word / 2)
