-- The weight of a word. Assumes nothing.
use Rattle.std.specs.Prelude.{ℕ, cond, ltb}
use Rattle.filling.specs.Weight.{key_weight, total}
use Rattle.bits.specs.WordBits.{choice_in}

-- What the choices that a word has for the first `count` keys weigh together.
abbrev pub word_weight : ℕ → ℕ → ℕ
word_weight count word = total key_weight (choice_in word) count

-- The lighter of two words; the first where they weigh the same.
unfoldable pub lighter_of : ℕ → ℕ → ℕ → ℕ
lighter_of count a b = cond (ltb (word_weight count b) (word_weight count a)) b a
