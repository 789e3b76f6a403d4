-- The choices that a word makes for a group's tags, and the group's word and seed in an index without tags: document 02, §5. It is a
-- word of 32 bits for the whole group, and not a choice word: a bit of it belongs to no tag. Assumes nothing.
use Rattle.std.specs.Prelude.{ℕ, Bool, List, map, eqb, Option, unwrap_or, option_map}
use Rattle.refusal.specs.Limits.{tag_end}
use Rattle.lists.specs.First.{first, is_some}
use Rattle.lists.specs.Occurs.{distinct}
use Rattle.filling.specs.Filling.{chosen, Fills}
use Rattle.group.specs.Group.{group_under}
use Rattle.parity.specs.Parity.{parity}
use Rattle.tagless_group.specs.Row.{row_of}

-- "The choice of tag t is the parity of the ones in its row AND the word".
unfoldable pub choice_by : ℕ → ℕ → ℕ → Bool
choice_by word s t = eqb (parity (row_of s t) word) 1

-- The choices of a group's tags under seed s, lowest tag first: a choice sequence.
unfoldable pub choices_by : ℕ → ℕ → List ℕ → List Bool
choices_by word s tags = map (choice_by word s) tags

-- The word "makes the group's places all different" under seed s: its choices fill the group.
abbrev pub WordFills : List ℕ → ℕ → ℕ → Type 0
WordFills tags s word = Fills (group_under tags s) (choices_by word s tags)

-- The same as a test: there is a choice for each tag, so only the places count.
unfoldable pub word_fills : List ℕ → ℕ → ℕ → Bool
word_fills tags s word = distinct (chosen (group_under tags s) (choices_by word s tags))

-- "then the numerically least word": of all words of 32 bits, if any makes the places all different.
unfoldable pub least_word : List ℕ → ℕ → Option ℕ
least_word tags s = first (word_fills tags s) tag_end

-- "A seed is taken exactly when some 32-bit word makes the group's places all different: the least seed", below the limit. An empty
-- group has seed 0 and word 0.
unfoldable pub least_word_seed : List ℕ → ℕ → Option ℕ
least_word_seed tags limit = first (λ s. is_some (least_word tags s)) limit

-- The word of a group under a seed that has one: the least. 0 under a seed that has none.
unfoldable pub word_taken : List ℕ → ℕ → ℕ
word_taken tags s = unwrap_or (least_word tags s) 0

-- "the least seed, then the numerically least word": the two together, where a seed below the limit has a word.
unfoldable pub worded_seed : List ℕ → ℕ → Option (ℕ × ℕ)
worded_seed tags limit = option_map (λ s. (s, word_taken tags s)) (least_word_seed tags limit)
