-- THE CONDITION OF AN INDEX WITHOUT TAGS, one claim about a building and all lookups in what it wrote, in place of what conditions 2 and 3
-- say of lookup, of unknown tags and of choice sequences (document 02, §5): a relation of the list, B, L, the buffer's length, building's
-- answer and the bytes left. It says what holds, and names no definition by which building is specified. Assumes nothing.
use Rattle.std.specs.Prelude.{◌≡◌, ◌↔◌, true, List, ℕ, ◌+◌, ◌*◌, ◌≤◌, ◌<◌, length, take}
use Rattle.refusal.specs.Limits.{tag_end, unwired}
use Rattle.refusal.specs.Outcome.{Outcome, answered, refused}
use Rattle.lists.specs.Occurs.{occurs}
use Rattle.hash.specs.Formula.{group_of}
use Rattle.text.specs.Line.{line_at, pair_line}
use Rattle.word_line.specs.WordLine.{word_line}
use Rattle.image.specs.Lookup.{number, unknown}
use Rattle.numbering.specs.Members.{members, start_of}
use Rattle.condition3.specs.Condition3.{EarlierChecks, TagOf}
use Rattle.tagless_group.specs.Words.{WordFills}
use Rattle.tagless_image.specs.View.{group_line_at}
use Rattle.tagless_image.specs.Checking.{tagless_checking_of}
use Rattle.tagless_image.specs.Lookup.{tagless_lookup_of}
use Rattle.tagless.specs.Number.{tagless_number}

-- The word makes the places of group g's tags all different under seed s.
abbrev pub GroupWordFills : ℕ → List ℕ → ℕ → ℕ → ℕ → Type 0
GroupWordFills groups tags g s word = WordFills (members groups g tags) s word

-- No word of 32 bits does.
abbrev pub NoWordFills : ℕ → List ℕ → ℕ → ℕ → Type 0
NoWordFills groups tags g s = (word : ℕ) → word < tag_end → GroupWordFills groups tags g s word → ⊥

-- A seed below the limit that has "a word of this kind".
pub record HasWord (groups : ℕ) (tags : List ℕ) (limit g : ℕ) : Type 0 where
  pub seed : ℕ
  pub below : seed < limit
  pub word : ℕ
  pub word_below : word < tag_end
  pub fills : GroupWordFills groups tags g seed word

-- The lowest group for which no seed below the limit has such a word.
pub record LowestWithoutWord (groups : ℕ) (tags : List ℕ) (limit g : ℕ) : Type 0 where
  pub group : g < groups
  pub without : (s : ℕ) → s < limit → NoWordFills groups tags g s
  pub lower : (h : ℕ) → h < g → HasWord groups tags limit h

-- The checks that building makes before 7: the six conditions on the inputs, as for an image with slots, and a buffer that holds the image.
pub record TaglessEarlierChecks (tags : List ℕ) (groups limit room : ℕ) : Type 0 where
  pub inputs : EarlierChecks tags groups limit
  pub fits : 11 + 21 * groups ≤ room

-- What holds of an accepted building that answered `size` and left the buffer `after`. The written image is the buffer's first bytes, as
-- many as building answers, as building left them. The seeds and words in its lines serve numbers and lookups alike.
pub record TaglessAccepted (tags : List ℕ) (groups limit : ℕ) (after : List ℕ) (size : ℕ) : Type 0 where
  pub seed : ℕ → ℕ
  pub word : ℕ → ℕ
  -- "so the length is 11 + 21 × B"; line 0, and "line 1 + g is the figures of the group's start, seed … and word".
  pub whole : size ≡ 11 + 21 * groups
  pub header : line_at 0 (take size after) ≡ pair_line (length tags) groups
  pub line : (g : ℕ) → g < groups → group_line_at g (take size after) ≡ word_line (start_of groups g tags) (seed g) (word g)
  -- The seed is below L, the word has 32 bits, and it "makes the group's places all different".
  pub seed-below : (g : ℕ) → g < groups → seed g < limit
  pub word_below : (g : ℕ) → g < groups → word g < tag_end
  pub fills : (g : ℕ) → g < groups → GroupWordFills groups tags g (seed g) (word g)
  -- "the least seed, then the numerically least word": under no lower seed does any word, and under that seed no lower word.
  pub passed_over : (g : ℕ) → g < groups → (s : ℕ) → s < seed g → NoWordFills groups tags g s
  pub least-word : (g : ℕ) → g < groups → (lower : ℕ) → lower < word g → GroupWordFills groups tags g (seed g) lower → ⊥
  -- "The listed tags get the numbers 0 to N-1, each once", and lookup in the written image answers them.
  pub number-below : (t : ℕ) → occurs t tags ≡ true → tagless_number groups tags seed word t < length tags
  pub number-once : (j : ℕ) → j < length tags → TagOf tags (tagless_number groups tags seed word) j
  pub listed : (t : ℕ) → t < tag_end → occurs t tags ≡ true
      → tagless_lookup_of (take size after) t ≡ answered (number (tagless_number groups tags seed word t))
  -- "and a stranger's number is below N"; "unknown in an empty group and for tag 0".
  pub stranger : (t : ℕ) → t < tag_end → (j : ℕ) → tagless_lookup_of (take size after) t ≡ answered (number j) → j < length tags
  pub empty : (t : ℕ) → t < tag_end → length (members groups (group_of groups t) tags) ≡ 0
      → tagless_lookup_of (take size after) t ≡ answered unknown
  pub nobody : tagless_lookup_of (take size after) unwired ≡ answered unknown
  -- The written image is one that checking accepts.
  pub checked : tagless_checking_of (take size after) ≡ answered 0

-- The whole.
pub record TaglessCondition (tags : List ℕ) (groups limit room : ℕ) (answer : Outcome ℕ) (after : List ℕ) : Type 0 where
  pub accepted : (size : ℕ) → answer ≡ answered size → TaglessAccepted tags groups limit after size
  -- "For no group refused with 7 may a seed below the limit have a word of this kind."
  pub no_word : (g : ℕ) → answer ≡ refused 7 g → (s : ℕ) → s < limit → NoWordFills groups tags g s
  -- Refused with 7 at g exactly when, the earlier checks passing, g is the lowest group without such a word; otherwise accepted.
  pub refused-7 : TaglessEarlierChecks tags groups limit room → (g : ℕ) → (answer ≡ refused 7 g) ↔ LowestWithoutWord groups tags limit g
  pub otherwise : TaglessEarlierChecks tags groups limit room → ((g : ℕ) → LowestWithoutWord groups tags limit g → ⊥)
      → answer ≡ answered (11 + 21 * groups)
