-- A group of tags under a seed: its candidate places, its seed, and the sequence taken. Assumes nothing.
use Rattle.std.specs.Prelude.{ℕ, Bool, List, [], map, length, Option, unwrap_or, option_map}
use Rattle.lists.specs.First.{first}
use Rattle.hash.specs.Formula.{place_of}
use Rattle.filling.specs.Filling.{Key}
use Rattle.filling.specs.Least.{feasible}
use Rattle.filling.specs.Taken.{sequence_taken}
use Rattle.filling.specs.Word.{word_of}

-- The two candidate places of tag t among n under seed s: a key of the theory of filling.
unfoldable pub both_places : ℕ → ℕ → ℕ → Key
both_places n s t = (place_of n s 0 t, place_of n s 1 t)

-- The candidate places of the tags under seed s, among n places: as many as the tags, when a group is placed.
unfoldable pub candidates : ℕ → ℕ → List ℕ → List Key
candidates n s tags = map (both_places n s) tags

abbrev pub group_under : List ℕ → ℕ → List Key
group_under tags s = candidates (length tags) s tags

-- "The search stops at the first seed that some choice sequence fills": the least seed below the limit, if there is one.
-- An empty group has seed 0.
unfoldable pub least_seed : List ℕ → ℕ → Option ℕ
least_seed tags limit = first (λ s. feasible (group_under tags s)) limit

-- The choice sequence taken under a seed; empty where none fills.
unfoldable pub taken : List ℕ → ℕ → List Bool
taken tags s = unwrap_or (sequence_taken (group_under tags s)) []

-- The word of a group under a seed: the choice word of the sequence taken, where any sequence fills.
unfoldable pub word_under : List ℕ → ℕ → Option ℕ
word_under tags s = option_map word_of (sequence_taken (group_under tags s))
