-- Many lines of one tag each: the first that is none, and the cells that their tags are stored in. Assumes nothing.
use Rattle.std.specs.Prelude.{ℕ, zero, suc, ◌-◌, min, Bool, not, ◌&&◌, List, [], ◌∷◌, ◌++◌, length, drop, nat_le, nat_lt, Option, unwrap_or}
use Rattle.refusal.specs.Limits.{tag_end}
use Rattle.lists.specs.First.{is_some}
use Rattle.text.specs.Line.{line_at, tag_of, within}

-- What a line of one tag reads as: the lines of a list and those of slots alike.
unfoldable pub tag_in : List ℕ → Option ℕ
tag_in line = within (λ t. nat_lt t tag_end) (tag_of line)

-- Line k is no tag's. The lines before line `from` are other lines.
unfoldable pub no_tag_from : ℕ → List ℕ → ℕ → Bool
no_tag_from from bytes k = nat_le from k && not (is_some (tag_in (line_at k bytes)))

-- The tags of lines k and on, so many of them. A line that is no tag's stands for 0.
unfoldable pub tags_on : ℕ → ℕ → List ℕ → List ℕ
tags_on zero k bytes = []
tags_on (suc count) k bytes = unwrap_or (tag_in (line_at k bytes)) 0 ∷ tags_on count (suc k) bytes

-- How many lines, from line `from` on, stand before the first that is no tag's: all up to line `end` where there is none.
abbrev pub passed : Option ℕ → ℕ → ℕ → ℕ
passed found from end = unwrap_or found end - from

-- The cells after n lines, from line k on, were read: their tags, as many as there are cells for, and then what was there.
unfoldable pub tags_stored : ℕ → ℕ → List ℕ → List ℕ → List ℕ
tags_stored n k bytes before = let stored = min n (length before) in tags_on stored k bytes ++ drop stored before
