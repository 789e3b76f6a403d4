-- A group's rows in an array, and that the least word by them is the group's. Assumes nothing.
use Rattle.std.specs.Prelude.{ℕ, zero, suc, ◌+◌, ◌*◌, ◌≤◌, ◌<◌, ◌≡◌, List, [], ◌∷◌, ◌++◌, map, length, get_or, take, drop, set}
use Rattle.std.proofs.Common.{sym, ◌∙◌, append_assoc, add-one, arith, length-append, length-drop, take_at, take-suc}
use Rattle.std.proofs.Common.{get_or-take, length-take-le}
use Rattle.std.proofs.lemmas.Simd.{map-map}
use Rattle.std.proofs.lemmas.List.{map-append}
use Rattle.std.proofs.Math.ListN.{length-map}
use Rattle.refusal.specs.Limits.{group_max, tag_end}
use Rattle.hash.proofs.FormulaLaws.{product-below}
use Rattle.lists.proofs.FirstLaws.{first_cong}
use Rattle.lists.proofs.WrittenLaws.{written-front}
use Rattle.group.specs.Group.{group_under}
use Rattle.places.specs.Array.{keys_of, laid_into}
use Rattle.candidates.specs.LaidLaws.{group-cells, group-within, group-keys}
use Rattle.tagless_group.specs.Row.{row_of}
use Rattle.tagless_group.specs.Words.{choice_by, choices_by, word_fills, least_word}
use Rattle.equations.specs.Equation.{row_choice, row_choices, rows_fill, least_of_rows}
use Rattle.equations.specs.Stated.{Stated}
use Rattle.tagless_seeds.specs.Rows.{rows_under, rows_into}

-- The choices that a word makes by the rows are those that it makes for the tags,
choices-same : (word s : ℕ) (tags : List ℕ) → choices_by word s tags ≡ row_choices word (rows_under tags s)
unfolding choices_by choice_by row_choices row_choice rows_under
choices-same word s tags = sym (map-map (row_choice word) (row_of s) tags)

-- so that the least word by the rows is the group's.
pub least_word-rows : (tags : List ℕ) (s : ℕ) → least_word tags s ≡ least_of_rows 32 (group_under tags s) (rows_under tags s)
unfolding least_word least_of_rows word_fills rows_fill
least_word-rows tags s =
    first_cong (word_fills tags s) (rows_fill (group_under tags s) (rows_under tags s)) tag_end
    (λ word lt. rw (choices-same word s tags))

-- A row of the list has 32 bits.
row_below : (tags : List ℕ) (s i : ℕ) → get_or (rows_under tags s) i 0 < tag_end
unfolding rows_under row_of
row_below [] s i = omega arith
row_below (t ∷ tags) s zero = product-below _ t
row_below (t ∷ tags) s (suc i) = row_below tags s i

-- An array with the rows laid into it
module _
    (tags : List ℕ) (s : ℕ) (before : List ℕ) {rows : List ℕ} (few : length tags ≤ group_max) (size : length before ≡ group_max)
    (laid : rows ≡ rows_into tags s before) where
  each : length (rows_under tags s) ≡ length tags
  unfolding rows_under
  each = length-map tags (row_of s)

  -- has as many cells as before,
  pub rows-cells : length rows ≡ group_max
  unfolding rows_into
  rows-cells = rw laid (simp (length-append, length-drop) (omega (arith, each)))

  -- the rows of the tags,
  pub rows_taken : take (length tags) rows ≡ rows_under tags s
  unfolding rows_into
  rows_taken = rw laid (take_at (rows_under tags s) (drop (length tags) before) (length tags) each)

  -- and they have 32 bits.
  pub rows-below : (i : ℕ) → i < length tags → get_or rows i 0 < tag_end
  rows-below i lt = rw (← get_or-take (length tags) rows i 0 lt, rows_taken) (row_below tags s i)

  -- With the group's candidate places they state its keys.
  pub group-stated : (cells : List ℕ) {places : List ℕ} → length cells ≡ 2 * group_max → places ≡ laid_into (group_under tags s) cells
      → Stated (length tags) places rows
  group-stated cells room own = record {
    few = few;
    size = group-cells tags s cells few room own;
    below = group-within tags s cells few room own;
    cells = rows-cells;
    fits = rows-below;
  }

  -- So the least word by the two arrays is the group's.
  pub least_word-arrays : (cells : List ℕ) {places : List ℕ} → length cells ≡ 2 * group_max → places ≡ laid_into (group_under tags s) cells
      → least_of_rows 32 (keys_of (length tags) places) (take (length tags) rows) ≡ least_word tags s
  least_word-arrays cells room own = rw (group-keys tags s cells few room own, rows_taken) (sym (least_word-rows tags s))

-- One row more behind those of the first i tags.
pub rows_more : (tags : List ℕ) (s i : ℕ) (before : List ℕ) → i < length tags → i < length before
    → set (rows_under (take i tags) s ++ drop i before) i (row_of s (get_or tags i 0))
    ≡ rows_under (take (i + 1) tags) s ++ drop (i + 1) before
unfolding rows_under
rows_more tags s i before lt room =
    written-front (map (row_of s) (take i tags)) before i (row_of s (get_or tags i 0))
    (length-map (take i tags) (row_of s) ∙ length-take-le i tags (omega arith)) room
    ∙ rw (add-one i, take-suc tags i 0 lt, map-append (row_of s) (take i tags) (get_or tags i 0 ∷ []), append_assoc)
