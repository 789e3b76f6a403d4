-- Lines of one tag each, one by one, and the cells that their tags are stored in, cell by cell. Assumes nothing.
use Rattle.std.specs.Prelude.{◌≡◌, ℕ, zero, suc, ◌+◌, ◌<◌, ◌≤◌, min, true, false, not, List, [], ◌∷◌, ◌++◌, length, take, drop, None, Some}
use Rattle.std.specs.Prelude.{slice_index, slice_set, refl, unwrap_or}
use Rattle.std.proofs.Common.{◌∙◌, ap, add-zero, add-one, take_at, le-leb}
use native.Mathlib.Omega.{arith}
use Rattle.std.proofs.Math.ListN.{length-append, length-drop, get_or-append}
use Rattle.std.proofs.lemmas.Bool.{lt-leb}
use Rattle.lists.specs.First.{is_some}
use Rattle.lists.proofs.WrittenLaws.{written-front}
use Rattle.text.specs.Line.{line_at, slot_line, list_line}
use Rattle.text.specs.TagLines.{tag_in, no_tag_from, tags_on, tags_stored}

-- A slot's line and a list's.
pub tag-slot : (line : List ℕ) → tag_in line ≡ slot_line line
unfolding tag_in slot_line
tag-slot line = refl

pub tag-list : (line : List ℕ) → tag_in line ≡ list_line line
unfolding tag_in list_line
tag-list line = refl

-- A line by what it reads as.
module _ (from : ℕ) (bytes : List ℕ) (k : ℕ) where
  pub line_before : k < from → no_tag_from from bytes k ≡ false
  unfolding no_tag_from
  line_before lt = rw (lt-leb from k lt)

  pub line-at : from ≤ k → no_tag_from from bytes k ≡ not (is_some (tag_in (line_at k bytes)))
  unfolding no_tag_from
  line-at le = rw (le-leb from k le)

  pub line-tag : {t : ℕ} → from ≤ k → tag_in (line_at k bytes) ≡ Some t → no_tag_from from bytes k ≡ false
  unfolding no_tag_from is_some
  line-tag le e = rw (le-leb from k le, e)

  pub line-no-tag : from ≤ k → tag_in (line_at k bytes) ≡ None → no_tag_from from bytes k ≡ true
  unfolding no_tag_from is_some
  line-no-tag le e = rw (le-leb from k le, e)

-- So many tags are so many, and one more is the next line's.
pub tags_on-length : (count k : ℕ) (bytes : List ℕ) → length (tags_on count k bytes) ≡ count
unfolding tags_on
tags_on-length zero k bytes = refl
tags_on-length (suc count) k bytes = ap suc (tags_on-length count (suc k) bytes)

tags_on-more : (count k : ℕ) (bytes : List ℕ)
    → tags_on (suc count) k bytes ≡ tags_on count k bytes ++ (unwrap_or (tag_in (line_at (k + count) bytes)) 0 ∷ [])
unfolding tags_on
tags_on-more zero k bytes = rw add-zero
tags_on-more (suc count) k bytes =
    let e : k + suc count ≡ suc k + count = omega arith in
    rw (e, tags_on-more count (suc k) bytes)

tags_on-at : (count k j : ℕ) (bytes : List ℕ) → j < count
    → slice_index (tags_on count k bytes) j ≡ unwrap_or (tag_in (line_at (k + j) bytes)) 0
unfolding tags_on
tags_on-at zero k j bytes lt = absurd (omega arith)
tags_on-at (suc count) k zero bytes lt = rw add-zero
tags_on-at (suc count) k (suc j) bytes lt =
    let e : k + suc j ≡ suc k + j = omega arith in
    rw e (tags_on-at count (suc k) j bytes (omega arith))

module _ (k : ℕ) (bytes before : List ℕ) where
  pub stored-none : tags_stored 0 k bytes before ≡ before
  unfolding tags_stored tags_on
  stored-none = let None : min 0 (length before) ≡ 0 = omega arith in rw None

  -- Where there is a cell for each tag.
  pub stored-fits : (n : ℕ) → n ≤ length before → tags_stored n k bytes before ≡ tags_on n k bytes ++ drop n before
  unfolding tags_stored
  stored-fits n fits = let all : min n (length before) ≡ n = omega arith in rw all

  pub stored-length : (n : ℕ) → length (tags_stored n k bytes before) ≡ length before
  unfolding tags_stored
  stored-length n =
      let stored = min n (length before) in
      length-append (tags_on stored k bytes) (drop stored before)
      ∙ omega (arith, tags_on-length stored k bytes, length-drop stored before)

  -- One tag more: it goes into its cell, or there is none for it.
  pub stored_more : (n t : ℕ) → n < length before → t ≡ unwrap_or (tag_in (line_at (k + n) bytes)) 0
      → slice_set (tags_stored n k bytes before) n t ≡ tags_stored (n + 1) k bytes before
  stored_more n t lt value =
      let more : tags_on (n + 1) k bytes ≡ tags_on n k bytes ++ (t ∷ []) =
      ap (λ (m : ℕ). tags_on m k bytes) (add-one n) ∙ tags_on-more n k bytes ∙ rw value in
      rw (stored-fits n (omega arith), stored-fits (n + 1) (omega arith), more)
      (written-front (tags_on n k bytes) before n t (tags_on-length n k bytes) lt)

  pub stored-full : (n : ℕ) → length before ≤ n → tags_stored n k bytes before ≡ tags_stored (n + 1) k bytes before
  unfolding tags_stored
  stored-full n ge = let same : min n (length before) ≡ min (n + 1) (length before) = omega arith in rw same

  -- The tags can be taken from the cells.
  pub stored-tags : (n : ℕ) → n ≤ length before → take n (tags_stored n k bytes before) ≡ tags_on n k bytes
  stored-tags n fits = rw (stored-fits n fits) (take_at (tags_on n k bytes) (drop n before) n (tags_on-length n k bytes))

  -- A cell holds the tag of its line.
  pub stored-holds : (n : ℕ) → n ≤ length before → (j : ℕ) → j < n
      → slice_index (tags_stored n k bytes before) j ≡ unwrap_or (tag_in (line_at (k + j) bytes)) 0
  stored-holds n fits j lt =
      rw (stored-fits n fits)
      (get_or-append (tags_on n k bytes) (drop n before) 0 j (omega (arith, tags_on-length n k bytes)) ∙ tags_on-at n k j bytes lt)
