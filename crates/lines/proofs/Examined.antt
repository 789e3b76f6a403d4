-- What the loop over lines of one tag each keeps. Assumes nothing.
use mathlib.Core.Path.{◌≡◌, sym, ◌∙◌}
use mathlib.Core.Logic.{◌⊎◌, inl, inr}
use mathlib.Core.List.{List}
use Rattle.std.specs.Prelude.{None, Some}
use Prim.Native.Nat.{ℕ, ◌+◌, ◌-◌, ◌≤◌, ◌<◌}
use native.Mathlib.Omega.{arith}
use lib.ListN.{length, set}
use Rattle.lists.specs.First.{first}
use Rattle.lists.proofs.FirstLaws.{first_out}
use Rattle.lists.proofs.SearchLaws.{Searched, searched-start, searched-turn, searched-found}
use Rattle.text.specs.Line.{line_at}
use Rattle.text.specs.TagLines.{tag_in, no_tag_from, tags_stored}
use Rattle.text.proofs.TagLinesLaws.{line_before, line-tag, line-no-tag, stored-none, stored_more, stored-full}

-- The lines before line k are tags', as far as they are looked at, and the tags are stored.
pub record Examined (bytes : List ℕ) (from end : ℕ) (before cells : List ℕ) (k : ℕ) : Type 0 where
  pub searched : Searched (no_tag_from from bytes) from end k
  pub cells_are : cells ≡ tags_stored (k - from) from bytes before

pub examined-start : (bytes : List ℕ) (from end : ℕ) (before : List ℕ) → from ≤ end → Examined bytes from end before before from
examined-start bytes from end before ascends =
    let None : from - from ≡ 0 = omega arith in
    record {
      searched = searched-start (no_tag_from from bytes) from end ascends
          (first_out (no_tag_from from bytes) from (line_before from bytes));
      cells_are = sym (rw None (stored-none from bytes before));
    }

-- The tag of line k goes into its cell, or there is none for it.
pub examined-turn : {bytes : List ℕ} {from end : ℕ} {before cells after : List ℕ} {k t : ℕ} → Examined bytes from end before cells k
    → k < end → tag_in (line_at k bytes) ≡ Some t
    → ((k - from < length before) × (after ≡ set cells (k - from) t)) ⊎ ((length before ≤ k - from) × (after ≡ cells))
    → Examined bytes from end before after (k + 1)
examined-turn {bytes} {from} {end} {before} {cells} {after} {k} {t} e lt reads came = record {
  searched = searched-turn (no_tag_from from bytes) from end k e.searched lt (line-tag from bytes k e.searched.above reads);
  cells_are = go came;
}
  where
    next : k - from + 1 ≡ k + 1 - from
    next = omega (arith, e.searched.above)

    here : from + (k - from) ≡ k
    here = omega (arith, e.searched.above)

    go : ((k - from < length before) × (after ≡ set cells (k - from) t)) ⊎ ((length before ≤ k - from) × (after ≡ cells))
        → after ≡ tags_stored (k + 1 - from) from bytes before
    go (inl (fits, is)) = is ∙ rw (e.cells_are, ← next) (stored_more from bytes before (k - from) t fits (rw (here, reads)))
    go (inr (full, is)) = is ∙ e.cells_are ∙ rw (← next) (stored-full from bytes before (k - from) full)

-- Line k is the first that is no tag's.
pub examined-found : {bytes : List ℕ} {from end : ℕ} {before cells : List ℕ} {k : ℕ} → Examined bytes from end before cells k
    → k < end → tag_in (line_at k bytes) ≡ None → first (no_tag_from from bytes) end ≡ Some k
examined-found {bytes} {from} {end} {before} {cells} {k} e lt reads =
    searched-found (no_tag_from from bytes) from end k e.searched lt (line-no-tag from bytes k e.searched.above reads)
