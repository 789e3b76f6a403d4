-- What the loop over the groups keeps. Assumes nothing.
use mathlib.Core.Path.{◌≡◌, refl, ap}
use mathlib.Core.List.{List}
use Rattle.std.specs.Prelude.{Option, None, Some, unwrap_or}
use Prim.Native.Nat.{ℕ, ◌+◌, ◌-◌, ◌≤◌, ◌<◌}
use native.Mathlib.Numerals.{add-one}
use native.Mathlib.Omega.{arith}
use lib.ListN.{length, get_or, set, take, drop}
use Rattle.refusal.specs.Limits.{group_max}
use Rattle.lists.specs.First.{first, is_some}
use Rattle.lists.proofs.SearchLaws.{Searched, searched-start, searched-turn, searched-found, searched-done}
use Rattle.lists.specs.UpTo.{up_to}
use Rattle.numbering.specs.Parts.{part_start, part_of}
use Rattle.numbering.proofs.PartsLaws.{part-is}
use Rattle.plan.specs.SeedsLaws.{stored_more}
use Rattle.tagless_group.specs.Words.{worded_seed}
use Rattle.tagless_plan.specs.Words.{unworded, part_seed, part_word, stored_up_to, Searchable}

-- The groups below g have their seeds and words, and the next part begins at `start`.
pub record FoundUpTo (groups : ℕ) (ordered ends : List ℕ) (limit : ℕ) (seeds₀ words₀ seeds words : List ℕ) (start g : ℕ) : Type 0 where
  pub searched : Searched (unworded ordered ends limit) 0 groups g
  pub start_is : start ≡ part_start ends g
  pub seeds-are : seeds ≡ stored_up_to (part_seed ordered ends limit) g seeds₀
  pub words_are : words ≡ stored_up_to (part_word ordered ends limit) g words₀

pub found-start : (groups : ℕ) (ordered ends : List ℕ) (limit : ℕ) (seeds₀ words₀ : List ℕ)
    → FoundUpTo groups ordered ends limit seeds₀ words₀ seeds₀ words₀ 0 0
unfolding first part_start stored_up_to up_to
found-start groups ordered ends limit seeds₀ words₀ = record {
  searched = searched-start (unworded ordered ends limit) 0 groups (omega arith) refl;
  start_is = refl;
  seeds-are = refl;
  words_are = refl;
}

module _ {groups limit : ℕ} {ordered ends seeds₀ words₀ seeds words : List ℕ} {start g : ℕ} (p : Searchable groups ordered ends limit)
    (done : FoundUpTo groups ordered ends limit seeds₀ words₀ seeds words start g) (lt : g < groups) where
  -- The slice that is handed over is the group's part.
  abbrev part : List ℕ
  part = take (get_or ends g 0 - start) (drop start ordered)

  own : {o : Option (ℕ × ℕ)} → worded_seed part limit ≡ o → worded_seed (part_of ordered ends g) limit ≡ o
  own e = rw (part-is p.parts g done.start_is) at e

  -- The seed and the word found are the group's,
  pub found_turn : {seed word : ℕ} → worded_seed part limit ≡ Some (seed, word) → g < length seeds₀ → g < length words₀
      → FoundUpTo groups ordered ends limit seeds₀ words₀ (set seeds g seed) (set words g word) (get_or ends g 0) (g + 1)
  unfolding unworded is_some part_start part_seed part_word stored_up_to
  found_turn {seed} {word} e cell cell' =
      let found = own e in
      let seed-is : part_seed ordered ends limit g ≡ seed = ap (λ (o : Option (ℕ × ℕ)). (unwrap_or o (0, 0)).0) found in
      let word-is : part_word ordered ends limit g ≡ word = ap (λ (o : Option (ℕ × ℕ)). (unwrap_or o (0, 0)).1) found in
      record {
        searched = searched-turn (unworded ordered ends limit) 0 groups g done.searched lt (rw found);
        start_is = rw (add-one g);
        seeds-are = stored_more (part_seed ordered ends limit) g seeds₀ seeds cell done.seeds-are seed-is;
        words_are = stored_more (part_word ordered ends limit) g words₀ words cell' done.words_are word-is;
      }

  -- and where there is none, this is the lowest group without one.
  pub found-without : worded_seed part limit ≡ None → first (unworded ordered ends limit) groups ≡ Some g
  unfolding unworded is_some
  found-without e = searched-found (unworded ordered ends limit) 0 groups g done.searched lt (rw (own e))

  pub part-few : length part ≤ group_max
  part-few = rw (part-is p.parts g done.start_is) (p.few g lt)

-- When all groups are searched, each has its seed and word.
pub found-done : {groups limit : ℕ} {ordered ends seeds₀ words₀ seeds words : List ℕ} {start g : ℕ}
    → FoundUpTo groups ordered ends limit seeds₀ words₀ seeds words start g → groups ≤ g
    → (first (unworded ordered ends limit) groups ≡ None) × (seeds ≡ stored_up_to (part_seed ordered ends limit) groups seeds₀)
    × (words ≡ stored_up_to (part_word ordered ends limit) groups words₀)
found-done {groups} {limit} {ordered} {ends} {g = g} done past =
    let all : g ≡ groups = omega (arith, done.searched.within) in (
      searched-done (unworded ordered ends limit) 0 groups g done.searched past,
      rw all at done.seeds-are,
      rw all at done.words_are,
    )
