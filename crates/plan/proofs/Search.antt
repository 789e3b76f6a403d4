-- What the loop over the groups keeps. Assumes nothing.
use mathlib.Core.Path.{◌≡◌, refl}
use mathlib.Core.List.{List}
use Rattle.std.specs.Prelude.{None, Some}
use Prim.Native.Nat.{ℕ, ◌+◌, ◌-◌, ◌≤◌, ◌<◌}
use native.Mathlib.Numerals.{add-one}
use native.Mathlib.Omega.{arith}
use lib.ListN.{length, get_or, set, take, drop}
use Rattle.refusal.specs.Outcome.{answered, refused}
use Rattle.lists.specs.First.{first, is_some}
use Rattle.lists.proofs.SearchLaws.{Searched, searched-start, searched-turn, searched-found, searched-done}
use Rattle.lists.specs.UpTo.{up_to}
use Rattle.numbering.specs.Parts.{part_start, part_of}
use Rattle.numbering.proofs.PartsLaws.{part-is}
use Rattle.plan.specs.Seeds.{unseeded, part_seed, seeds_found, Plannable}
use Rattle.plan.specs.SeedsLaws.{seed_placed, placed-seed, refused-seedless, found-more}

-- The groups below g have their seeds, and the next part begins at `start`.
pub record FoundUpTo (groups : ℕ) (ordered ends : List ℕ) (limit : ℕ) (seeds₀ seeds : List ℕ) (start g : ℕ) : Type 0 where
  pub searched : Searched (unseeded ordered ends limit) 0 groups g
  pub start_is : start ≡ part_start ends g
  pub seeds-are : seeds ≡ seeds_found ordered ends limit g seeds₀

pub found-start : (groups : ℕ) (ordered ends : List ℕ) (limit : ℕ) (seeds₀ : List ℕ)
    → FoundUpTo groups ordered ends limit seeds₀ seeds₀ 0 0
unfolding first part_start seeds_found up_to
found-start groups ordered ends limit seeds₀ = record {
  searched = searched-start (unseeded ordered ends limit) 0 groups (omega arith) refl;
  start_is = refl;
  seeds-are = refl;
}

module _ {groups limit : ℕ} {ordered ends seeds₀ seeds : List ℕ} {start g : ℕ} (p : Plannable groups ordered ends limit)
    (done : FoundUpTo groups ordered ends limit seeds₀ seeds start g) (lt : g < groups) where
  -- The slice that is handed over is the group's part.
  abbrev part : List ℕ
  part = take (get_or ends g 0 - start) (drop start ordered)

  -- Where placing answers a seed it is the group's,
  pub found_turn : {seed : ℕ} → seed_placed part limit ≡ answered seed → g < length seeds₀
      → FoundUpTo groups ordered ends limit seeds₀ (set seeds g seed) (get_or ends g 0) (g + 1)
  unfolding unseeded is_some part_start part_seed
  found_turn {seed} e cell =
      let own = rw (part-is p.parts g done.start_is) at e in
      let found = placed-seed (part_of ordered ends g) limit own in
      record {
        searched = searched-turn (unseeded ordered ends limit) 0 groups g done.searched lt (rw found);
        start_is = rw (add-one g);
        seeds-are = found-more ordered ends limit g seeds₀ seeds cell done.seeds-are (rw found);
      }

  -- and where it refuses, this is the lowest group without one.
  pub found-without : {number place : ℕ} → seed_placed part limit ≡ refused number place
      → first (unseeded ordered ends limit) groups ≡ Some g
  unfolding unseeded is_some
  found-without e =
      let own = rw (part-is p.parts g done.start_is) at e in
      let nothing =
      refused-seedless (part_of ordered ends g) limit p.limit-legal (p.few g lt) (p.ascending g lt) (p.wired g lt) own in
      searched-found (unseeded ordered ends limit) 0 groups g done.searched lt (rw nothing)

-- When all groups are searched, each has its seed.
pub found-done : {groups limit : ℕ} {ordered ends seeds₀ seeds : List ℕ} {start g : ℕ}
    → FoundUpTo groups ordered ends limit seeds₀ seeds start g → groups ≤ g
    → (first (unseeded ordered ends limit) groups ≡ None) × (seeds ≡ seeds_found ordered ends limit groups seeds₀)
found-done {groups} {limit} {ordered} {ends} {seeds₀} {seeds} {start} {g} done past =
    let all : g ≡ groups = omega (arith, done.searched.within) in
    (searched-done (unseeded ordered ends limit) 0 groups g done.searched past, rw all at done.seeds-are)
