-- How far a search for the first index has come. Assumes nothing.
use Rattle.std.specs.Prelude.{◌≡◌, Bool, true, false, ℕ, ◌+◌, ◌≤◌, ◌<◌, None, Some}
use Rattle.std.proofs.Common.{◌∙◌, ap, add-one, arith}
use Rattle.lists.specs.First.{first, met_at}
use Rattle.lists.proofs.FirstLaws.{first-none, first_found}

-- A search that began at `from`, and that ends below the limit, has come to j: nothing before j passes the test.
pub record Searched (test : ℕ → Bool) (from limit j : ℕ) : Type 0 where
  pub above : from ≤ j
  pub within : j ≤ limit
  pub none_yet : first test j ≡ None

pub searched-start : (test : ℕ → Bool) (from limit : ℕ) → from ≤ limit → first test from ≡ None → Searched test from limit from
searched-start test from limit ascends e = record { above = omega arith; within = ascends; none_yet = e }

module _ (test : ℕ → Bool) (from limit j : ℕ) (searched : Searched test from limit j) where
  pub searched-turn : j < limit → test j ≡ false → Searched test from limit (j + 1)
  unfolding first met_at
  searched-turn lt fails = record {
    above = omega (arith, searched.above);
    within = omega arith;
    none_yet = rw (add-one, searched.none_yet, fails);
  }

  pub searched-found : j < limit → test j ≡ true → first test limit ≡ Some j
  searched-found lt holds = first_found test limit j lt holds (first-none test j searched.none_yet)

  pub searched-done : limit ≤ j → first test limit ≡ None
  searched-done ge = let end : limit ≡ j = omega (arith, searched.within) in ap (first test) end ∙ searched.none_yet
