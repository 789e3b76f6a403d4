-- What the loops of `tagless_seeds::least_worded_seed` keep true. Assumes nothing.
use Prim.Native.Nat.{ℕ, ◌*◌, ◌≤◌, ◌<◌}
use mathlib.Core.Path.{◌≡◌}
use mathlib.Core.List.{List}
use lib.ListN.{length}
use Rattle.refusal.specs.Limits.{group_max}
use Rattle.tagless_group.proofs.WordsLaws.{NoWord}
use Rattle.tagless_seeds.proofs.least_worded_seed.Given as goal

-- No seed below `next` has a word, and the two arrays have their cells.
pub record Passed (tags : List ℕ) (limit : ℕ) (places rows : List ℕ) (next : ℕ) : Type 0 where
  pub upto : next ≤ limit
  pub nothing : (t : ℕ) → t < next → NoWord tags t
  pub places-size : length places ≡ 2 * group_max
  pub rows-size : length rows ≡ group_max

abbrev pub invariant-loop-seed : goal.invariant-loop-seed
invariant-loop-seed l = Passed l.tags l.limit l.places l.rows l.seed
