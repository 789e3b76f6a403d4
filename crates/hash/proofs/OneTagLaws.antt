-- The four ways in which placing one tag ends. Assumes nothing.
use Rattle.std.specs.Prelude.{◌≡◌, true, false, ℕ, ◌≤◌, ◌<◌}
use borrow.Author.Tests.{lt-ltb, le-ltb}
use Rattle.refusal.specs.Limits.{group_max, seed_max, outside}
use Rattle.refusal.specs.Outcome.{answered, refused}
use Rattle.lists.specs.First.{met_at}
use Rattle.refusal.specs.Checks.{met, in_order}
use Rattle.hash.specs.Formula.{place_of}
use Rattle.hash.specs.OneTag.{one_tag_checks, place_of_one_tag}

module _ (n s c t : ℕ) where
  pub one-tag-size : outside 1 group_max n ≡ true → place_of_one_tag n s c t ≡ refused 1 0
  unfolding place_of_one_tag one_tag_checks in_order met met_at
  one-tag-size out = rw out

  module _ (in-range : outside 1 group_max n ≡ false) where
    pub one-tag-seed : seed_max < s → place_of_one_tag n s c t ≡ refused 2 0
    unfolding place_of_one_tag one_tag_checks in_order met met_at
    one-tag-seed above = rw (in-range, lt-ltb seed_max s above)

    pub one-tag-choice : s ≤ seed_max → 1 < c → place_of_one_tag n s c t ≡ refused 3 0
    unfolding place_of_one_tag one_tag_checks in_order met met_at
    one-tag-choice upto above = rw (in-range, le-ltb seed_max s upto, lt-ltb 1 c above)

    pub one-tag-place : s ≤ seed_max → c ≤ 1 → place_of_one_tag n s c t ≡ answered (place_of n s c t)
    unfolding place_of_one_tag one_tag_checks in_order met met_at
    one-tag-place upto choice = rw (in-range, le-ltb seed_max s upto, le-ltb 1 c choice)
