-- The candidate places of a group's tags under a seed, laid into an array. Assumes nothing.
use Rattle.std.specs.Prelude.{ℕ, ◌*◌, ◌≤◌, ◌<◌, ◌≡◌, Bool, List, length}
use Rattle.std.proofs.Common.{arith}
use Rattle.refusal.specs.Limits.{group_max}
use Rattle.filling.specs.Separate.{key_place}
use Rattle.places.specs.Array.{entry_of, Candidates, keys_of, laid_into}
use Rattle.places.proofs.ArrayLaws.{laid-length, laid-entry, laid-keys}
use Rattle.group.specs.Group.{group_under}
use Rattle.group.proofs.GroupLaws.{group-size, group-below}

module _
    (tags : List ℕ) (s : ℕ) (before : List ℕ) {places : List ℕ} (few : length tags ≤ group_max) (cells : length before ≡ 2 * group_max)
    (laid : places ≡ laid_into (group_under tags s) before) where
  few-keys : length (group_under tags s) ≤ group_max
  few-keys = omega (arith, group-size tags s)

  -- As many cells as before.
  pub group-cells : length places ≡ 2 * group_max
  group-cells = laid-length (group_under tags s) before few-keys cells laid

  module _ (i : ℕ) (lt : i < length tags) (choice : Bool) where
    inside : i < length (group_under tags s)
    inside = omega (arith, group-size tags s)

    -- The place of tag i under a choice,
    pub group-place : entry_of places i choice ≡ key_place (group_under tags s) i choice
    group-place = laid-entry (group_under tags s) before few-keys cells laid i inside choice

    -- which is one of the group's places.
    pub group-within : entry_of places i choice < length tags
    group-within = rw group-place (group-below tags s i inside choice)

  -- Both places of each tag are places of a full group.
  pub group-candidates : Candidates places (length tags)
  group-candidates = record { size = group-cells; below = λ i lt choice. omega (arith, group-within i lt choice) }

  -- The array states the group's keys.
  pub group-keys : keys_of (length tags) places ≡ group_under tags s
  group-keys = rw (group-size tags s) at (laid-keys (group_under tags s) before few-keys cells laid)
