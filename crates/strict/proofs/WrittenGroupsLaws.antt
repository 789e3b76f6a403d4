-- The groups of the image that building writes for a list: seed and slots are those that each group's tags are given, whatever the
-- limit. Assumes nothing.
use Rattle.std.specs.Prelude.{ℕ, suc, ◌+◌, ◌-◌, ◌<◌, ◌≡◌, Bool, true, List, unwrap_or}
use Rattle.std.proofs.Math.Path.{sym, ap}
use Rattle.std.proofs.Common.{◌∙◌, arith}
use Rattle.std.proofs.Math.ListN.{length}
use Rattle.refusal.specs.Limits.{tag_end, limit_max}
use Rattle.refusal.specs.Outcome.{answered}
use Rattle.lists.proofs.FirstLaws.{first-none}
use Rattle.lists.specs.Occurs.{occurs}
use Rattle.lists.proofs.UpToLaws.{up_to-agree}
use Rattle.group.specs.Group.{taken}
use Rattle.group.proofs.GroupLaws.{least_seed-only}
use Rattle.image.specs.View.{View, view_of, count_in, groups_in, start_in, seed_in, end_in, slot_in}
use Rattle.image.proofs.CheckedLookupLaws.{slot_in-reads}
use Rattle.image.specs.Checking.{checking_of}
use Rattle.numbering.specs.Members.{members, start_of}
use Rattle.numbering.proofs.MembersLaws.{start-all, start-suc, start-before}
use Rattle.numbering.specs.Number.{place_in, tag_numbered}
use Rattle.numbering.specs.GroupSlots.{group_slots}
use Rattle.numbering.proofs.SlotsLaws.{slot-of-place, slot_is}
use Rattle.numbering.specs.Planning.{planning_of, seed_taken, seedless}
use Rattle.numbering.proofs.PlanningLaws.{planning-says, seed-least}
use Rattle.numbering.specs.Writing.{sheet_of, choices_under}
use Rattle.numbering.specs.Building.{choices_taken, image_of}
use Rattle.condition3_theorem.specs.BuiltLaws.{Reads, count-is, groups-is, start_is, seed-is, end_is, slot_is as slot_read}
use Rattle.condition3_theorem.specs.Condition3Theorem.{Seeded, seeded-taken, seeded-checked, reads, absent, earlier-of-pass}
use Rattle.strict.specs.AsBuilt.{seed_given, slots_given, slots_in}

module _ (tags : List ℕ) (groups limit : ℕ) (words : (t : ℕ) → occurs t tags ≡ true → t < tag_end)
    (planned : planning_of tags groups limit ≡ answered groups) where
  abbrev seed : ℕ → ℕ
  seed = seed_taken groups tags limit

  abbrev choices : ℕ → List Bool
  choices = choices_taken groups tags limit

  abbrev w : View
  w = view_of (image_of groups tags limit)

  seeded : Seeded tags groups seed
  seeded = seeded-taken tags groups limit planned

  stated : Reads w (sheet_of groups tags seed choices)
  stated = reads words seeded

  pub written-checked : checking_of (image_of groups tags limit) ≡ answered 0
  written-checked = seeded-checked words seeded

  -- The numbers that the image states.
  pub written_count : count_in w ≡ length tags
  written_count = count-is stated seeded.fill seeded.groups-small (absent words seeded)

  pub written-groups : groups_in w ≡ groups
  written-groups = groups-is stated seeded.fill seeded.groups-small (absent words seeded)

  pub written_start : (g : ℕ) → g < groups → start_in w g ≡ start_of groups g tags
  written_start = start_is stated seeded.fill seeded.groups-small (absent words seeded)

  pub written-end : (g : ℕ) → g < groups → end_in w g ≡ start_of groups (suc g) tags
  written-end = end_is stated seeded.fill seeded.groups-small (absent words seeded)

  -- The least seed below the limit is the least of all.
  pub seed-is-given : (g : ℕ) → g < groups → seed g ≡ seed_given (members groups g tags)
  unfolding seed_taken seed_given
  seed-is-given g lt =
      let own = members groups g tags in
      let least = seed-least tags groups limit g
      (first-none (seedless groups tags limit) groups (planning-says tags groups limit planned).1 g lt) in
      let most = (earlier-of-pass tags groups limit (planning-says tags groups limit planned).0).limit-legal.1 in
      sym (ap (λ o. unwrap_or o 0)
      (least_seed-only own limit_max (seed g) (taken own (seed g)) (omega (arith, least.below, most)) least.fills least.passed))

  pub written-seed : (g : ℕ) → g < groups → seed_in w g ≡ seed_given (members groups g tags)
  written-seed g lt = seed-is stated seeded.fill seeded.groups-small (absent words seeded) g lt ∙ seed-is-given g lt

  -- The slots of a group are those of its tags under that seed.
  pub written-slots : (g : ℕ) → g < groups → slots_in w g ≡ slots_given (members groups g tags)
  unfolding slots_in slots_given group_slots choices_under
  written-slots g lt =
      let own = members groups g tags in
      let size : end_in w g - start_in w g ≡ length own = omega (arith, written_start g lt, written-end g lt, start-suc groups g tags) in
      rw (size, ← seed-is-given g lt)
      (up_to-agree (length own) (λ p. slot_in w (start_in w g + p)) (tag_numbered (place_in own (seed g) (choices g)) own) (λ p inside.
      let last = start-before groups (suc g) groups tags lt in
      let below : start_of groups g tags + p < length tags =
      omega (arith, inside, start-suc groups g tags, last, start-all groups tags seeded.fill.some-group) in
      let read = slot_read stated seeded.fill seeded.groups-small (absent words seeded) (start_of groups g tags + p) below in
      ap (λ (s : ℕ). slot_in w (s + p)) (written_start g lt)
      ∙ slot_in-reads w (start_of groups g tags + p) read
      ∙ slot-of-place seeded.fill g p lt inside
      ∙ slot_is own (seed g) (choices g) p inside))
