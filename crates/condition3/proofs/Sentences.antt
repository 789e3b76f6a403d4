-- The buyer's sentences of Condition 3, derived from the record, one for each of its fields. They are written out from the definitions
-- and use none of the record's names but its own. Assumes nothing.
use Rattle.std.specs.Prelude.{◌≡◌, refl, ◌↔◌, Bool, true, false, not, List, ℕ, suc, ◌+◌, ◌*◌, ◌≤◌, ◌<◌, ltb, length, get_or, take}
use Rattle.std.proofs.Common.{sym, ◌∙◌, arith, ltb-true, ltb-false}
use Rattle.std.specs.Prelude.{Option, None, Some}
use Rattle.std.proofs.lemmas.Bool.{not-true, not-false}
use Rattle.refusal.specs.Limits.{tag_end, tags_max, groups_max, limit_max, group_max}
use Rattle.refusal.specs.Outcome.{Outcome, answered, refused}
use Rattle.lists.specs.First.{first, is_some}
use Rattle.lists.proofs.FirstLaws.{first_some, first-none, some-of-is_some, none-of-is_some}
use Rattle.text.specs.Line.{line_at, pair_line}
use Rattle.hash.specs.Formula.{group_of}
use Rattle.lists.specs.Occurs.{occurs}
use Rattle.filling.specs.Filling.{Fills}
use Rattle.filling.specs.Order.{ones, LowestDecides, NotAfter}
use Rattle.filling.proofs.TakenLaws.{not_after-ones, not_after-lowest}
use Rattle.group.specs.Group.{group_under, least_seed}
use Rattle.group.proofs.GroupLaws.{least_seed-some, least_seed-none}
use Rattle.image.specs.Lookup.{number, unknown, lookup_of}
use Rattle.numbering.specs.Members.{members, start_of}
use Rattle.numbering.specs.Number.{place_in, number_of}
use Rattle.numbering.specs.Plan.{planned_groups, planned_seed}
use Rattle.condition3.specs.Condition3.{LowestWithout, EarlierChecks, Serves, PlanningCondition3, Accepted, Condition3}

-- A sequence of choices that "makes a seed … give each of its tags a place of its own"; and that there is none.
abbrev pub Places : List ℕ → ℕ → ℕ → ℕ → List Bool → Type 0
Places tags groups g s choices = Fills (group_under (members groups g tags) s) choices

abbrev pub Nothing : List ℕ → ℕ → ℕ → ℕ → Type 0
Nothing tags groups g s = (choices : List Bool) → Places tags groups g s choices → ⊥

-- A seed below the limit "under which such a sequence exists".
abbrev pub Seed : List ℕ → ℕ → ℕ → ℕ → Type 0
Seed tags groups limit g = (s : ℕ) × (s < limit) × ((choices : List Bool) × Places tags groups g s choices)

module _ {tags : List ℕ} {groups limit room : ℕ} {plan : List ℕ} {answer : Outcome ℕ} {after : List ℕ}
    (c : Condition3 tags groups limit room plan answer after) where
  -- What holds of an accepted building. `size` is its answer, and the written image the buffer's first bytes, as many.
  module _ (size : ℕ) (e : answer ≡ answered size) where
    accepted : Accepted tags groups plan after size
    accepted = c.accepted size e

    served : Serves tags groups limit plan
    served = c.seeds.serves size e

    -- "the answer is its length": 11 × (1 + B + N).
    pub length-answered : size ≡ 11 * (1 + groups + length tags)
    length-answered = accepted.whole

    -- "the seed in the group's line of the written image" is that of the yielded plan,
    pub seed-in-line : (g : ℕ) → g < groups
        → line_at (suc g) (take size after) ≡ pair_line (start_of groups g tags) (planned_seed plan g)
    seed-in-line = accepted.line

    -- is one of "the seeds tried",
    pub seed-tried : (g : ℕ) → g < groups → planned_seed plan g < limit
    seed-tried = served.below-limit

    -- and the sequence taken under it gives each tag a place of its own,
    pub sequence : ℕ → List Bool
    sequence = accepted.choices

    pub sequence-places : (g : ℕ) → g < groups → Places tags groups g (planned_seed plan g) (sequence g)
    unfolding sequence
    sequence-places = accepted.fills

    -- and is the least such sequence:
    pub sequence-least : (g : ℕ) → g < groups → (other : List Bool) → Places tags groups g (planned_seed plan g) other
        → NotAfter (sequence g) other
    unfolding sequence
    sequence-least = accepted.least

    -- "the one with the fewest ones is now taken,
    pub sequence-fewest : (g : ℕ) → g < groups → (other : List Bool) → Places tags groups g (planned_seed plan g) other
        → ones (sequence g) ≤ ones other
    sequence-fewest g lt other places = not_after-ones (sequence g) other (sequence-least g lt other places)

    -- and only between equals does the lowest tag decide, 0 before 1".
    pub sequence-lowest : (g : ℕ) → g < groups → (other : List Bool) → Places tags groups g (planned_seed plan g) other
        → ones (sequence g) ≡ ones other → LowestDecides (sequence g) other
    sequence-lowest g lt other places = not_after-lowest (sequence g) other (sequence-least g lt other places)

    -- "No sequence of choices whatever … makes a seed that the builder passed over for that group give each of its tags a place of its
    -- own": passed over is what is lower than the seed in the group's line,
    pub passed-over-accepted : (g : ℕ) → g < groups → (s : ℕ) → s < planned_seed plan g → Nothing tags groups g s
    passed-over-accepted g lt = c.seeds.passed_over g (rw served.groups-are lt)

    -- A tag's number: "its group's start plus its place", under the seed and the sequence taken.
    pub number_for : ℕ → ℕ
    number_for t =
        let g = group_of groups t in
        start_of groups g tags + place_in (members groups g tags) (planned_seed plan g) (sequence g) t

    -- "each of its tags has exactly one of" the numbers below N,
    pub has-number : (t : ℕ) → occurs t tags ≡ true → number_for t < length tags
    unfolding sequence number_for number_of
    has-number = accepted.number-below

    -- "each number below N belongs to exactly one of its tags";
    pub belongs-to-one : (j : ℕ) → j < length tags
        → (t : ℕ) × (occurs t tags ≡ true) × (number_for t ≡ j) × ((u : ℕ) → occurs u tags ≡ true → number_for u ≡ j → u ≡ t)
    unfolding sequence number_for number_of
    belongs-to-one j lt = let one = accepted.number-once j lt in (one.tag, one.listed, one.number_is, one.only)

    -- "and for every tag there is, lookup in the written image answers the tag's number if it is in the list,
    pub listed_found : (t : ℕ) → t < tag_end → occurs t tags ≡ true → lookup_of (take size after) t ≡ answered (number (number_for t))
    unfolding sequence number_for number_of
    listed_found = accepted.listed

    -- and unknown if it is not."
    pub unlisted-unknown : (t : ℕ) → t < tag_end → occurs t tags ≡ false → lookup_of (take size after) t ≡ answered unknown
    unlisted-unknown = accepted.unlisted

    -- "If two tags came to one place, a blend would be computed with another tank's sulphur": lookup never gives one number for two.
    pub never-two : (t u j : ℕ) → t < tag_end → u < tag_end
        → lookup_of (take size after) t ≡ answered (number j) → lookup_of (take size after) u ≡ answered (number j) → t ≡ u
    never-two t u j wt wu ft fu =
        let (mt, nt) = holder t wt ft in
        let (mu, nu) = holder u wu fu in
        let below : j < length tags = rw nt at (has-number t mt) in
        let one = belongs-to-one j below in
        one.3 t mt nt ∙ sym (one.3 u mu nu)
      where
        holder : (t : ℕ) → t < tag_end → lookup_of (take size after) t ≡ answered (number j) → (occurs t tags ≡ true) × (number_for t ≡ j)
        holder t word found = go (occurs t tags) refl
          where
            go : (b : Bool) → occurs t tags ≡ b → (occurs t tags ≡ true) × (number_for t ≡ j)
            go true m = let l = listed_found t word m in (m, cc)
            go false m = let l = unlisted-unknown t word m in absurd (let z : ◌≡◌ {A = ℕ} 0 1 = cc in omega arith)

  -- "a seed lower than the group's seed in the yielded plan is passed over too, even if writing refuses",
  pub passed-over-planned : (g : ℕ) → g < planned_groups plan → (s : ℕ) → s < planned_seed plan g → Nothing tags groups g s
  passed-over-planned = c.seeds.passed_over

  -- "or, where refusal 7 names the group, lower than L": every seed below the limit is passed over then.
  pub passed-over-refused : (g : ℕ) → answer ≡ refused 7 g → (s : ℕ) → s < limit → Nothing tags groups g s
  passed-over-refused = c.seeds.no-seed

  -- "A list that passes all earlier checks": 8, 4, 5, 6, 17 and 10, whatever the buffer.
  module _ (groups-legal : (1 ≤ groups) × (groups ≤ groups_max)) (limit-legal : (1 ≤ limit) × (limit ≤ limit_max))
      (count-legal : length tags ≤ tags_max)
      (ascending : (i : ℕ) → suc i < length tags → get_or tags i 0 < get_or tags (suc i) 0)
      (wired : 0 < length tags → 0 < get_or tags 0 0)
      (small : (g : ℕ) → g < groups → length (members groups g tags) ≤ group_max) where
    checks : EarlierChecks tags groups limit
    checks = record {
      groups-legal = groups-legal;
      limit-legal = limit-legal;
      count-legal = count-legal;
      ascending = ascending;
      wired = wired;
      groups-small = small;
    }

    -- The refusal with 7 at a group, by that group and those below it.
    pub refused-exactly : (g : ℕ) → (answer ≡ refused 7 g)
        ↔ ((g < groups) × ((s : ℕ) → s < limit → Nothing tags groups g s) × ((h : ℕ) → h < g → Seed tags groups limit h))
    refused-exactly g = (
      λ is.
          let low = (c.seeds.refused-7 checks g).0 is in
          (low.group, low.without, λ h lt. let has = low.lower h lt in (has.seed, has.below, (has.choices, has.fills))),
      λ low.
          (c.seeds.refused-7 checks g).1
          (record {
            group = low.0;
            without = low.1;
            lower = λ h lt. let has = low.2 h lt in record { seed = has.0; below = has.1; choices = has.2.0; fills = has.2.1 };
          }),
    )

    -- where every group has one, the yielded plan has a seed tried for each group, under which such a sequence exists,
    module _ (every : (g : ℕ) → g < groups → Seed tags groups limit g) where
      not-without : (g : ℕ) → LowestWithout groups tags limit g → ⊥
      not-without g low = let has = every g low.group in low.without has.0 has.1 has.2.0 has.2.1

      pub planned-otherwise : (planned_groups plan ≡ groups)
          × ((g : ℕ) → g < groups
          → (planned_seed plan g < limit) × ((choices : List Bool) × Places tags groups g (planned_seed plan g) choices))
      planned-otherwise =
          let serves = c.seeds.otherwise-serves checks not-without in
          (serves.groups-are, λ g lt. (serves.below-limit g lt, (serves.serving g, serves.served g lt)))

      -- and the list is accepted if the image fits the buffer, and refused with 9 if it does not.
      pub accepted-otherwise : 11 * (1 + groups + length tags) ≤ room → answer ≡ answered (11 * (1 + groups + length tags))
      accepted-otherwise = c.otherwise checks not-without

      pub short-otherwise : room < 11 * (1 + groups + length tags) → answer ≡ refused 9 0
      short-otherwise = c.too_short checks not-without

    -- A group has such a seed, or it has none: the search for the least decides it.
    seed-of : (g : ℕ) {s : ℕ} → least_seed (members groups g tags) limit ≡ Some s → Seed tags groups limit g
    seed-of g {s} e = let found = least_seed-some (members groups g tags) limit e in (s, found.below, (_, found.fills))

    without-of : (g : ℕ) → least_seed (members groups g tags) limit ≡ None → (s : ℕ) → s < limit → Nothing tags groups g s
    without-of g e = least_seed-none (members groups g tags) limit e

    -- "is refused for want of a seed exactly when some group has no seed below the limit under which such a sequence exists,
    pub refused-for-want : ((g : ℕ) × (answer ≡ refused 7 g)) ↔ ((g : ℕ) × (g < groups) × (Seed tags groups limit g → ⊥))
    refused-for-want = (
      λ is.
          let (below, without, lower) = (refused-exactly is.0).0 is.1 in
          (is.0, below, λ has. without has.0 has.1 has.2.0 has.2.1),
      λ has-none. lowest has-none.0 has-none.1 has-none.2 (first test groups) refl,
    )
      where
        test : ℕ → Bool
        test g = not (is_some (least_seed (members groups g tags) limit))

        lowest : (g : ℕ) → g < groups → (Seed tags groups limit g → ⊥) → (o : Option ℕ) → first test groups ≡ o
            → (g : ℕ) × (answer ≡ refused 7 g)
        lowest g lt without None e =
            let has = some-of-is_some _ (not-false _ (first-none test groups e g lt)) in
            absurd (without (seed-of g has.1))
        lowest g lt without (Some k) e =
            let at = first_some test groups e in (
              k,
              (refused-exactly k).1 (
                at.below,
                without-of k (none-of-is_some _ (not-true _ at.holds)),
                λ h below. seed-of h (some-of-is_some _ (not-false _ (at.lowest h below))).1,
              ),
            )

    -- and the refusal names the lowest such group."
    pub names-lowest : (g : ℕ) → answer ≡ refused 7 g
        → (g < groups) × (Seed tags groups limit g → ⊥) × ((h : ℕ) → (Seed tags groups limit h → ⊥) → g ≤ h)
    names-lowest g is =
        let (below, without, lower) = (refused-exactly g).0 is in
        (below, λ has. without has.0 has.1 has.2.0 has.2.1, λ h none-there. not_lower lower h none-there (ltb h g) refl)
      where
        not_lower : ((h : ℕ) → h < g → Seed tags groups limit h) → (h : ℕ) → (Seed tags groups limit h → ⊥)
            → (b : Bool) → ltb h g ≡ b → g ≤ h
        not_lower lower h none-there true e = absurd (none-there (lower h (ltb-true h g e)))
        not_lower lower h none-there false e = ltb-false h g e

-- Of planning by itself: a list that passes all earlier checks, each group of which has such a seed, is planned.
pub planned-answered : {tags : List ℕ} {groups limit : ℕ} {plan : List ℕ} {answer : Outcome ℕ}
    → PlanningCondition3 tags groups limit answer plan → EarlierChecks tags groups limit
    → ((g : ℕ) → g < groups → Seed tags groups limit g) → answer ≡ answered groups
planned-answered p checks every =
    p.otherwise checks (λ g low. let has = every g low.group in low.without has.0 has.1 has.2.0 has.2.1)
