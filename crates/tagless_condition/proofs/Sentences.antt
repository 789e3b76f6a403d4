-- The sentences of document 02, §5, and of its issue derived from the record, one for each of its fields. They are written out from the
-- definitions and use none of the record's names but its own. Assumes nothing.
use Rattle.std.specs.Prelude.{◌≡◌, refl, ◌↔◌, Bool, true, false, not, List, ℕ, suc, ◌+◌, ◌*◌, ◌≤◌, ◌<◌, ltb, length, get_or, take}
use Rattle.std.proofs.Common.{sym, ◌∙◌, ltb-true, ltb-false}
use Rattle.std.specs.Prelude.{Option, None, Some}
use Rattle.std.proofs.lemmas.Bool.{not-true, not-false}
use Rattle.refusal.specs.Limits.{tag_end, tags_max, groups_max, limit_max, group_max, unwired}
use Rattle.refusal.specs.Outcome.{Outcome, answered, refused}
use Rattle.lists.specs.First.{first, is_some}
use Rattle.lists.proofs.FirstLaws.{first_some, first-none, some-of-is_some, none-of-is_some}
use Rattle.lists.specs.Occurs.{occurs}
use Rattle.hash.specs.Formula.{group_of, place_of}
use Rattle.text.specs.Line.{line_at, pair_line}
use Rattle.word_line.specs.WordLine.{word_line}
use Rattle.filling.specs.Filling.{Fills}
use Rattle.filling.specs.Word.{choice_number}
use Rattle.group.specs.Group.{group_under}
use Rattle.image.specs.Lookup.{number, unknown}
use Rattle.numbering.specs.Members.{members, start_of}
use Rattle.tagless_group.specs.Words.{choice_by, choices_by, worded_seed}
use Rattle.tagless_group.proofs.WordsLaws.{worded_seed-some, worded_seed-none}
use Rattle.tagless_image.specs.View.{group_line_at}
use Rattle.tagless_image.specs.Checking.{tagless_checking_of}
use Rattle.tagless_image.specs.Lookup.{tagless_lookup_of}
use Rattle.tagless.specs.Number.{tagless_number}
use Rattle.tagless_condition.specs.Condition.{TaglessEarlierChecks, TaglessAccepted, TaglessCondition}

-- A word that "makes the group's places all different" under a seed; and that no word of 32 bits does.
abbrev pub Places : List ℕ → ℕ → ℕ → ℕ → ℕ → Type 0
Places tags groups g s word = let own = members groups g tags in Fills (group_under own s) (choices_by word s own)

abbrev pub Nothing : List ℕ → ℕ → ℕ → ℕ → Type 0
Nothing tags groups g s = (word : ℕ) → word < tag_end → Places tags groups g s word → ⊥

-- A seed below the limit that has such a word.
abbrev pub Seed : List ℕ → ℕ → ℕ → ℕ → Type 0
Seed tags groups limit g = (s : ℕ) × (s < limit) × ((word : ℕ) × (word < tag_end) × Places tags groups g s word)

module _ {tags : List ℕ} {groups limit room : ℕ} {answer : Outcome ℕ} {after : List ℕ}
    (c : TaglessCondition tags groups limit room answer after) where
  -- What holds of an accepted building. `size` is its answer, and the written image the buffer's first bytes, as many.
  module _ (size : ℕ) (e : answer ≡ answered size) where
    accepted : TaglessAccepted tags groups limit after size
    accepted = c.accepted size e

    -- "so the length is 11 + 21 × B",
    pub length-answered : size ≡ 11 + 21 * groups
    length-answered = accepted.whole

    -- "Line 0 is as before",
    pub first-line : line_at 0 (take size after) ≡ pair_line (length tags) groups
    first-line = accepted.header

    -- each group line has the group's start, a seed below L and a word of 32 bits,
    pub seed_of : ℕ → ℕ
    seed_of = accepted.seed

    pub word_of : ℕ → ℕ
    word_of = accepted.word

    pub group-line : (g : ℕ) → g < groups → group_line_at g (take size after) ≡ word_line (start_of groups g tags) (seed_of g) (word_of g)
    unfolding seed_of word_of
    group-line = accepted.line

    pub seed-tried : (g : ℕ) → g < groups → seed_of g < limit
    unfolding seed_of
    seed-tried = accepted.seed-below

    pub word-of-32-bits : (g : ℕ) → g < groups → word_of g < tag_end
    unfolding word_of
    word-of-32-bits = accepted.word_below

    -- the word "makes the group's places all different",
    pub word-places : (g : ℕ) → g < groups → Places tags groups g (seed_of g) (word_of g)
    unfolding seed_of word_of
    word-places = accepted.fills

    -- under no lower seed does any word,
    pub lower-seeds : (g : ℕ) → g < groups → (s : ℕ) → s < seed_of g → Nothing tags groups g s
    unfolding seed_of
    lower-seeds = accepted.passed_over

    -- and under that seed no lower word does.
    pub lower-words : (g : ℕ) → g < groups → (w : ℕ) → w < word_of g → Places tags groups g (seed_of g) w → ⊥
    unfolding seed_of word_of
    lower-words = accepted.least-word

    -- A tag's number: its group's "start plus place for the choice so found".
    pub number_for : ℕ → ℕ
    number_for t =
        let g = group_of groups t in
        start_of groups g tags
        + place_of (length (members groups g tags)) (seed_of g) (choice_number (choice_by (word_of g) (seed_of g) t)) t

    -- "The listed tags get the numbers 0 to N-1, each once",
    pub has-number : (t : ℕ) → occurs t tags ≡ true → number_for t < length tags
    unfolding seed_of word_of number_for tagless_number
    has-number = accepted.number-below

    pub belongs-to-one : (j : ℕ) → j < length tags
        → (t : ℕ) × (occurs t tags ≡ true) × (number_for t ≡ j) × ((u : ℕ) → occurs u tags ≡ true → number_for u ≡ j → u ≡ t)
    unfolding seed_of word_of number_for tagless_number
    belongs-to-one j lt = let one = accepted.number-once j lt in (one.tag, one.listed, one.number_is, one.only)

    -- and lookup in the written bytes answers them.
    pub listed_found : (t : ℕ) → t < tag_end → occurs t tags ≡ true
        → tagless_lookup_of (take size after) t ≡ answered (number (number_for t))
    unfolding seed_of word_of number_for tagless_number
    listed_found = accepted.listed

    -- "a stranger's number is below N",
    pub stranger-below : (t : ℕ) → t < tag_end → (j : ℕ) → tagless_lookup_of (take size after) t ≡ answered (number j) → j < length tags
    stranger-below = accepted.stranger

    -- "unknown in an empty group
    pub empty-unknown : (t : ℕ) → t < tag_end → length (members groups (group_of groups t) tags) ≡ 0
        → tagless_lookup_of (take size after) t ≡ answered unknown
    empty-unknown = accepted.empty

    -- and for tag 0."
    pub unwired-unknown : tagless_lookup_of (take size after) unwired ≡ answered unknown
    unwired-unknown = accepted.nobody

    -- What building writes is accepted by checking.
    pub written-checked : tagless_checking_of (take size after) ≡ answered 0
    written-checked = accepted.checked

    -- No two listed tags come to one figure.
    pub never-two : (t u j : ℕ) → t < tag_end → u < tag_end → occurs t tags ≡ true → occurs u tags ≡ true
        → tagless_lookup_of (take size after) t ≡ answered (number j) → tagless_lookup_of (take size after) u ≡ answered (number j) → t ≡ u
    never-two t u j wt wu mt mu ft fu =
        let nt : number_for t ≡ j = (let l = listed_found t wt mt in cc) in
        let nu : number_for u ≡ j = (let l = listed_found u wu mu in cc) in
        let one = belongs-to-one j (rw nt at (has-number t mt)) in
        one.3 t mt nt ∙ sym (one.3 u mu nu)

  -- "For no group refused with 7 may a seed below the limit have a word of this kind."
  pub refused-without : (g : ℕ) → answer ≡ refused 7 g → (s : ℕ) → s < limit → Nothing tags groups g s
  refused-without = c.no_word

  -- A list that passes the earlier checks: 8, 4, 5, 6, 17, 9 and 10.
  module _ (groups-legal : (1 ≤ groups) × (groups ≤ groups_max)) (limit-legal : (1 ≤ limit) × (limit ≤ limit_max))
      (count-legal : length tags ≤ tags_max)
      (ascending : (i : ℕ) → suc i < length tags → get_or tags i 0 < get_or tags (suc i) 0)
      (wired : 0 < length tags → 0 < get_or tags 0 0)
      (fits : 11 + 21 * groups ≤ room)
      (small : (g : ℕ) → g < groups → length (members groups g tags) ≤ group_max) where
    checks : TaglessEarlierChecks tags groups limit room
    checks = record {
      inputs = record {
        groups-legal = groups-legal;
        limit-legal = limit-legal;
        count-legal = count-legal;
        ascending = ascending;
        wired = wired;
        groups-small = small;
      };
      fits = fits;
    }

    -- The refusal with 7 at a group, by that group and those below it.
    pub refused-exactly : (g : ℕ) → (answer ≡ refused 7 g)
        ↔ ((g < groups) × ((s : ℕ) → s < limit → Nothing tags groups g s) × ((h : ℕ) → h < g → Seed tags groups limit h))
    refused-exactly g = (
      λ is.
          let low = (c.refused-7 checks g).0 is in
          (low.group, low.without, λ h lt. let has = low.lower h lt in (has.seed, has.below, (has.word, has.word_below, has.fills))),
      λ low.
          (c.refused-7 checks g).1
          (record {
            group = low.0;
            without = low.1;
            lower = λ h lt.
                let has = low.2 h lt in
                record { seed = has.0; below = has.1; word = has.2.0; word_below = has.2.1; fills = has.2.2 };
          }),
    )

    -- Where every group has such a seed the list is accepted with 11 + 21 × B.
    pub accepted-otherwise : ((g : ℕ) → g < groups → Seed tags groups limit g) → answer ≡ answered (11 + 21 * groups)
    accepted-otherwise every =
        c.otherwise checks (λ g low.
        let has = every g low.group in low.without has.0 has.1 has.2.0 has.2.1 has.2.2)

    -- A group has such a seed, or it has none: the search for the least decides it.
    seed-of : (g : ℕ) (taken : ℕ × ℕ) → worded_seed (members groups g tags) limit ≡ Some taken → Seed tags groups limit g
    seed-of g (s, w) e =
        let found = worded_seed-some (members groups g tags) limit e in
        (s, found.below, (w, found.least.below, found.least.fills))

    without-of : (g : ℕ) → worded_seed (members groups g tags) limit ≡ None → (s : ℕ) → s < limit → Nothing tags groups g s
    without-of g e = worded_seed-none (members groups g tags) limit e

    -- Refused for want of a seed exactly when some group has none below the limit with such a word,
    pub refused-for-want : ((g : ℕ) × (answer ≡ refused 7 g)) ↔ ((g : ℕ) × (g < groups) × (Seed tags groups limit g → ⊥))
    refused-for-want = (
      λ is.
          let (below, without, lower) = (refused-exactly is.0).0 is.1 in
          (is.0, below, λ has. without has.0 has.1 has.2.0 has.2.1 has.2.2),
      λ has-none. lowest has-none.0 has-none.1 has-none.2 (first test groups) refl,
    )
      where
        test : ℕ → Bool
        test g = not (is_some (worded_seed (members groups g tags) limit))

        lowest : (g : ℕ) → g < groups → (Seed tags groups limit g → ⊥) → (o : Option ℕ) → first test groups ≡ o
            → (g : ℕ) × (answer ≡ refused 7 g)
        lowest g lt without None e =
            let has = some-of-is_some _ (not-false _ (first-none test groups e g lt)) in
            absurd (without (seed-of g has.0 has.1))
        lowest g lt without (Some k) e =
            let at = first_some test groups e in (
              k,
              (refused-exactly k).1 (
                at.below,
                without-of k (none-of-is_some _ (not-true _ at.holds)),
                λ h below. let has = some-of-is_some _ (not-false _ (at.lowest h below)) in seed-of h has.0 has.1,
              ),
            )

    -- and the refusal names the lowest such group.
    pub names-lowest : (g : ℕ) → answer ≡ refused 7 g
        → (g < groups) × (Seed tags groups limit g → ⊥) × ((h : ℕ) → (Seed tags groups limit h → ⊥) → g ≤ h)
    names-lowest g is =
        let (below, without, lower) = (refused-exactly g).0 is in (
          below,
          λ has. without has.0 has.1 has.2.0 has.2.1 has.2.2,
          λ h none-there. not_lower lower h none-there (ltb h g) refl,
        )
      where
        not_lower : ((h : ℕ) → h < g → Seed tags groups limit h) → (h : ℕ) → (Seed tags groups limit h → ⊥)
            → (b : Bool) → ltb h g ≡ b → g ≤ h
        not_lower lower h none-there true e = absurd (none-there (lower h (ltb-true h g e)))
        not_lower lower h none-there false e = ltb-false h g e
