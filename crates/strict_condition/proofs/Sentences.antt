-- The sentences of document 02, §7, and of its issue derived from the record, one for each of its fields. They are written out from the
-- definitions of building and of checking. Assumes nothing.
use Rattle.std.specs.Prelude.{◌≡◌, ◌↔◌, true, List, ◌∷◌, ◌++◌, ℕ, suc, ◌+◌, ◌-◌, ◌≤◌, ◌<◌, length, drop}
use Rattle.refusal.specs.Outcome.{Outcome, answered, refused}
use Rattle.lists.specs.Occurs.{occurs}
use Rattle.lists.specs.UpTo.{up_to}
use Rattle.text.specs.Line.{line_at}
use Rattle.image.specs.View.{view_of, groups_in, start_in, end_in, slot_line_in}
use Rattle.image.specs.Holds.{SlotHolds}
use Rattle.image.specs.Checking.{checking_of}
use Rattle.numbering.specs.Building.{building_of, buffer_after}
use Rattle.strict_condition.specs.Condition.{Builds, Ours, Rebuilt, StrictCondition}

-- "building, in every buffer long enough, is accepted and writes these bytes, no more and no fewer", of a list of 32-bit tags.
abbrev pub Writes : List ℕ → ℕ → ℕ → List ℕ → Type 0
Writes tags groups limit image =
    ((t : ℕ) → occurs t tags ≡ true → t < 4294967296)
    × ((before : List ℕ) → length image ≤ length before
    → (building_of tags groups limit (length before) ≡ answered (length image))
    × (buffer_after tags groups limit before ≡ image ++ drop (length image) before))

written : {tags image : List ℕ} {groups limit : ℕ} → Builds tags groups limit image → Writes tags groups limit image
written b = (b.words, λ before fits. (b.accepted before fits, b.writes before fits))

builds-of : {tags image : List ℕ} {groups limit : ℕ} → Writes tags groups limit image → Builds tags groups limit image
builds-of (words, writes) = record {
  words = words;
  accepted = λ before fits. (writes before fits).0;
  writes = λ before fits. (writes before fits).1;
}

ours-of : (tags : List ℕ) (groups limit : ℕ) {image : List ℕ} → Writes tags groups limit image → Ours image
ours-of tags groups limit writes = record { tags = tags; groups = groups; limit = limit; builds = builds-of writes }

-- The line of group g and those of its slots, by an image's own starts.
abbrev pub lines_of : List ℕ → ℕ → List (List ℕ)
lines_of image g =
    let start = start_in (view_of image) g in
    line_at (suc g) image ∷ up_to (end_in (view_of image) g - start) (λ p. line_at (slot_line_in (view_of image) (start + p)) image)

module _ {image : List ℕ} {answer : Outcome ℕ} (c : StrictCondition image answer) where
  -- "the strict check accepts an image exactly when there are a list of 32-bit tags, a B and an L for which building, in every buffer
  -- long enough, is accepted and writes these bytes, no more and no fewer": if it accepts, there are;
  pub accepted-written : answer ≡ answered 0 → (tags : List ℕ) × (groups : ℕ) × (limit : ℕ) × Writes tags groups limit image
  accepted-written e = let ours = c.ours.0 e in (ours.tags, ours.groups, ours.limit, written ours.builds)

  -- and if there are, whatever the L, it accepts.
  pub written-accepted : (tags : List ℕ) (groups limit : ℕ) → Writes tags groups limit image → answer ≡ answered 0
  written-accepted tags groups limit writes = c.ours.1 (ours-of tags groups limit writes)

  -- "all refusals of checking first"
  pub refusals-first : (number place : ℕ) → checking_of image ≡ refused number place → answer ≡ refused number place
  refusals-first = c.checked-first

  -- "where checking accepts", building answers for the list of the tags that the image holds, with the image's B and L = 65,536,
  module _ (checked : checking_of image ≡ answered 0) where
    pub held-written : (tags : List ℕ) × (bytes : List ℕ) × ((t : ℕ) → (occurs t tags ≡ true) ↔ ((j : ℕ) × SlotHolds image j t))
        × Writes tags (groups_in (view_of image)) 65536 bytes
    held-written = let again = c.rebuilt checked in (again.tags, again.bytes, again.held, written again.builds)

    -- and for every such list and what building writes for it: "refused with 19 at g exactly when g is the lowest group whose lines are
    -- not those that building writes for its tags."
    module _ (tags bytes : List ℕ) (held : (t : ℕ) → (occurs t tags ≡ true) ↔ ((j : ℕ) × SlotHolds image j t))
        (builds : Writes tags (groups_in (view_of image)) 65536 bytes) where
      again : Rebuilt image
      again = record { tags = tags; held = held; bytes = bytes; builds = builds-of builds }

      pub named-lowest : (g : ℕ) → answer ≡ refused 19 g
          → (g < groups_in (view_of image)) × (lines_of image g ≡ lines_of bytes g → ⊥)
          × ((h : ℕ) → h < g → lines_of image h ≡ lines_of bytes h)
      unfolding again
      named-lowest g e = let low = (c.lowest checked again g).0 e in (low.group, low.apart, low.lower)

      pub lowest-named : (g : ℕ) → g < groups_in (view_of image) → (lines_of image g ≡ lines_of bytes g → ⊥)
          → ((h : ℕ) → h < g → lines_of image h ≡ lines_of bytes h) → answer ≡ refused 19 g
      unfolding again
      lowest-named g group apart lower = (c.lowest checked again g).1 (record { group = group; apart = apart; lower = lower })
