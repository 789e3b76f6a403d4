-- WHAT THE STRICT CHECK OWES: a relation of the image and the answer. It says what building writes, and names no definition by which the
-- strict check is specified. Document 02, §7. Assumes nothing.
use Rattle.std.specs.Prelude.{◌≡◌, ◌↔◌, true, List, ◌∷◌, ◌++◌, ℕ, suc, ◌+◌, ◌-◌, ◌≤◌, ◌<◌, length, drop}
use Rattle.refusal.specs.Limits.{tag_end, limit_max}
use Rattle.refusal.specs.Outcome.{Outcome, answered, refused}
use Rattle.lists.specs.Occurs.{occurs}
use Rattle.lists.specs.UpTo.{up_to}
use Rattle.text.specs.Line.{line_at}
use Rattle.image.specs.View.{view_of, groups_in, start_in, end_in, slot_line_in}
use Rattle.image.specs.Holds.{SlotHolds}
use Rattle.image.specs.Checking.{checking_of}
use Rattle.numbering.specs.Building.{building_of, buffer_after}

-- Building this list of 32-bit tags with this B and L, "in every buffer long enough, is accepted and writes these bytes, no more and no
-- fewer": what stood behind them stays.
pub record Builds (tags : List ℕ) (groups limit : ℕ) (image : List ℕ) : Type 0 where
  pub words : (t : ℕ) → occurs t tags ≡ true → t < tag_end
  pub accepted : (before : List ℕ) → length image ≤ length before → building_of tags groups limit (length before) ≡ answered (length image)
  pub writes : (before : List ℕ) → length image ≤ length before
      → buffer_after tags groups limit before ≡ image ++ drop (length image) before

-- "there are a list of 32-bit tags, a B and an L for which building" writes the image.
pub record Ours (image : List ℕ) : Type 0 where
  pub tags : List ℕ
  pub groups : ℕ
  pub limit : ℕ
  pub builds : Builds tags groups limit image

-- What building writes, with the image's B and the greatest L, for exactly the tags that the image holds.
pub record Rebuilt (image : List ℕ) : Type 0 where
  pub tags : List ℕ
  pub held : (t : ℕ) → (occurs t tags ≡ true) ↔ ((j : ℕ) × SlotHolds image j t)
  pub bytes : List ℕ
  pub builds : Builds tags (groups_in (view_of image)) limit_max bytes

-- The lines of group g: its group line, and the lines of the slots from its start to its end.
abbrev pub group_lines : List ℕ → ℕ → List (List ℕ)
group_lines image g =
    let v = view_of image in
    line_at (suc g) image ∷ up_to (end_in v g - start_in v g) (λ p. line_at (slot_line_in v (start_in v g + p)) image)

-- g is the lowest group of an image whose lines are not those of another image.
pub record LowestApart (image other : List ℕ) (g : ℕ) : Type 0 where
  pub group : g < groups_in (view_of image)
  pub apart : group_lines image g ≡ group_lines other g → ⊥
  pub lower : (h : ℕ) → h < g → group_lines image h ≡ group_lines other h

pub record StrictCondition (image : List ℕ) (answer : Outcome ℕ) : Type 0 where
  -- "A strict check accepts exactly the images that building writes for some list, B and L".
  pub ours : (answer ≡ answered 0) ↔ Ours image
  -- "19 after all refusals of checking": these come first,
  pub checked-first : (number place : ℕ) → checking_of image ≡ refused number place → answer ≡ refused number place
  -- and where checking accepts, building answers for the tags that the image holds, and 19 names "the lowest group whose lines are not
  -- those that building writes for its tags".
  pub rebuilt : checking_of image ≡ answered 0 → Rebuilt image
  pub lowest : checking_of image ≡ answered 0 → (again : Rebuilt image) (g : ℕ)
      → (answer ≡ refused 19 g) ↔ LowestApart image again.bytes g
