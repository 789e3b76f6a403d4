-- The slots of all groups, one group's after the other's, are the tags in the order of their numbers. Assumes nothing.
use Rattle.std.specs.Prelude.{◌≡◌, Bool, true}
use Rattle.std.proofs.Math.Path.{refl, sym, ap}
use Rattle.std.proofs.Common.{◌∙◌, arith, get_or-append-add}
use mathlib.Core.List.{List, ◌++◌, flatten}
use Prim.Native.Nat.{ℕ, zero, suc, ◌+◌, ◌<◌}
use Rattle.std.proofs.Math.ListN.{length, get_or, length-append, get_or-append}
use Rattle.hash.specs.Formula.{group_of}
use Rattle.hash.proofs.FormulaLaws.{group-below}
use Rattle.lists.specs.Occurs.{occurs}
use Rattle.lists.specs.UpTo.{up_to}
use Rattle.lists.proofs.UpToLaws.{up_to-length, up_to-at, flatten-more}
use Rattle.numbering.specs.Members.{members, start_of}
use Rattle.numbering.proofs.MembersLaws.{members-own, members-distinct, start-zero, start-all, start-suc, start-before}
use Rattle.numbering.specs.Number.{place_in, number_of, tag_numbered}
use Rattle.numbering.proofs.NumberLaws.{some-listed, AllFill, all_placed, number-onto, place-apart, place_inside, tag_numbered-is}
use Rattle.numbering.specs.GroupSlots.{group_slots}

-- Of lists one after the other, what stands in one is found behind those before it.
pub flatten-at : (count : ℕ) (f : ℕ → List ℕ) (k p : ℕ) → k < count → p < length (f k)
    → get_or (flatten (up_to count f)) (length (flatten (up_to k f)) + p) 0 ≡ get_or (f k) p 0
unfolding up_to flatten
flatten-at zero f k p lt inside = absurd (omega arith)
flatten-at (suc count) f zero p lt inside =
    let first : 0 + p ≡ p = omega arith in
    rw first (get_or-append (f 0) (flatten (up_to count (λ k. f (suc k)))) 0 p inside)
flatten-at (suc count) f (suc k) p lt inside =
    let rest = flatten (up_to k (λ h. f (suc h))) in
    let place : length (f 0 ++ rest) + p ≡ length (f 0) + (length rest + p) = omega (arith, length-append (f 0) rest) in
    rw place
    (get_or-append-add (f 0) (flatten (up_to count (λ h. f (suc h)))) (length rest + p) 0
    ∙ flatten-at count (λ h. f (suc h)) k p (omega arith) inside)

-- A group has as many slots as tags, and a slot has the tag whose place it is.
pub slots_length : (tags : List ℕ) (seed : ℕ) (choices : List Bool) → length (group_slots tags seed choices) ≡ length tags
unfolding group_slots
slots_length tags seed choices = up_to-length (length tags) (tag_numbered (place_in tags seed choices) tags)

pub slot_is : (tags : List ℕ) (seed : ℕ) (choices : List Bool) (p : ℕ) → p < length tags
    → get_or (group_slots tags seed choices) p 0 ≡ tag_numbered (place_in tags seed choices) tags p
unfolding group_slots
slot_is tags seed choices p lt = up_to-at (length tags) (tag_numbered (place_in tags seed choices) tags) 0 p lt

module _ {groups : ℕ} {tags : List ℕ} {seed : ℕ → ℕ} {choices : ℕ → List Bool} (a : AllFill groups tags seed choices) where
  -- The slots of group g.
  abbrev slots_of : ℕ → List ℕ
  slots_of g = group_slots (members groups g tags) (seed g) (choices g)

  -- The slots of the groups below g end where group g starts.
  slots-start : (g : ℕ) → length (flatten (up_to g slots_of)) ≡ start_of groups g tags
  unfolding up_to flatten
  slots-start zero = sym (start-zero groups tags)
  slots-start (suc g) =
      ap length (flatten-more g slots_of) ∙ length-append (flatten (up_to g slots_of)) (slots_of g)
      ∙ omega (arith, slots-start g, slots_length (members groups g tags) (seed g) (choices g), start-suc groups g tags)

  -- The slot of a tag's number has the tag.
  slot_of : (t : ℕ) → occurs t tags ≡ true → get_or (flatten (up_to groups slots_of)) (number_of groups tags seed choices t) 0 ≡ t
  unfolding number_of
  slot_of t m =
      let g = group_of groups t in
      let own = members groups g tags in
      let listed = members-own groups tags t m in
      let below = group-below groups t a.some-group in
      let place = place_in own (seed g) (choices g) in
      let inside = place_inside own (seed g) (choices g) t (some-listed own t listed) in
      let found = tag_numbered-is place own (place t) record { from = t; listed = listed; value = refl } in
      rw (← slots-start g)
      (flatten-at groups slots_of g (place t) below (rw (slots_length own (seed g) (choices g)) inside)
      ∙ slot_is own (seed g) (choices g) (place t) inside
      ∙ place-apart own (seed g) (choices g) (members-distinct groups g tags a.differ)
      (a.fills g below) (tag_numbered place own (place t)) t found.0 listed found.1)

  -- "Line 1 + B + j: … the tag whose number is j."
  pub slots-numbered : (j : ℕ) → j < length tags
      → get_or (flatten (up_to groups slots_of)) j 0 ≡ tag_numbered (number_of groups tags seed choices) tags j
  unfolding number_of
  slots-numbered j lt =
      let number = number_of groups tags seed choices in
      let found = tag_numbered-is number tags j (number-onto (all_placed a) j lt) in
      ap (λ (i : ℕ). get_or (flatten (up_to groups slots_of)) i 0) (sym found.1) ∙ slot_of (tag_numbered number tags j) found.0

  -- The slot of place p in group g is the one that the group's own slots have there.
  pub slot-of-place : (g p : ℕ) → g < groups → p < length (members groups g tags)
      → tag_numbered (number_of groups tags seed choices) tags (start_of groups g tags + p) ≡ get_or (slots_of g) p 0
  slot-of-place g p lt inside =
      let last = start-before groups (suc g) groups tags lt in
      let below : start_of groups g tags + p < length tags =
      omega (arith, inside, start-suc groups g tags, last, start-all groups tags a.some-group) in
      sym (slots-numbered (start_of groups g tags + p) below)
      ∙ rw (← slots-start g)
      (flatten-at groups slots_of g p lt (rw (slots_length (members groups g tags) (seed g) (choices g)) inside))
