-- An image made from seeds and sequences that fill every group: checking accepts it, and lookup answers the tags' numbers.
-- Assumes nothing.
use Rattle.std.specs.Prelude.{◌≡◌, ◌⊎◌, ◌&&◌, List, Option, Some, unwrap_or}
use Rattle.std.proofs.Math.Path.{refl, sym, ap}
use Rattle.std.proofs.Common.{◌∙◌, inl, inr}
use Rattle.std.proofs.Math.Bool.{Bool, true, false, cond, and-false}
use Prim.Native.Nat.{ℕ, suc, ◌+◌, ◌-◌, ◌*◌, ◌^◌, ◌≤◌, ◌<◌}
use native.Mathlib.Omega.{arith}
use Rattle.std.proofs.Math.Dec.{eqb, leb, ltb}
use Rattle.std.proofs.Math.ListN.{length}
use borrow.Author.Tests.{ltb-true, ltb-false, le-ltb, eq-eqb, ne_eqb}
use Rattle.refusal.specs.Limits.{tag_end, tags_max, groups_max, group_max, seed_max, unwired}
use Rattle.refusal.specs.Outcome.{Outcome, answered}
use Rattle.lists.proofs.FirstLaws.{first_out, is_some-of-some, is_some-of-none}
use Rattle.refusal.proofs.ChecksLaws.{met-false}
use Rattle.hash.specs.Formula.{group_of, place_of}
use Rattle.hash.proofs.FormulaLaws.{group-below}
use Rattle.text.specs.Line.{line_length}
use Rattle.lists.specs.Occurs.{occurs}
use Rattle.lists.proofs.OccursLaws.{occurs-not}
use Rattle.filling.specs.Filling.{place_by}
use Rattle.group.specs.Group.{both_places}
use Rattle.image.specs.Sheet.{Sheet, bytes_of, image_length}
use Rattle.image.proofs.SheetLaws.{bytes-length, header-reads, group_reads, slot-reads}
use Rattle.image.specs.View.{View, view_of, count_in, groups_in, start_in, seed_in, end_in, slot_line_in, slot_in, candidate_in}
use Rattle.image.specs.Checking.{opening_checks, group_of_slot, holds_unwired, misplaced, repeated}
use Rattle.image.specs.Lookup.{Found, number, unknown}
use Rattle.image.specs.Fair.{LiesIn, AllFair}
use Rattle.image.proofs.FaultLaws.{faulty-of-fair, lies-once, group_of_slot-lies}
use Rattle.image.proofs.CheckedLookupLaws.{Sound, slot_in-reads, Looked, found, nowhere, own-placed}
use Rattle.numbering.specs.Members.{members, start_of}
use Rattle.numbering.proofs.MembersLaws.{start-zero, start-all, start-suc}
use Rattle.numbering.specs.Number.{choice_of, place_in, number_of, tag_numbered}
use Rattle.numbering.proofs.NumberLaws.{Placed, number-below, number-apart, number-onto, AllFill, own_place, all_placed, tag_numbered-is}
use Rattle.numbering.specs.Writing.{sheet_of}

-- A view that reads as a sheet states.
pub record Reads (v : View) (s : Sheet) : Type 0 where
  pub size : v.size ≡ image_length s.groups s.count
  pub header : v.header ≡ Some (s.count, s.groups)
  pub group : (g : ℕ) → g < s.groups → v.group_at (suc g) ≡ Some (s.start g, s.seed g)
  pub slot : (j : ℕ) → j < s.count → v.slot_at (1 + s.groups + j) ≡ Some (s.slot j)

-- The numbers of a sheet fit their fields.
pub record InRange (s : Sheet) : Type 0 where
  pub count : s.count ≤ tags_max
  pub groups : (1 ≤ s.groups) × (s.groups ≤ groups_max)
  pub start : (g : ℕ) → g < s.groups → s.start g < 10 ^ 5
  pub seed : (g : ℕ) → g < s.groups → s.seed g ≤ seed_max
  pub slot : (j : ℕ) → j < s.count → s.slot j < tag_end

-- The bytes of such a sheet read back.
pub reads-back : (s : Sheet) → InRange s → Reads (view_of (bytes_of s)) s
unfolding view_of
reads-back s r = record {
  size = bytes-length s;
  header = header-reads s r.count r.groups.0 r.groups.1;
  group = λ g lt. group_reads s g lt (r.start g lt) (r.seed g lt);
  slot = λ j lt. slot-reads s j lt (r.slot j lt);
}

module _ {v : View} {groups : ℕ} {tags : List ℕ} {seed : ℕ → ℕ} {choices : ℕ → List Bool}
    (reads : Reads v (sheet_of groups tags seed choices)) (fills : AllFill groups tags seed choices)
    (few : (g : ℕ) → g < groups → length (members groups g tags) ≤ group_max) (wired : occurs unwired tags ≡ false) where
  placed : Placed groups tags (own_place groups tags seed choices)
  placed = all_placed fills

  -- The numbers that the lines state are the sheet's.
  pub count-is : count_in v ≡ length tags
  unfolding count_in sheet_of
  count-is = rw reads.header

  pub groups-is : groups_in v ≡ groups
  unfolding groups_in sheet_of
  groups-is = rw reads.header

  pub start_is : (g : ℕ) → g < groups → start_in v g ≡ start_of groups g tags
  unfolding start_in sheet_of
  start_is g lt = ap (λ (o : Option (ℕ × ℕ)). (unwrap_or o (0, 0)).0) (reads.group g lt)

  pub seed-is : (g : ℕ) → g < groups → seed_in v g ≡ seed g
  unfolding seed_in sheet_of
  seed-is g lt = ap (λ (o : Option (ℕ × ℕ)). (unwrap_or o (0, 0)).1) (reads.group g lt)

  pub end_is : (g : ℕ) → g < groups → end_in v g ≡ start_of groups (suc g) tags
  unfolding end_in
  end_is g lt = rw (groups-is, count-is) (go (ltb (suc g) groups) refl)
    where
      go : (b : Bool) → ltb (suc g) groups ≡ b → cond b (start_in v (suc g)) (length tags) ≡ start_of groups (suc g) tags
      go true e = start_is (suc g) (ltb-true (suc g) groups e)
      go false e =
          let last : suc g ≡ groups = omega (arith, ltb-false (suc g) groups e) in
          rw last (sym (start-all groups tags fills.some-group))

  -- Slot j holds the tag whose number is j.
  abbrev tag_at : ℕ → ℕ
  tag_at j = tag_numbered (number_of groups tags seed choices) tags j

  pub slot_is : (j : ℕ) → j < length tags → v.slot_at (slot_line_in v j) ≡ Some (tag_at j)
  unfolding slot_line_in sheet_of
  slot_is j lt = rw groups-is (reads.slot j lt)

  -- That tag is listed, and its number is j.
  slot-tag : (j : ℕ) → j < length tags → (occurs (tag_at j) tags ≡ true) × (number_of groups tags seed choices (tag_at j) ≡ j)
  unfolding number_of
  slot-tag j lt = tag_numbered-is (number_of groups tags seed choices) tags j (number-onto placed j lt)

  -- A tag's two slots are its group's start plus its two places.
  slot_of : (c t : ℕ) → candidate_in v (group_of groups t) c t
      ≡ start_of groups (group_of groups t) tags
      + place_of (length (members groups (group_of groups t) tags)) (seed (group_of groups t)) c t
  unfolding candidate_in
  slot_of c t =
      let g = group_of groups t in
      let lt = group-below groups t fills.some-group in
      let size : start_of groups (suc g) tags - start_of groups g tags ≡ length (members groups g tags) =
      omega (arith, start-suc groups g tags) in
      rw (end_is g lt, start_is g lt, seed-is g lt, size)

  -- A listed tag's number is one of its two slots, and lies in its group.
  number-slot : (t : ℕ) → (number_of groups tags seed choices t ≡ candidate_in v (group_of groups t) 0 t)
      ⊎ (number_of groups tags seed choices t ≡ candidate_in v (group_of groups t) 1 t)
  unfolding number_of place_in place_by both_places
  number-slot t = go (choice_of (members groups (group_of groups t) tags) (choices (group_of groups t)) t) refl
    where
      g : ℕ
      g = group_of groups t

      go : (c : Bool) → choice_of (members groups g tags) (choices g) t ≡ c
          → (number_of groups tags seed choices t ≡ candidate_in v g 0 t) ⊎ (number_of groups tags seed choices t ≡ candidate_in v g 1 t)
      go false e = inl (rw e (sym (slot_of 0 t)))
      go true e = inr (rw e (sym (slot_of 1 t)))

  fair : AllFair v
  fair g lt =
      let below : g < groups = rw groups-is at lt in
      rw (start_is g below, end_is g below)
      (record {
        zero-first = λ e. rw e (start-zero groups tags);
        ascends = omega (arith, start-suc groups g tags);
        small = omega (arith, start-suc groups g tags, few g below);
      })

  pub built-many : 0 < groups_in v
  built-many = rw groups-is fills.some-group

  number-lies : (t : ℕ) → occurs t tags ≡ true → LiesIn v (number_of groups tags seed choices t) (group_of groups t)
  unfolding number_of
  number-lies t m =
      let g = group_of groups t in
      let lt = group-below groups t fills.some-group in
      record {
        group = rw groups-is lt;
        from = rw (start_is g lt) (omega arith);
        below = rw (end_is g lt) (omega (arith, start-suc groups g tags, placed.inside t m));
      }

  -- In a slot stands a listed tag, and so not 0,
  slot-wired : (j : ℕ) → j < count_in v → holds_unwired v j ≡ false
  unfolding holds_unwired
  slot-wired j lt =
      let below : j < length tags = rw count-is at lt in
      let listed = (slot-tag j below).0 in
      ne_eqb (slot_in v j) unwired (λ zero.
      occurs-not unwired tags (rw (sym (slot_in-reads v j (slot_is j below)) ∙ zero) at listed) wired)

  -- a tag of the slot's group, at one of its places,
  slot_placed : (j : ℕ) → j < count_in v → misplaced v j ≡ false
  slot_placed j lt =
      let below : j < length tags = rw count-is at lt in
      let t = tag_at j in
      let (listed, e) = slot-tag j below in
      let lies : LiesIn v j (group_of groups t) = rw e at (number-lies t listed) in
      let same : group_of groups t ≡ group_of_slot v j =
      lies-once v fair j (group_of groups t) (group_of_slot v j) lies (group_of_slot-lies v fair j built-many lt) in
      own-placed v j t (slot_in-reads v j (slot_is j below)) (rw groups-is same) (rw (← same) (rw e at (number-slot t)))

  -- and in no two slots the same.
  slot-once : (j : ℕ) → j < count_in v → repeated v j ≡ false
  unfolding repeated
  slot-once j lt =
      let test : ℕ → Bool = λ i. leb (start_in v (group_of_slot v j)) i && eqb (slot_in v i) (slot_in v j) in
      is_some-of-none (first_out test j (λ i before. other i before))
    where
      other : (i : ℕ) → i < j → (leb (start_in v (group_of_slot v j)) i && eqb (slot_in v i) (slot_in v j)) ≡ false
      other i before =
          let bj : j < length tags = rw count-is at lt in
          let bi : i < length tags = omega arith in
          let different : slot_in v i ≡ slot_in v j → ⊥ = λ e.
          let tags-same : tag_at i ≡ tag_at j = sym (slot_in-reads v i (slot_is i bi)) ∙ e ∙ slot_in-reads v j (slot_is j bj) in
          let numbers-same = ap (number_of groups tags seed choices) tags-same in
          omega (arith, (slot-tag i bi).1, (slot-tag j bj).1) in
          rw (ne_eqb (slot_in v i) (slot_in v j) different, and-false)

  pub built-sound : Sound v
  unfolding opening_checks sheet_of slot_line_in image_length
  built-sound = record {
    opens = (
      met-false (le-ltb v.size line_length (rw reads.size (omega arith))),
      (
        met-false (rw (is_some-of-some reads.header)),
        (met-false (rw (groups-is, count-is, eq-eqb v.size (line_length * (1 + groups + length tags)) reads.size)), tt),
      ),
    );
    group_lines = λ g lt. is_some-of-some (reads.group g (rw groups-is at lt));
    slot-lines = λ j lt. is_some-of-some (slot_is j (rw count-is at lt));
    wired = slot-wired;
    not-faulty = λ g lt. faulty-of-fair g (start_in v g) (end_in v g) (fair g lt);
    placed = slot_placed;
    once = slot-once;
  }

  -- A lookup of a listed tag answers its number,
  pub built-listed : (t : ℕ) {outcome : Outcome Found} → Looked v t outcome → occurs t tags ≡ true
      → outcome ≡ answered (number (number_of groups tags seed choices t))
  unfolding number_of
  built-listed t (found j holds e) m =
      let below : j < length tags = rw count-is at holds.slot in
      let same : tag_at j ≡ t = (let a = slot_is j below in let b = holds.tag in cc) in
      e ∙ ap (λ (i : ℕ). answered (number i)) (sym (slot-tag j below).1 ∙ ap (number_of groups tags seed choices) same)
  built-listed t (nowhere none-holds e) m =
      let j = number_of groups tags seed choices t in
      let below : j < length tags = number-below placed t m in
      let (listed, same) = slot-tag j below in
      let tag_same : tag_at j ≡ t = number-apart placed (tag_at j) t listed m same in
      absurd (none-holds j (record { slot = rw count-is below; tag = rw tag_same at (slot_is j below) }))

  -- and one of any other unknown.
  pub built-unlisted : (t : ℕ) {outcome : Outcome Found} → Looked v t outcome → occurs t tags ≡ false → outcome ≡ answered unknown
  built-unlisted t (found j holds e) absent =
      let below : j < length tags = rw count-is at holds.slot in
      let same : tag_at j ≡ t = (let a = slot_is j below in let b = holds.tag in cc) in
      absurd (occurs-not t tags (rw same at (slot-tag j below).0) absent)
  built-unlisted t (nowhere none-holds e) absent = e
