-- What the loop that arranges group after group keeps. Assumes nothing.
use Prim.Native.Nat.{ℕ, ◌+◌, ◌-◌, ◌≤◌, ◌<◌}
use mathlib.Core.Path.{◌≡◌, refl, sym, ◌∙◌, ap}
use mathlib.Core.List.{List, append_assoc}
use Rattle.std.specs.Prelude.{None, Some}
use native.Mathlib.Omega.{arith}
use native.Mathlib.Numerals.{add-one}
use lib.ListN.{length, get_or, take, drop, length-take, length-drop}
use lib.Seq.{take_at, drop_at}
use borrow.Rule.Slice.PartMut.{put_mid, Post-is}
use Rattle.refusal.specs.Limits.{group_max, seed_max}
use Rattle.lists.specs.First.{first}
use Rattle.lists.proofs.SearchLaws.{Searched, searched-start, searched-turn, searched-found, searched-done}
use Rattle.group.specs.Group.{taken, word_under}
use Rattle.group.proofs.WordLaws.{word-found, word_none}
use Rattle.numbering.specs.Parts.{part_start, part_of}
use Rattle.numbering.proofs.PartsLaws.{part_length, part-is, part-bounds}
use Rattle.numbering.specs.GroupSlots.{group_slots}
use Rattle.arrange.specs.Arrange.{Arrangeable, AllArrangeable, slots_of_part, all_slots, slots_into, unfilled_part}
use Rattle.arrange.specs.SlotsLaws.{slots-none, slots-more, slots_length, slots_kept}

-- Each of the first g groups is filled by some sequence; the cells begin with their slots, and the others are as they were.
pub record Filled (ordered ends seeds : List ℕ) (groups : ℕ) (before slots : List ℕ) (start g : ℕ) : Type 0 where
  pub searched : Searched (unfilled_part ordered ends seeds) 0 groups g
  pub start_is : start ≡ part_start ends g
  pub cells_are : slots ≡ slots_into ordered ends seeds g before

module _ {groups : ℕ} {ordered ends seeds before : List ℕ} (a : AllArrangeable groups ordered ends seeds (length before)) where
  -- Before the first group the cells are as they were.
  pub filled-start : Filled ordered ends seeds groups before before 0 0
  unfolding first part_start slots_into
  filled-start = record {
    searched = searched-start (unfilled_part ordered ends seeds) 0 groups (omega arith) refl;
    start_is = refl;
    cells_are = rw (slots-none ordered ends seeds);
  }

  module _ {slots : List ℕ} {start g : ℕ} (f : Filled ordered ends seeds groups before slots start g) where
    -- The cells keep their number.
    pub filled-length : length slots ≡ length before
    filled-length = ap length f.cells_are ∙ slots_kept a.parts seeds g f.searched.within before a.room-enough

    module _ (lt : g < groups) where
      -- The group's part begins no later than it ends, and ends within the tags and within the cells.
      pub part-within : (start ≤ get_or ends g 0) × (get_or ends g 0 ≤ length ordered) × (get_or ends g 0 ≤ length slots)
      part-within =
          let (follows, inside) = part-bounds a.parts g f.start_is lt in
          (follows, inside, omega (arith, filled-length, a.room-enough))

      -- What the word under its seed is found from.
      abbrev part : List ℕ
      part = take (get_or ends g 0 - start) (drop start ordered)

      own : part ≡ part_of ordered ends g
      own = part-is a.parts g f.start_is

      pub part-legal : (length part ≤ group_max) × (get_or seeds g 0 ≤ seed_max)
      part-legal = (rw own (a.few g lt), a.seeds-legal g lt)

      -- Where there is none, this is the lowest group that nothing fills.
      pub part-unfilled : word_under part (get_or seeds g 0) ≡ None → first (unfilled_part ordered ends seeds) groups ≡ Some g
      unfolding unfilled_part
      part-unfilled e =
          let nothing = word_none (part_of ordered ends g) (get_or seeds g 0) (rw own at e) in
          searched-found (unfilled_part ordered ends seeds) 0 groups g f.searched lt (rw nothing)

      -- With the word it can be arranged into the cells that the code lends.
      module _ {word : ℕ} (found : word_under part (get_or seeds g 0) ≡ Some word) where
        pub part-arrangeable : Arrangeable part (get_or seeds g 0) word (length (take (get_or ends g 0 - start) (drop start slots)))
        part-arrangeable = record {
          few = part-legal.0;
          seed-legal = part-legal.1;
          differ = rw own (a.differ g lt);
          filled = (word-found part (get_or seeds g 0) found).0;
          word-is = (word-found part (get_or seeds g 0) found).1;
          room-is = cells-for;
        }
          where
            cells-for : length (take (get_or ends g 0 - start) (drop start slots)) ≡ length part
            cells-for =
                rw (own, length-take, length-drop) (omega (arith, part_length a.parts g lt, part-within, f.start_is))

        -- A turn writes the slots of one group more.
        pub filled-turn : {piece : List ℕ} → piece ≡ group_slots part (get_or seeds g 0) (taken part (get_or seeds g 0))
            → Filled ordered ends seeds groups before (put_mid start (get_or ends g 0 - start) slots piece) (get_or ends g 0) (g + 1)
        unfolding part_start slots_of_part slots_into unfilled_part
        filled-turn {piece} e = record {
          searched =
              searched-turn (unfilled_part ordered ends seeds) 0 groups g f.searched lt
              (rw (word-found (part_of ordered ends g) (get_or seeds g 0) (rw own at found)).0);
          start_is = rw (add-one g);
          cells_are = rw (front, back, add-one g, slots-more ordered ends seeds g, append_assoc, piece_is);
        }
          where
            many : length (all_slots ordered ends seeds g) ≡ start
            many = slots_length a.parts seeds g f.searched.within ∙ sym f.start_is

            front : take start slots ≡ all_slots ordered ends seeds g
            front = rw f.cells_are (take_at (all_slots ordered ends seeds g) (drop (part_start ends g) before) start many)

            back : drop (get_or ends g 0 - start) (drop start slots) ≡ drop (get_or ends g 0) before
            back =
                rw (f.cells_are, drop_at (all_slots ordered ends seeds g) (drop (part_start ends g) before) start many, ← f.start_is)
                (Post-is start (get_or ends g 0) before part-within.0)

            piece_is : piece ≡ group_slots (part_of ordered ends g) (get_or seeds g 0) (taken (part_of ordered ends g) (get_or seeds g 0))
            piece_is = rw own at e

    -- After the last group all slots are written.
    pub filled-done : groups ≤ g
        → (first (unfilled_part ordered ends seeds) groups ≡ None) × (slots ≡ slots_into ordered ends seeds groups before)
    filled-done past =
        let same : g ≡ groups = omega (arith, f.searched.within) in
        (searched-done (unfilled_part ordered ends seeds) 0 groups g f.searched past, rw same at f.cells_are)
