-- The steps of weighted insertion, over an array of places and a word: a law for each step of the code. Assumes nothing.
use Rattle.std.specs.Prelude.{ℕ, suc, ◌+◌, ◌-◌, ◌^◌, ◌≤◌, ◌<◌, ◌≡◌, Bool, not, cond, List, ltb, length, get_or, set, Option}
use Rattle.std.specs.Prelude.{None, Some, option_map}
use Rattle.std.proofs.Math.Path.{refl}
use Rattle.std.proofs.Common.{sym, ◌∙◌, ap, arith, ltb-true, ltb-false}
use Rattle.std.proofs.Math.Bool.{true, false}
use Rattle.std.proofs.Math.Numerals.{add-one}
use Rattle.refusal.specs.Limits.{group_max}
use Rattle.bits.specs.Bit.{set_bit}
use Rattle.filling.specs.Word.{choice_number, word_of}
use Rattle.filling.proofs.WordLaws.{choice_number-same}
use Rattle.filling.specs.Taken.{sequence_taken}
use Rattle.filling.specs.Weight.{key_weight, choice_weight, total}
use Rattle.filling.proofs.WeightLaws.{key_weight-falls}
use Rattle.filling.specs.Insertion.{Lightest, NoneWith, Occupies, Insertion, Walk}
use Rattle.filling.proofs.InsertionLaws.{insertion-start, insertion-turn, insertion-done, insertion-stuck, insertion-returned, walk_start}
use Rattle.filling.proofs.InsertionLaws.{walk-free, walk-occupied, walk-returned, walk_turn, lighter-lightest, only-lightest}
use Rattle.filling.proofs.InsertionLaws.{neither-separate, lightest-same}
use Rattle.filling.proofs.LightestLaws.{second-place-lightest}
use Rattle.bits.specs.WordBits.{choice_in, toggle_bit, with_choice}
use Rattle.bits.specs.WordBitsLaws.{toggle-below, toggle-toggled, choice-own, choice-kept, choice-grown}
use Rattle.places.specs.Array.{entry_of, Candidates, keys_of}
use Rattle.places.proofs.ArrayLaws.{entry_other, entry-part, candidates-fewer}
use Rattle.insertion.specs.TakenWordLaws.{lightest-word, word-lightest, nothing-word}
use Rattle.weight.specs.WordWeight.{word_weight, lighter_of}
use Rattle.insertion.specs.Occupants.{place_taken, occupants_of, Occupied}
use Rattle.insertion.specs.OccupantsLaws.{occupied-same, free-untaken, occupant-within, occupied-more, occupied-only, occupied-of}
use Rattle.insertion.specs.Inserted.{LightestWord, LightestWordWith, InsertedIs}

-- The answer with key k is the word of the sequence taken for the keys 0 to k.
abbrev WithKeyIs : List ℕ → ℕ → Option ℕ → Type 0
WithKeyIs places k r = r ≡ option_map word_of (sequence_taken (keys_of (k + 1) places))

-- Before it: the word of the sequence taken for the keys before k.
abbrev Before : List ℕ → ℕ → ℕ → Type 0
Before places k word =
    (k < group_max) × Candidates places (k + 1) × (Some word ≡ option_map word_of (sequence_taken (keys_of k places)))

-- What inserting key k with the word's choice wants.
abbrev Ready : List ℕ → ℕ → ℕ → List ℕ → Type 0
Ready places k word cells =
    ((k < group_max) × Candidates places (k + 1) × (word < 2 ^ (k + 1)))
    × (Lightest (entry_of places) key_weight k (choice_in word) × Occupied places word k cells)

module _ (places : List ℕ) where
  -- The state of an insertion of key k into a word: the displaced key is on its way to a place.
  pub record Inserting (k word choices place left : ℕ) : Type 0 where
    pub below : choices < 2 ^ (k + 1)
    pub displaced : ℕ
    pub going : place_taken places choices displaced ≡ place
    pub insertion : Insertion (entry_of places) k (choice_in word) (choice_in choices) displaced left
    pub walk : Walk (entry_of places) k (choice_in word) (choice_in choices) displaced

  pub inserting-start : (k word : ℕ) → word < 2 ^ (k + 1) → Lightest (entry_of places) key_weight k (choice_in word)
      → Inserting k word word (place_taken places word k) k
  inserting-start k word below light = record {
    below = below;
    displaced = k;
    going = refl;
    insertion = insertion-start (entry_of places) k (choice_in word) light.separate;
    walk = walk_start (entry_of places) k (choice_in word);
  }

  module _ {k word choices place left : ℕ} (state : Inserting k word choices place left) where
    -- The place is a candidate place, so it has a cell.
    pub inserting-within : Candidates places (k + 1) → place < group_max
    inserting-within all =
        let d = state.displaced in
        rw state.going at (all.below d (omega (arith, state.walk.upto)) (choice_in choices d))

    -- The cells are those from before the insertion.
    module _ {cells : List ℕ} (occupied : Occupied places word k cells) where
      -- At a free place the insertion is done.
      pub inserting-done : Lightest (entry_of places) key_weight k (choice_in word) → get_or cells place 0 ≡ 0
          → InsertedIs places k word (Some choices)
      inserting-done light free = record {
        below = state.below;
        lightest =
            insertion-done (entry_of places) state.insertion key_weight light
            (walk-free (entry_of places) state.walk (rw state.going (free-untaken places occupied place free)));
      }

      -- Another place has an occupant: the key that has it under the word, and is one of those before k.
      module _ (o : ℕ) (cell : get_or cells place 0 ≡ o + 1) where
        occupant-below : o < k
        occupant-below = (occupied.who place o cell).0

        had : place_taken places word o ≡ place
        had = (occupied.who place o cell).1

        goes : place_taken places word o ≡ place_taken places choices state.displaced
        goes = had ∙ sym state.going

        -- Where it has moved since, nothing separates the keys.
        pub inserting-returned : (choice_number (choice_in choices o) ≡ choice_number (choice_in word o) → ⊥)
            → InsertedIs places k word None
        inserting-returned moved =
            let (g, occupies, went) =
            walk-returned (entry_of places) state.walk o occupant-below goes (λ e. moved (ap choice_number e)) in
            insertion-returned (entry_of places) state.insertion g occupies went

        module _ (still : choice_number (choice_in choices o) ≡ choice_number (choice_in word o)) where
          stays : choice_in choices o ≡ choice_in word o
          stays = choice_number-same (choice_in choices o) (choice_in word o) still

          occupies : Occupies (entry_of places) (choice_in choices) k state.displaced o
          occupies = walk-occupied (entry_of places) state.walk o occupant-below goes stays

          -- With no eviction left, nothing separates the keys either.
          pub inserting-stuck : left ≡ 0 → InsertedIs places k word None
          inserting-stuck out = insertion-stuck (entry_of places) state.insertion o occupies out

          -- The place that it leaves is one of its two,
          pub place-part : place ≤ entry_of places o false + entry_of places o true
          place-part = rw (← had) (entry-part places o (choice_in word o))

          -- and an eviction toggles its choice: it goes to the other.
          pub inserting-turn : Inserting k word (toggle_bit choices o) (entry_of places o false + entry_of places o true - place)
              (left - 1)
          inserting-turn = record {
            below = toggle-below (k + 1) choices o state.below (omega (arith, occupant-below));
            displaced = o;
            going =
                rw ((toggle-toggled choices o).here, stays, ← had)
                (sym (entry_other places o (choice_in word o)));
            insertion =
                insertion-turn (entry_of places) state.insertion (choice_in (toggle_bit choices o)) o occupies
                (toggle-toggled choices o);
            walk =
                walk_turn (entry_of places) state.walk o occupant-below goes (choice_in (toggle_bit choices o)) stays
                (toggle-toggled choices o);
          }

  -- The two insertions of key k into the word of the sequence taken before it, with bit k clear and with it set.
  module _ (k word : ℕ) (before : Before places k word) where
    -- The place of key k under a choice has a cell.
    pub place-within : (choice : Bool) → entry_of places k choice < group_max
    place-within = before.1.below k (omega arith)

    -- The word is the lightest of the keys before k,
    was : LightestWord places k word
    was = word-lightest places k word (omega (arith, before.0)) before.2

    -- with either choice of key k,
    grown-lightest : (c : Bool) → Lightest (entry_of places) key_weight k (choice_in (with_choice word k c))
    grown-lightest c =
        lightest-same (entry_of places) (entry_of places) key_weight k (choice_in word) (choice_in (with_choice word k c))
        (λ i lt b. refl) (choice-kept k word was.below c) was.lightest

    -- which is the choice that it is inserted with.
    chosen-lightest : (c : Bool) {v : ℕ} → InsertedIs places k (with_choice word k c) (Some v) → LightestWordWith places k c v
    chosen-lightest c inserted = rw (choice-own k word was.below c) at inserted

    chosen_none : (c : Bool) → InsertedIs places k (with_choice word k c) None → NoneWith (entry_of places) k c
    chosen_none c inserted = rw (choice-own k word was.below c) at inserted

    -- The lightest word of the keys up to k is the answer.
    lightest-up : (v : ℕ) → v < 2 ^ (k + 1) → Lightest (entry_of places) key_weight (suc k) (choice_in v)
        → WithKeyIs places k (Some v)
    lightest-up v small light =
        lightest-word places (k + 1) v (omega (arith, before.0)) (record { below = small; lightest = rw (add-one k) light })

    -- Where the insertion with one choice has no result, that with the other stays.
    pub one-stays : (c : Bool) (v : ℕ) → InsertedIs places k (with_choice word k c) (Some v)
        → InsertedIs places k (with_choice word k (not c)) None → WithKeyIs places k (Some v)
    one-stays c v inserted other =
        let light = chosen-lightest c inserted in
        lightest-up v light.below
        (only-lightest (entry_of places) key_weight k c (choice_in v) light.lightest (chosen_none (not c) other))

    pub second-stays : (r : Option ℕ) → InsertedIs places k word None → InsertedIs places k (set_bit word k) r
        → WithKeyIs places k r
    unfolding with_choice
    second-stays (Some b) first second = one-stays true b second first
    second-stays None first second =
        nothing-word places (k + 1)
        (rw (← add-one k) at (neither-separate (entry_of places) k (chosen_none false first) (chosen_none true second)))

    -- Where the first moved no key, its word stays: what is lighter would be lighter without key k.
    unmoved-stays : InsertedIs places k word (Some word) → WithKeyIs places k (Some word)
    unfolding total choice_weight with_choice
    unmoved-stays first =
        let own = chosen-lightest false first in
        lightest-up word own.below (record {
          separate = own.lightest.separate;
          lightest = λ f apart.
              let less = was.lightest.lightest f (λ i j li lj same. apart i j (omega arith) (omega arith) same) in
              rw (choice-own k word was.below false) (omega (arith, less));
        })

    -- The cells are those of the keys before k.
    module _ {cells : List ℕ} (same : cells ≡ occupants_of places word k) where
      occupied : Occupied places word k cells
      occupied =
          rw same (occupied-of places (candidates-fewer k (omega arith) before.1) was.lightest.separate)

      occupied-with : (c : Bool) → Occupied places (with_choice word k c) k cells
      occupied-with c = occupied-same places word (with_choice word k c) k (choice-kept k word was.below c) occupied

      pub cells-size : length cells ≡ group_max
      cells-size = occupied.size

      -- A place that is not free has one of the keys before k.
      pub occupant-lower : (v : ℕ) → (get_or cells v 0 ≡ 0 → ⊥) → get_or cells v 0 - 1 < k
      occupant-lower = occupant-within places occupied

      -- So key k can be inserted with either choice.
      pub ready : (c : Bool) → Ready places k (with_choice word k c) cells
      ready c = ((before.0, before.1, choice-grown k word was.below c), (grown-lightest c, occupied-with c))

      -- Where its place under a choice is free, no key moves, and key k has the place.
      module _ (c : Bool) (free : get_or cells (entry_of places k c) 0 ≡ 0) where
        unmoved : InsertedIs places k (with_choice word k c) (Some (with_choice word k c))
        unmoved =
            inserting-done (inserting-start k (with_choice word k c) (choice-grown k word was.below c) (grown-lightest c))
            (occupied-with c) (grown-lightest c) (rw (choice-own k word was.below c) free)

        pub free-occupied : set cells (entry_of places k c) (k + 1) ≡ occupants_of places (with_choice word k c) (k + 1)
        free-occupied =
            occupied-only places (occupied-more places (occupied-with c) (entry_of places k c)
            (rw (choice-own k word was.below c)) (before.1.below k (omega arith) c) free)

      -- So the word stays where the first place of key k is free,
      pub first-free : get_or cells (entry_of places k false) 0 ≡ 0 → WithKeyIs places k (Some word)
      unfolding with_choice
      first-free free = unmoved-stays (unmoved false free)

      -- and where a key that stands at its own first place has it and the second is free, key k goes to its second place.
      pub second-free : (o : ℕ) → get_or cells (entry_of places k false) 0 ≡ o + 1 → choice_in word o ≡ false
          → get_or cells (entry_of places k true) 0 ≡ 0 → WithKeyIs places k (Some (set_bit word k))
      unfolding with_choice
      second-free o cell first free =
          let (lower, had) = occupied.who (entry_of places k false) o cell in
          lightest-up (set_bit word k) (choice-grown k word was.below true)
          (second-place-lightest (entry_of places) key_weight k (choice_in word) (choice_in (set_bit word k))
          was.lightest (choice-kept k word was.below true) (choice-own k word was.below true)
          (chosen-lightest true (unmoved true free)).lightest
          o lower (rw first at had) (key_weight-falls o k (omega arith)))

    -- Where both have one, the lighter stays.
    pub lighter-stays : (a b : ℕ) → InsertedIs places k word (Some a) → InsertedIs places k (set_bit word k) (Some b)
        → WithKeyIs places k (Some (lighter_of (k + 1) a b))
    unfolding lighter_of with_choice
    lighter-stays a b first second = go (ltb (word_weight (k + 1) b) (word_weight (k + 1) a)) refl
      where
        light : LightestWordWith places k false a
        light = chosen-lightest false first

        other : LightestWordWith places k true b
        other = chosen-lightest true second

        go : (t : Bool) → ltb (word_weight (k + 1) b) (word_weight (k + 1) a) ≡ t → WithKeyIs places k (Some (cond t b a))
        go true e =
            let lt = rw (add-one k) at (ltb-true (word_weight (k + 1) b) (word_weight (k + 1) a) e) in
            let stays = lighter-lightest (entry_of places) key_weight k true (choice_in b) (choice_in a) in
            lightest-up b other.below (stays other.lightest light.lightest (omega arith))
        go false e =
            let le = rw (add-one k) at (ltb-false (word_weight (k + 1) b) (word_weight (k + 1) a) e) in
            let stays = lighter-lightest (entry_of places) key_weight k false (choice_in a) (choice_in b) in
            lightest-up a light.below (stays light.lightest other.lightest le)
