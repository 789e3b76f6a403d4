-- The turns of the seed search's two loops, as laws: what each keeps and what each leaves. The eviction loop is only ever in states
-- that bounded cuckoo insertion reaches (`Reached`); what it decides is said by the laws of these states. Assumes nothing.
use Prim.Native.Nat.{ℕ, zero, suc, ◌+◌, ◌*◌, ◌-◌, ◌≤◌, ◌<◌}
use mathlib.Core.Path.{◌≡◌, refl, sym, ◌∙◌, ap}
use mathlib.Core.Logic.{◌≢◌}
use mathlib.Core.Bool.{Bool, true, false, not, not-not}
use mathlib.Core.List.{List}
use Rattle.std.specs.Prelude.{None, Some}
use native.Mathlib.Decide.{ℕ_discrete}
use native.Mathlib.Numerals.{add-one}
use native.Mathlib.Omega.{arith}
use lib.Count.{ones}
use lib.Dec.{eqb}
use lib.ListN.{length, get_or, set, replicate, length-set, length-replicate}
use lib.Seq.{get_or-set_same, get_or-set_other}
use borrow.Author.Count.{below_more}
use Rattle.refusal.specs.Limits.{group_max}
use Rattle.filling.specs.Filling.{Key, place_by, Fills}
use Rattle.filling.specs.Separate.{key_place}
use Rattle.filling.proofs.WordLaws.{other-number}
use Rattle.filling.specs.Eviction.{State, place_under, goal, occupant, start, seat_key, evict_key}
use Rattle.filling.specs.Eviction.{Reached, started, seats, evicts, sequence_of}
use Rattle.filling.proofs.EvictionLaws.{Has, replicate-zero, reached-choice, reached-among, reached-who, reached-cells, reached-goal}
use Rattle.filling.proofs.EvictionLaws.{gives-up-none, seated-fills}
use Rattle.group.specs.Group.{group_under, least_seed}
use Rattle.group.proofs.GroupLaws.{NoneFills, group-size, group-below, least_seed-only, least_seed-out}
use Rattle.places.specs.Array.{entry_of, laid_into}
use Rattle.candidates.specs.LaidLaws.{group-cells, group-place}
use Rattle.seeds.specs.Occupancy.{occupancy_of}
use Rattle.seeds.specs.OccupancyLaws.{ones_none}
use Rattle.seeds.specs.Tried.{laid_after}

-- The seed loop: nothing fills under the seeds below `next`, and the lent cells are as those seeds left them.
pub record Passed (tags : List ℕ) (limit : ℕ) (before places : List ℕ) (next : ℕ) : Type 0 where
  pub upto : next ≤ limit
  pub nothing : (t : ℕ) → t < next → NoneFills tags t
  pub cells : places ≡ laid_after tags next before
  pub size : length places ≡ 2 * group_max

-- No seed is passed over yet.
pub passed_start : (tags : List ℕ) (limit : ℕ) (places : List ℕ) → length places ≡ 2 * group_max → Passed tags limit places places 0
unfolding laid_after
passed_start tags limit places size =
    record { upto = omega arith; nothing = λ t lt. absurd (omega arith); cells = refl; size = size }

module _
    {tags : List ℕ} {limit : ℕ} {before places : List ℕ} {next : ℕ} (few : length tags ≤ group_max)
    (passed : Passed tags limit before places next) where
  -- The places under `next` are laid over those under the seed before.
  pub laid_next : {places' : List ℕ} → places' ≡ laid_into (group_under tags next) places → places' ≡ laid_after tags (suc next) before
  unfolding laid_after
  laid_next cells = cells ∙ ap (laid_into (group_under tags next)) passed.cells

  -- One seed more under which nothing fills.
  pub passed-more : {places' : List ℕ} → places' ≡ laid_into (group_under tags next) places → next < limit → NoneFills tags next
      → Passed tags limit before places' (next + 1)
  passed-more cells lt nothing = record {
    upto = omega arith;
    nothing = below_more _ _ passed.nothing nothing;
    cells = rw (add-one next) (laid_next cells);
    size = group-cells tags next places few passed.size cells;
  }

  -- The limit is reached: there is no seed.
  pub passed-out : limit ≤ next → None ≡ least_seed tags limit
  passed-out out = sym (least_seed-out tags limit (λ t lt. passed.nothing t (omega arith)))

  -- Something fills under `next`: it is the least seed.
  pub passed-found : next < limit → (cs : List Bool) → Fills (group_under tags next) cs → Some next ≡ least_seed tags limit
  passed-found lt cs f = sym (least_seed-only tags limit next cs lt f passed.nothing)

-- The early drop.
pub dropped : (tags : List ℕ) (s : ℕ) {word : ℕ} → word ≡ occupancy_of (group_under tags s) → (ones word ≡ length tags → ⊥)
    → NoneFills tags s
dropped tags s occupied other =
    ones_none (length tags) (group_under tags s) (group-size tags s) (group-below tags s) (rw occupied at other)

-- The other place of key i: where it goes if it is evicted, or came from.
other_under : List Key → List ℕ → ℕ → ℕ
other_under keys choices i = place_by (not (eqb (get_or choices i 0) 1)) (get_or keys i (0, 0))

-- What the loop keeps of an occupant, 0 or one more than a key's index: 0, or one more than the key's other place.
cell_of : List Key → List ℕ → ℕ → ℕ
cell_of keys choices zero = 0
cell_of keys choices (suc i) = suc (other_under keys choices i)

-- Only the choice of the occupant counts.
cell_of-same : (keys : List Key) (choices choices' : List ℕ) (o : ℕ) → ((i : ℕ) → o ≡ i + 1 → get_or choices' i 0 ≡ get_or choices i 0)
    → cell_of keys choices o ≡ cell_of keys choices' o
unfolding cell_of other_under
cell_of-same keys choices choices' zero same = refl
cell_of-same keys choices choices' (suc i) same = rw (same i (omega arith))

-- The cells match the occupants.
Matches : List Key → List ℕ → List ℕ → List ℕ → Type 0
Matches keys choices occupants others = (v : ℕ) → get_or others v 0 ≡ cell_of keys choices (get_or occupants v 0)

-- They still do after a key has taken a place, where only the choice of key m changes and m has no place.
matches-set : (keys : List Key) (choices choices' occupants others : List ℕ) (place moving other m : ℕ)
    → place < length others → place < length occupants → other ≡ other_under keys choices moving
    → ((i : ℕ) → i ≢ m → get_or choices' i 0 ≡ get_or choices i 0) → moving ≢ m
    → ((v i : ℕ) → v ≢ place → get_or occupants v 0 ≡ i + 1 → i ≢ m)
    → Matches keys choices occupants others → Matches keys choices' (set occupants place (moving + 1)) (set others place (other + 1))
unfolding Matches cell_of other_under
matches-set keys choices choices' occupants others place moving other m in_o in_p is_other same still away match v = go (ℕ_discrete v place)
  where
    here : suc (other_under keys choices moving) ≡ cell_of keys choices' (suc moving)
    here = rw (same moving still)

    go : Dec (v ≡ place) → get_or (set others place (other + 1)) v 0 ≡ cell_of keys choices' (get_or (set occupants place (moving + 1)) v 0)
    go (yes e) =
        rw (
          e,
          get_or-set_same others place (other + 1) 0 in_o,
          get_or-set_same occupants place (moving + 1) 0 in_p,
          add-one other,
          add-one moving,
          is_other,
        )
        here
    go (no n) =
        rw (get_or-set_other others place v (other + 1) 0 n, get_or-set_other occupants place v (moving + 1) 0 n)
        (match v ∙ cell_of-same keys choices choices' (get_or occupants v 0) (λ i e. same i (away v i n e)))

-- The state of the eviction loop, from its variables and what it does not keep.
abbrev state_of : List ℕ → List ℕ → ℕ → ℕ → ℕ → State
state_of occupants choices seated moving left =
    record { occupants = occupants; choices = choices; seated = seated; moving = moving; left = left }

-- Where the moving key is to go, and its other place; nothing once all are seated.
record Goes (keys : List Key) (choices : List ℕ) (moving place other : ℕ) : Type 0 where
  to : place ≡ place_under keys choices moving
  back : other ≡ other_under keys choices moving

-- The eviction loop: the candidate places are laid out, the state is reached, and the cells match its occupants.
pub record Turn (tags : List ℕ) (s : ℕ) (places others : List ℕ) (seated place other left : ℕ) : Type 0 where
  pub few : length tags ≤ group_max
  own : (i : ℕ) → i < length tags → (choice : Bool) → entry_of places i choice ≡ key_place (group_under tags s) i choice
  pub upto : seated ≤ length tags
  pub allowed : left ≤ 2 * seated + 1
  pub room : length others ≡ group_max
  occupants : List ℕ
  choices : List ℕ
  moving : ℕ
  slots : length occupants ≡ group_max
  reached : Reached (group_under tags s) (state_of occupants choices seated moving left)
  match : Matches (group_under tags s) choices occupants others
  goes : seated < length tags → Goes (group_under tags s) choices moving place other

-- The loop begins at the start of the insertion.
pub turn-start : (tags : List ℕ) (s : ℕ) (before : List ℕ) {places : List ℕ} → length before ≡ 2 * group_max
    → places ≡ laid_into (group_under tags s) before
    → length tags ≤ group_max → Turn tags s places (replicate group_max 0) 0 (get_or places 0 0) (get_or places group_max 0) 1
unfolding start Matches cell_of place_under other_under entry_of
turn-start tags s before {places} size cells few = record {
  few = few;
  own = group-place tags s before few size cells;
  upto = omega arith;
  allowed = omega arith;
  room = length-replicate {A = ℕ} group_max 0;
  occupants = replicate group_max 0;
  choices = replicate group_max 0;
  moving = 0;
  slots = length-replicate {A = ℕ} group_max 0;
  reached =
      started group_max group_max (λ i lt choice. omega (arith, group-below tags s i lt choice)) (omega (arith, group-size tags s));
  match = λ v. rw (replicate-zero group_max v);
  goes = λ Some. record {
    to = group-place tags s before few size cells 0 Some false;
    back = group-place tags s before few size cells 0 Some true;
  };
}

-- The same under other names of the two places.
pub turn-same : {tags : List ℕ} {s : ℕ} {places others : List ℕ} {seated place place' other other' left : ℕ}
    → place' ≡ place → other' ≡ other
    → Turn tags s places others seated place other left → Turn tags s places others seated place' other' left
turn-same p q turn = rw (p, q) turn

module _
    {tags : List ℕ} {s : ℕ} {places others : List ℕ} {seated place other left : ℕ}
    (turn : Turn tags s places others seated place other left) where
  abbrev keys : List Key
  keys = group_under tags s

  abbrev state : State
  state = state_of turn.occupants turn.choices seated turn.moving left

  -- All tags are seated: their choices fill.
  pub turn-all : seated ≡ length tags → (cs : List Bool) × Fills (group_under tags s) cs
  turn-all all = (sequence_of keys state, seated-fills turn.reached (all ∙ sym (group-size tags s)))

  module _ (more : seated ≡ length tags → ⊥) where
    unseated : seated < length tags
    unseated = omega (arith, turn.upto)

    unfinished : seated < length keys
    unfinished = omega (arith, group-size tags s, unseated)

    at-goal : place ≡ goal keys state
    unfolding goal
    at-goal = (turn.goes unseated).to

    -- The moving tag goes to a place, and so does it if it is evicted.
    pub turn-place : place < group_max
    turn-place = omega (arith, at-goal, reached-goal turn.reached unfinished, turn.slots)

    pub turn-other : other < group_max
    unfolding other_under
    turn-other =
        let inside : turn.moving < length keys = omega (arith, reached-among turn.reached, unfinished) in
        omega (
          arith,
          (turn.goes unseated).back,
          group-below tags s turn.moving inside (not (eqb (get_or turn.choices turn.moving 0) 1)),
          turn.few,
        )

    -- What the place's cell says of its occupant.
    abbrev has : ℕ
    has = get_or turn.occupants place 0

    at-occupant : has ≡ occupant keys state
    unfolding occupant
    at-occupant = rw at-goal

    -- A free cell is a free place.
    free-place : get_or others place 0 ≡ 0 → occupant keys state ≡ 0
    unfolding cell_of Matches
    free-place free = go has (sym (turn.match place) ∙ free) at-occupant
      where
        go : (o : ℕ) → cell_of keys turn.choices o ≡ 0 → o ≡ occupant keys state → occupant keys state ≡ 0
        go zero z e = sym e
        go (suc i) z e = absurd (omega arith)

    module _ (free : get_or others place 0 ≡ 0) where
      -- The place was free: the next tag enters by a choice.
      seated-next : (choice : ℕ) → choice < 2 → (place' other' : ℕ)
          → (seated + 1 < length tags → Goes keys (set turn.choices (seated + 1) choice) (seated + 1) place' other')
          → Turn tags s places (set others place (other + 1)) (seated + 1) place' other' (2 * (seated + 1) + 1)
      unfolding seat_key
      seated-next choice two place' other' goes = record {
        few = turn.few;
        own = turn.own;
        upto = omega (arith, unseated);
        allowed = omega arith;
        room = length-set others place (other + 1) ∙ turn.room;
        occupants = set turn.occupants place (turn.moving + 1);
        choices = set turn.choices (seated + 1) choice;
        moving = seated + 1;
        slots = length-set turn.occupants place (turn.moving + 1) ∙ turn.slots;
        reached = rw at-goal (seats choice two turn.reached unfinished (free-place free));
        match =
            matches-set keys turn.choices (set turn.choices (seated + 1) choice) turn.occupants others place turn.moving other
            (seated + 1) (omega (arith, turn-place, turn.room)) (omega (arith, turn-place, turn.slots)) (turn.goes unseated).back
            (λ i n. get_or-set_other turn.choices (seated + 1) i choice 0 n) (λ e. omega (arith, reached-among turn.reached))
            (λ v i n e m. omega (arith, (reached-who turn.reached v i e).upto)) turn.match;
        goes = goes;
      }

      -- The choice that it enters by.
      entered : (choice : ℕ) → seated + 1 < length tags → get_or (set turn.choices (seated + 1) choice) (seated + 1) 0 ≡ choice
      entered choice lt =
          get_or-set_same turn.choices (seated + 1) choice 0 (omega (arith, reached-cells turn.reached, group-size tags s))

      -- All tags are seated now.
      pub turn_last : length tags ≤ seated + 1
          → Turn tags s places (set others place (other + 1)) (seated + 1) place other (2 * (seated + 1) + 1)
      turn_last all = seated-next 0 (omega arith) place other (λ lt. absurd (omega arith))

      module _ (next : seated + 1 < length tags) where
        pub next-first : entry_of places (seated + 1) false < group_max
        next-first =
            let below = group-below tags s (seated + 1) (omega (arith, group-size tags s)) false in
            omega (arith, turn.own (seated + 1) next false, turn.few)

        -- The next tag enters at its place under a choice.
        enters : (choice : Bool) (c : ℕ) → c < 2 → eqb c 1 ≡ choice
            → Turn tags s places (set others place (other + 1)) (seated + 1)
            (entry_of places (seated + 1) choice) (entry_of places (seated + 1) (not choice)) (2 * (seated + 1) + 1)
        unfolding place_under other_under
        enters choice c two is =
            let own = turn.own (seated + 1) next in
            seated-next c two (entry_of places (seated + 1) choice) (entry_of places (seated + 1) (not choice))
            (λ lt. record { to = rw (entered c next, is) (own choice); back = rw (entered c next, is) (own (not choice)) })

        pub turn-next : (choice : Bool)
            → Turn tags s places (set others place (other + 1)) (seated + 1)
            (entry_of places (seated + 1) choice) (entry_of places (seated + 1) (not choice)) (2 * (seated + 1) + 1)
        turn-next false = enters false 0 (omega arith) refl
        turn-next true = enters true 1 (omega arith) refl

    module _ (full : get_or others place 0 ≡ 0 → ⊥) where
      -- The place has an occupant,
      full-place : occupant keys state ≡ 0 → ⊥
      unfolding cell_of Matches
      full-place e = full (turn.match place ∙ rw (at-occupant ∙ e))

      abbrev evicted : ℕ
      evicted = occupant keys state - 1

      has-evicted : has ≡ evicted + 1
      has-evicted = omega (arith, at-occupant, full-place)

      -- whose other place the cell has.
      cell-evicted : get_or others place 0 ≡ suc (other_under keys turn.choices evicted)
      unfolding cell_of Matches
      cell-evicted = turn.match place ∙ rw (has-evicted, add-one evicted)

      -- The place was taken, and no eviction left: nothing fills.
      pub turn-spent : left ≡ 0 → NoneFills tags s
      turn-spent out =
          gives-up-none (record { reached = turn.reached; unfinished = unfinished; taken = full-place; spent = out })

      -- The place was taken, and an eviction left: the occupant goes to its other place.
      pub turn-evict : (left ≡ 0 → ⊥)
          → Turn tags s places (set others place (other + 1)) seated (get_or others place 0 - 1) place (left - 1)
      unfolding evict_key place_under other_under
      turn-evict further = record {
        few = turn.few;
        own = turn.own;
        upto = turn.upto;
        allowed = omega (arith, turn.allowed);
        room = length-set others place (other + 1) ∙ turn.room;
        occupants = set turn.occupants place (turn.moving + 1);
        choices = toggled;
        moving = evicted;
        slots = length-set turn.occupants place (turn.moving + 1) ∙ turn.slots;
        reached = rw at-goal (evicts turn.reached unfinished full-place (omega arith));
        match =
            matches-set keys turn.choices toggled turn.occupants others place turn.moving other evicted
            (omega (arith, turn-place, turn.room)) (omega (arith, turn-place, turn.slots)) (turn.goes unseated).back
            (λ i n. get_or-set_other turn.choices evicted i (1 - was) 0 n) (λ e. it.still (sym e))
            (λ v i n e m. n ((reached-who turn.reached v i e).place ∙ ap (place_under keys turn.choices) m ∙ sym it.place))
            turn.match;
        goes = λ lt. record {
          to = next ∙ rw (here, other-number was two);
          back = it.place ∙ rw (here, other-number was two, not-not);
        };
      }
        where
          it : Has keys state evicted place
          it = reached-who turn.reached place evicted has-evicted

          was : ℕ
          was = get_or turn.choices evicted 0

          toggled : List ℕ
          toggled = set turn.choices evicted (1 - was)

          two : was < 2
          two = reached-choice turn.reached evicted

          next : get_or others place 0 - 1 ≡ other_under keys turn.choices evicted
          next = omega (arith, cell-evicted)

          here : get_or toggled evicted 0 ≡ 1 - was
          here =
              get_or-set_same turn.choices evicted (1 - was) 0
              (omega (arith, it.upto, reached-cells turn.reached, unfinished))
