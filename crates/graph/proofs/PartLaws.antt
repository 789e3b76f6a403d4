-- The parts by walks and the parts counted are the same: a part's points and edges, and how many parts there are, whichever point
-- stands for each. Assumes nothing.
use Rattle.std.specs.Prelude.{ℕ, suc, ◌≤◌, ◌<◌, ◌≡◌, ◌↔◌, Bool, ◌&&◌, List, map, length, get_or, Option, None, Some}
use Rattle.std.proofs.Math.Path.{refl, sym}
use Rattle.std.proofs.Common.{◌∙◌, true≢false}
use Rattle.std.proofs.Math.Bool.{true, false, and_self}
use Rattle.std.proofs.lemmas.Bool.{false≢true}
use Rattle.std.proofs.Math.Decide.{ℕ_discrete, dec_lt}
use native.Mathlib.Omega.{arith}
use Rattle.std.proofs.Math.Dec.{eqb}
use Rattle.std.proofs.lemmas.List.{length-map}
use borrow.Author.Tests.{eqb-true, eq-eqb, ne_eqb, ltb-false, le-ltb, not-true}
use Rattle.lists.proofs.BoolLaws.{both-of-and}
use Rattle.lists.specs.First.{first}
use Rattle.lists.proofs.FirstLaws.{first_some, first-none, first_out, none-of-is_some, is_some-of-none}
use Rattle.lists.specs.Occurs.{occurs, distinct}
use Rattle.lists.proofs.OccursLaws.{pigeonhole, get_or-occurs, occurs-get_or, distinct-get_or, get_or-distinct}
use Rattle.filling.specs.Filling.{Key, place_by, Fills, EachCandidate}
use Rattle.filling.specs.Separate.{key_place}
use Rattle.graph.specs.HowMany.{how_many}
use Rattle.graph.proofs.HowManyLaws.{how_many-at, how_many-map, how_many-same}
use Rattle.graph.specs.Graph.{Connected, connected}
use Rattle.graph.specs.Part.{Part, NoPartHasMoreEdges, OneOfEach, PartsAre}
use Rattle.graph.specs.Parts.{points, part_points, part_edges, more_edges, lowest, parts_of}
use Rattle.graph.specs.Label.{label}
use Rattle.graph.proofs.ConnectedLaws.{connected-label, key-label, connected-is, connected-one-label}
use Rattle.graph.proofs.MergeLaws.{points_with, edges_with}
use Rattle.graph.proofs.RoomLaws.{fills-labels, labels-fill}
use Rattle.graph.proofs.NumberLaws.{label-again, label-below, root}
use Rattle.graph.proofs.ListedLaws.{passing, passing-length, passing-passes, passing-has, passing-distinct, listed-length}
use Rattle.graph.proofs.ListedLaws.{how_many-by-index, how_many-some, map_at, map-occurs}

eqb-turned : (a b : ℕ) → eqb a b ≡ eqb b a
eqb-turned a b = go (ℕ_discrete a b)
  where
    go : Dec (a ≡ b) → eqb a b ≡ eqb b a
    go (yes e) = eq-eqb a b e ∙ sym (eq-eqb b a (sym e))
    go (no m) = ne_eqb a b m ∙ sym (ne_eqb b a (λ e. m (sym e)))

module _ (keys : List Key) where
  -- Is the key with an index an edge of the part of point v: are both its places points of it?
  abbrev edge_of : ℕ → ℕ → Bool
  edge_of v i = connected keys v (key_place keys i false) && connected keys v (key_place keys i true)

  edges-counted : (v : ℕ) → how_many (edge_of v) (points (length keys)) ≡ part_edges keys v
  unfolding part_edges
  edges-counted v =
      how_many-by-index (λ key. connected keys v (place_by false key) && connected keys v (place_by true key)) (0, 0) keys

  edge-walks : (v i : ℕ) → (edge_of v i ≡ true) ↔ ((choice : Bool) → Connected keys v (key_place keys i choice))
  edge-walks v i = (there, back)
    where
      there : (connected keys v (key_place keys i false) && connected keys v (key_place keys i true)) ≡ true
          → (choice : Bool) → Connected keys v (key_place keys i choice)
      there e false =
          (connected-is keys v (key_place keys i false)).0
          (both-of-and (connected keys v (key_place keys i false)) (connected keys v (key_place keys i true)) e).0
      there e true =
          (connected-is keys v (key_place keys i true)).0
          (both-of-and (connected keys v (key_place keys i false)) (connected keys v (key_place keys i true)) e).1

      back : ((choice : Bool) → Connected keys v (key_place keys i choice))
          → (connected keys v (key_place keys i false) && connected keys v (key_place keys i true)) ≡ true
      back walks =
          rw ((connected-is keys v (key_place keys i false)).1 (walks false), (connected-is keys v (key_place keys i true)).1 (walks true))

  -- A part has as many points and edges as are counted for any point of it.
  pub part-points : {n : ℕ} {points edges : List ℕ} (part : Part n keys points edges) → length points ≡ part_points n keys part.member
  unfolding part_points
  part-points {n} {points} part =
      listed-length (connected keys part.member) n points part.points-once
      (λ v. (
        λ t. let (lt, walk) = (part.points-are v).0 t in (lt, (connected-is keys part.member v).1 walk),
        λ (lt, e). (part.points-are v).1 (lt, (connected-is keys part.member v).0 e),
      ))

  pub part-edges : {n : ℕ} {points edges : List ℕ} (part : Part n keys points edges) → length edges ≡ part_edges keys part.member
  part-edges {n} {points} {edges} part =
      listed-length (edge_of part.member) (length keys) edges part.edges-once
      (λ i. (
        λ t. let (lt, walks) = (part.edges_are i).0 t in (lt, (edge-walks part.member i).1 walks),
        λ (lt, e). (part.edges_are i).1 (lt, (edge-walks part.member i).0 e),
      ))
      ∙ edges-counted part.member

  -- Each point has a part.
  pub part_of_lem : (n v : ℕ) → v < n → Part n keys (passing (connected keys v) n) (passing (edge_of v) (length keys))
  part_of_lem n v lt = record {
    member = v;
    member_below = lt;
    points-once = passing-distinct (connected keys v) n;
    points-are = λ u. (
      λ t. let (below, e) = passing-passes (connected keys v) n u t in (below, (connected-is keys v u).0 e),
      λ (below, walk). passing-has (connected keys v) n u below ((connected-is keys v u).1 walk),
    );
    edges-once = passing-distinct (edge_of v) (length keys);
    edges_are = λ i. (
      λ t. let (below, e) = passing-passes (edge_of v) (length keys) i t in (below, (edge-walks v i).0 e),
      λ (below, walks). passing-has (edge_of v) (length keys) i below ((edge-walks v i).1 walks),
    );
  }

  -- No part has more edges than points exactly where none is counted with more.
  module _ (n : ℕ) where
    served : (parts_of n keys).serves ≡ true → (v : ℕ) → v < n → part_edges keys v ≤ part_points n keys v
    unfolding parts_of more_edges
    served e v lt =
        let out = none-of-is_some (first (more_edges n keys) n) (not-true _ e) in
        ltb-false (part_points n keys v) (part_edges keys v) (first-none (more_edges n keys) n out v lt)

    serving : ((v : ℕ) → v < n → part_edges keys v ≤ part_points n keys v) → (parts_of n keys).serves ≡ true
    unfolding parts_of more_edges
    serving h =
        let out = first_out (more_edges n keys) n (λ v lt. le-ltb (part_points n keys v) (part_edges keys v) (h v lt)) in
        rw (is_some-of-none out)

    pub serves-parts : ((parts_of n keys).serves ≡ true) ↔ NoPartHasMoreEdges n keys
    unfolding part_points
    serves-parts = (
      λ e points edges part.
          omega (arith, part-points part, part-edges part, served e part.member part.member_below),
      λ no_part. serving (λ v lt.
          omega (
            arith,
            passing-length (connected keys v) n,
            passing-length (edge_of v) (length keys),
            edges-counted v,
            no_part _ _ (part_of_lem n v lt),
          )),
    )

    -- A part's points and edges are those with its label.
    pub points-labelled : (v : ℕ) → part_points n keys v ≡ points_with n keys (label keys v)
    unfolding part_points
    points-labelled v = how_many-same _ _ (points n) (λ u. connected-label keys v u ∙ eqb-turned (label keys v) (label keys u))

    pub edges-labelled : (v : ℕ) → part_edges keys v ≡ edges_with keys (label keys v)
    unfolding part_edges
    edges-labelled v =
        how_many-at (λ key. connected keys v (place_by false key) && connected keys v (place_by true key))
        (λ key. eqb (label keys (place_by false key)) (label keys v)) (0, 0) keys (λ i lt.
        rw (
          connected-label keys v (key_place keys i false),
          connected-label keys v (key_place keys i true),
          ← key-label keys i lt,
          and_self (eqb (label keys v) (label keys (key_place keys i false))),
        )
        (eqb-turned (label keys v) (label keys (key_place keys i false))))
        ∙ sym (how_many-map (place_by false) (λ u. eqb (label keys u) (label keys v)) keys)

    -- So the seed serves exactly where no label has more edges than points.
    module _ (below : EachCandidate (λ x. x < n) keys) where
      pub served-labels : (parts_of n keys).serves ≡ true → (r : ℕ) → edges_with keys r ≤ points_with n keys r
      served-labels e r = go (dec_lt 0 (edges_with keys r))
        where
          go : Dec (0 < edges_with keys r) → edges_with keys r ≤ points_with n keys r
          go (no without) = omega (arith, without)
          go (yes positive) =
              let counted = how_many-map (place_by false) (λ u. eqb (label keys u) r) keys in
              let (i, lt, t) = how_many-some (λ key. eqb (label keys (place_by false key)) r) (0, 0) keys (omega arith) in
              let v = key_place keys i false in
              let same : label keys v ≡ r = eqb-true (label keys v) r t in
              rw same at (labelled v (below i lt false))
            where
              labelled : (v : ℕ) → v < n → edges_with keys (label keys v) ≤ points_with n keys (label keys v)
              labelled v lt = omega (arith, served e v lt, points-labelled v, edges-labelled v)

      labels-serve : ((r : ℕ) → edges_with keys r ≤ points_with n keys r) → (parts_of n keys).serves ≡ true
      labels-serve h = serving (λ v lt. omega (arith, h (label keys v), points-labelled v, edges-labelled v))

      -- THE SECOND TEST SAYS WHAT THE FIRST DOES: no part has more edges than points exactly where some choice sequence fills.
      pub serves-fills : ((parts_of n keys).serves ≡ true) ↔ ((cs : List Bool) × Fills keys cs)
      serves-fills = (
        λ e. labels-fill n keys (served-labels e),
        λ (cs, f). labels-serve (fills-labels n keys cs below f),
      )

-- How many parts there are does not depend on which point stands for each.
module _ (n : ℕ) (keys : List Key) where
  members-most : (xs ys : List ℕ) → OneOfEach n keys xs → OneOfEach n keys ys → length xs ≤ length ys
  members-most xs ys ox oy =
      omega (
        arith,
        length-map xs (label keys),
        length-map ys (label keys),
        pigeonhole (map (label keys) xs) (map (label keys) ys) once among,
      )
    where
      once : distinct (map (label keys) xs) ≡ true
      once = get_or-distinct (map (label keys) xs) (λ i j li lj e.
          let size = length-map xs (label keys) in
          let li' : i < length xs = omega arith in
          let lj' : j < length xs = omega arith in
          let one_Label = sym (map_at (label keys) xs i li') ∙ e ∙ map_at (label keys) xs j lj' in
          ox.apart i j li' lj' ((connected-one-label keys (get_or xs i 0) (get_or xs j 0)).1 one_Label))

      among : (r : ℕ) → occurs r (map (label keys) xs) ≡ true → occurs r (map (label keys) ys) ≡ true
      among r t =
          let at = occurs-get_or (map (label keys) xs) r t in
          let inside : at.index < length xs = omega (arith, at.inside, length-map xs (label keys)) in
          let v = get_or xs at.index 0 in
          let (member, has, walk) = oy.each v (ox.below v (get_or-occurs xs at.index inside)) in
          let same : label keys member ≡ r =
          (connected-one-label keys member v).0 walk ∙ sym (map_at (label keys) xs at.index inside) ∙ at.value in
          rw same at (map-occurs (label keys) ys member has)

  members-same : (xs ys : List ℕ) → OneOfEach n keys xs → OneOfEach n keys ys → length xs ≡ length ys
  members-same xs ys ox oy = omega (arith, members-most xs ys ox oy, members-most ys xs oy ox)

  -- THERE IS ONE NUMBER OF PARTS.
  pub parts-unique : (k l : ℕ) → PartsAre n keys k → PartsAre n keys l → k ≡ l
  parts-unique k l (xs, ox, size_x) (ys, oy, size_y) = sym size_x ∙ members-same xs ys ox oy ∙ size_y

  -- The points that pass a test stand for the parts where no two of them are connected and each point is connected with one of them.
  stand-for : (test : ℕ → Bool) → ((u v : ℕ) → test u ≡ true → test v ≡ true → label keys u ≡ label keys v → u ≡ v)
      → ((v : ℕ) → v < n → (u : ℕ) × (u < n) × (test u ≡ true) × (label keys u ≡ label keys v)) → OneOfEach n keys (passing test n)
  stand-for test apart each = record {
    below = λ v t. (passing-passes test n v t).0;
    apart = λ i j li lj walk.
        let xs = passing test n in
        let passes : (k : ℕ) → k < length xs → test (get_or xs k 0) ≡ true = λ k lt. (passing-passes test n _ (get_or-occurs xs k lt)).1 in
        distinct-get_or xs (passing-distinct test n) i j li lj
        (apart _ _ (passes i li) (passes j lj) ((connected-one-label keys _ _).0 walk));
    each = λ v lt.
        let (u, below, passes, same) = each v lt in
        (u, passing-has test n u below passes, (connected-one-label keys u v).1 same);
  }

  -- The lowest points do,
  lowest-apart : (u v : ℕ) → lowest keys u ≡ true → label keys u ≡ label keys v → u ≤ v
  unfolding lowest
  lowest-apart u v low same = go (dec_lt v u)
    where
      go : Dec (v < u) → u ≤ v
      go (no ge) = omega (arith, ge)
      go (yes lt) =
          let none-lower = first-none (connected keys u) u (none-of-is_some _ (not-true _ low)) v lt in
          let z = sym none-lower ∙ connected-label keys u v ∙ eq-eqb (label keys u) (label keys v) same in
          absurd (false≢true z)

  pub lowest-stand : OneOfEach n keys (passing (lowest keys) n)
  unfolding lowest
  lowest-stand =
      stand-for (lowest keys)
      (λ u v lu lv same. omega (arith, lowest-apart u v lu same, lowest-apart v u lv (sym same)))
      (λ v lt. go v lt (first (connected keys v) (suc v)) refl)
    where
      itself : (v : ℕ) → connected keys v v ≡ true
      itself v = connected-label keys v v ∙ eq-eqb (label keys v) (label keys v) refl

      go : (v : ℕ) → v < n → (o : Option ℕ) → first (connected keys v) (suc v) ≡ o
          → (u : ℕ) × (u < n) × (lowest keys u ≡ true) × (label keys u ≡ label keys v)
      go v lt None e = absurd (true≢false (sym (itself v) ∙ first-none (connected keys v) (suc v) e v (omega arith)))
      go v lt (Some u) e =
          let at = first_some (connected keys v) (suc v) e in
          let same : label keys u ≡ label keys v = sym (eqb-true _ _ (sym (connected-label keys v u) ∙ at.holds)) in
          (u, omega (arith, at.below), low u same at.lowest, same)
        where
          low : (u : ℕ) → label keys u ≡ label keys v → ((j : ℕ) → j < u → connected keys v j ≡ false) → lowest keys u ≡ true
          low u same lower =
              rw (is_some-of-none (first_out (connected keys u) u (λ j lt.
              connected-label keys u j ∙ rw same (sym (connected-label keys v j)) ∙ lower j lt)))

  -- and the roots.
  roots-stand : EachCandidate (λ x. x < n) keys → OneOfEach n keys (passing (root keys) n)
  roots-stand below =
      stand-for (root keys)
      (λ u v ru rv same. sym (eqb-true (label keys u) u ru) ∙ same ∙ eqb-true (label keys v) v rv)
      (λ v lt. (
        label keys v,
        label-below n keys below v lt,
        eq-eqb (label keys (label keys v)) (label keys v) (label-again keys v),
        label-again keys v,
      ))

  pub lowest-roots : EachCandidate (λ x. x < n) keys → how_many (lowest keys) (points n) ≡ how_many (root keys) (points n)
  lowest-roots below =
      sym (passing-length (lowest keys) n)
      ∙ members-same (passing (lowest keys) n) (passing (root keys) n) lowest-stand (roots-stand below)
      ∙ passing-length (root keys) n

  -- THE NUMBER THAT IS COUNTED IS THE NUMBER OF PARTS.
  pub parts_are : PartsAre n keys (parts_of n keys).number
  unfolding parts_of
  parts_are = (passing (lowest keys) n, lowest-stand, passing-length (lowest keys) n)
