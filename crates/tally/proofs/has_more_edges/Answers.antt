-- `tally::has_more_edges` meets its contract: a pair of counts passes exactly where a label has more edges than points. Assumes nothing.
use Prim.Native.Nat.{ℕ, zero, suc, ◌≤◌}
use mathlib.Core.Path.{◌≡◌, refl, sym, ◌∙◌, ap}
use mathlib.Core.Bool.{Bool, true, false}
use mathlib.Core.List.{List}
use native.Mathlib.Numerals.{add-one}
use native.Mathlib.Omega.{arith}
use lib.ListN.{length, get_or, take}
use lib.Seq.{get_or-take, length-take-le, take_all}
use Rattle.std.proofs.Common.{rules, nat_lt, ◌||◌}
use Rattle.std.specs.Prelude.{Option, Some, None}
use Rattle.std.specs.Option.{option_or}
use Rattle.std.proofs.lemmas.Iterator.{YieldsList-from_slice, YieldsList-from_zip}
use Rattle.std.proofs.lemmas.Iterator.Search.{any_from_yields_List}
use borrow.Author.Tests.{tests}
use Rattle.std.specs.List.{list_any, zip}
use Rattle.std.proofs.lemmas.List.Folds.{list_any_more}
use Rattle.std.proofs.lemmas.Slice.Zip.{get_or-zip, length-zip}
use Rattle.lists.specs.First.{first, met_at, is_some}
use Rattle.lists.proofs.FirstLaws.{first_cong}
use Rattle.tally.specs.Tally.{more}
use Rattle.tally.proofs.has_more_edges.Goals as goal

-- The lowest index below one more limit is there where one is there below the limit, or the limit is one.
at-limit : (o : Option ℕ) (limit : ℕ) (b : Bool) → (is_some o || b) ≡ is_some (option_or o (met_at limit b))
unfolding is_some met_at
at-limit None limit true = refl
at-limit None limit false = refl
at-limit (Some k) limit b = refl

-- One of the first n of a list passes a test exactly where an index below n does.
any-first : {A : Type 0} (test : A → Bool) (xs : List A) (d : A) (n : ℕ) → n ≤ length xs
    → list_any test (take n xs) ≡ is_some (first (λ v. test (get_or xs v d)) n)
unfolding first is_some
any-first test xs d zero room = refl
any-first test xs d (suc n) room =
    ap (λ k. list_any test (take k xs)) (sym (add-one n))
    ∙ list_any_more test xs n d (omega arith)
    ∙ rw (any-first test xs d n (omega arith)) (at-limit (first (λ v. test (get_or xs v d)) n) n (test (get_or xs n d)))

-- Are there more edges than points?
abbrev greater : ℕ × ℕ → Bool
greater counts = nat_lt counts.0 counts.1

-- The two counts of each label, side by side.
pairs-first : (points edges : List ℕ) (n : ℕ) → n ≤ length points → n ≤ length edges
    → list_any greater (zip (take n points) (take n edges)) ≡ is_some (first (more points edges) n)
pairs-first points edges n ps es =
    let pairs = zip (take n points) (take n edges) in
    let lp : length (take n points) ≡ n = length-take-le n points ps in
    let le : length (take n edges) ≡ n = length-take-le n edges es in
    let size : length pairs ≡ n = omega (arith, length-zip (take n points) (take n edges), lp, le) in
    ap (list_any greater) (sym (take_all n pairs (omega arith)))
    ∙ any-first greater pairs (0, 0) n (omega arith)
    ∙ ap is_some (first_cong (λ v. greater (get_or pairs v (0, 0))) (more points edges) n (λ v lt.
    rw (
      get_or-zip (take n points) (take n edges) v (0, 0) (omega arith) (omega arith),
      get_or-take n points v 0 lt,
      get_or-take n edges v 0 lt,
    )))

pub returns : goal.returns
returns c =
    let a = c.args in
    let found : c.any.result ≡ list_any greater (zip (take a.n a.points.now) (take a.n a.edges.now)) =
    any_from_yields_List greater c.any.new.self _ c.any.result c.any.ensures.ran
    (YieldsList-from_zip (YieldsList-from_slice (take a.n a.points.now) cc) (YieldsList-from_slice (take a.n a.edges.now) cc))
    (λ x b q k. search (rules, tests)) in
    record {
      answer = found
          ∙ pairs-first a.points.now a.edges.now a.n (omega (arith, c.requires, c.told-points)) (omega (arith, c.requires, c.told-edges));
    }
