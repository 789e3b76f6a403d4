-- `equations::least_word` meets its contract: the table says the equations of the places passed, and once it says all of them its least
-- solution is the least word that makes the places all different. Assumes nothing.
use Prim.Native.Nat.{ℕ, suc, ◌<◌, ◌≤◌}
use mathlib.Core.Path.{◌≡◌, refl, sym}
use mathlib.Core.List.{List}
use native.Mathlib.Numerals.{add-one}
use native.Mathlib.Omega.{arith}
use lib.ListN.{length, get_or, take}
use lib.Seq.{length-take-le, get_or-take}
use Rattle.refusal.specs.Limits.{group_max}
use Rattle.filling.specs.Filling.{Key}
use Rattle.lists.specs.UpTo.{up_to}
use Rattle.lists.proofs.UpToLaws.{up_to-length, up_to-at}
use Rattle.places.specs.Array.{keys_of}
use Rattle.places.proofs.ArrayLaws.{keys_of-length}
use Rattle.equations.specs.Stated.{Stated}
use Rattle.equations.specs.Equation.{equation_of}
use Rattle.equations.proofs.EquationLaws.{Rows, equation-fits}
use Rattle.equations.proofs.StatedLaws.{stated-rows}
use Rattle.equations.proofs.SystemLaws.{System, system-start, system-turn, least-none, least-some}
use Rattle.equations.proofs.least_word.Goals as goal
use Rattle.equations.proofs.least_word.Goals.{After-insert}

module _ {n : ℕ} {places rows : List ℕ} (stated : Stated n places rows) where
  -- The keys and their rows.
  abbrev keys : List Key
  keys = keys_of n places

  abbrev own : List ℕ
  own = take n rows

  all : Rows 32 keys own
  all = stated-rows stated

  size : length keys ≡ n
  size = keys_of-length n places

  module _ {equations : List ℕ} (e : equations ≡ up_to group_max (equation_of 32 keys own)) where
    -- There is a turn for each place,
    turns : length (take n equations) ≡ n
    turns =
        let size : length equations ≡ group_max = rw e (up_to-length group_max (equation_of 32 keys own)) in
        length-take-le n equations (omega (arith, stated.few))

    -- and it sees the equation of its place.
    equation-at : (v : ℕ) → v < length (take n equations) → get_or (take n equations) v 0 ≡ equation_of 32 keys own v
    equation-at v turn =
        let lt : v < n = omega (arith, turns) in
        let below : v < group_max = omega (arith, stated.few) in
        rw (get_or-take n equations v 0 lt, e) (up_to-at group_max (equation_of 32 keys own) 0 v below)

-- After a turn one equation more is in the table.
next : (c : After-insert) → System 32 (keys c.requires) (own c.requires) (suc c.loop-equation.equation-index) c.insert.new.table
next c =
    let own = equation-at c.requires c.equations_of-equations.ensures.answer c.loop-equation.equation-index c.loop-equation-test.true in
    system-turn c.loop-equation.invariant.system (rw own at c.insert.ensures.cells)

pub loop-equation-init : goal.loop-equation-init
loop-equation-init c = record {
  upto = omega arith;
  system = system-start 32 (keys c.requires) (own c.requires);
  free = refl;
}

pub insert-requires : goal.insert-requires
insert-requires c = (
  c.loop-equation.invariant.system.sound,
  rw (equation-at c.requires c.equations_of-equations.ensures.answer c.loop-equation.equation-index c.loop-equation-test.true)
      (equation-fits 32 (keys c.requires) (own c.requires) c.loop-equation.equation-index (all c.requires).fits),
)

pub returns-then-table-ne0 : goal.returns-then-table-ne0
returns-then-table-ne0 c =
    let room : suc c.loop-equation.equation-index ≤ length (keys c.requires) =
    omega (arith, size c.requires, turns c.requires c.equations_of-equations.ensures.answer, c.loop-equation-test.true) in
    record {
      answer = sym (least-none (all c.requires) (next (goal.at.returns-then-table-ne0 c).After-insert) room c.if-table-ne0.true);
    }

pub loop-equation-preserved : goal.loop-equation-preserved
loop-equation-preserved c = record {
  upto = omega (arith, turns c.requires c.equations_of-equations.ensures.answer, c.loop-equation-test.true);
  system = rw (add-one c.loop-equation.equation-index) (next (goal.at.loop-equation-preserved c).After-insert);
  free = c.if-table-ne0.false;
}

pub returns : goal.returns
returns c =
    let at = c.loop-equation.invariant in
    let whole : c.loop-equation.equation-index ≡ length (keys c.requires) =
    omega (arith, size c.requires, at.upto, turns c.requires c.equations_of-equations.ensures.answer, c.loop-equation-test.false) in
    record {
      answer = sym (least-some (all c.requires) at.system whole c.least_solution.result c.least_solution.ensures.answer);
    }
