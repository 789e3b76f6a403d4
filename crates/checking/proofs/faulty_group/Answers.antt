-- `checking::faulty_group` meets its contract: no group before g is faulty, and the first that is ends the loop. Assumes nothing.
use mathlib.Core.Path.{refl, sym, ◌∙◌}
use native.Mathlib.Omega.{arith}
use Rattle.lists.specs.First.{first}
use Rattle.lists.proofs.SearchLaws.{searched-start, searched-turn, searched-found, searched-done}
use Rattle.checking.specs.Steps.{faulty_at}
use Rattle.checking.proofs.faulty_group.Goals as goal

pub loop-g-init : goal.loop-g-init
unfolding first
loop-g-init c =
    let a = c.args in searched-start (faulty_at a.starts.now) 0 a.groups (omega arith) refl

pub returns-then-faulty : goal.returns-then-faulty
returns-then-faulty c =
    let a = c.args in
    record {
      answer = sym (searched-found (faulty_at a.starts.now) 0 a.groups c.loop-g.g c.loop-g.invariant c.loop-g-test.true
          (sym c.faulty.ensures.answer ∙ c.if-faulty.true));
    }

pub loop-g-preserved : goal.loop-g-preserved
loop-g-preserved c =
    let a = c.args in
    searched-turn (faulty_at a.starts.now) 0 a.groups c.loop-g.g c.loop-g.invariant c.loop-g-test.true
    (sym c.faulty.ensures.answer ∙ c.if-faulty.false)

pub returns : goal.returns
returns c =
    let a = c.args in
    record { answer = sym (searched-done (faulty_at a.starts.now) 0 a.groups c.loop-g.g c.loop-g.invariant c.loop-g-test.false) }
