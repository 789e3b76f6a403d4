-- `candidates::lay` meets its contract: a turn lays the place of one tag more. Assumes nothing.
use mathlib.Core.Path.{◌≡◌, sym, ◌∙◌}
use mathlib.Core.List.{map}
use native.Mathlib.Numerals.{add-one}
use native.Mathlib.Omega.{arith}
use lib.ListN.{length, get_or, length-map, get_or-map}
use lib.Seq.{paste-zero, paste-suc}
use Rattle.hash.specs.Formula.{hashed}
use Rattle.candidates.proofs.lay.Goals as goal

pub loop-i-init : goal.loop-i-init
loop-i-init c =
    let a = c.args in
    (omega arith, paste-zero a.places.now a.from (map (hashed a.multiplier a.n) a.tags.now))

pub loop-i-preserved : goal.loop-i-preserved
loop-i-preserved c =
    let a = c.args in
    let f = hashed a.multiplier a.n in
    let laid = map f a.tags.now in
    let value : c.hashed.result ≡ get_or laid c.loop-i.i (f 0) =
    c.hashed.ensures.answer ∙ sym (get_or-map f a.tags.now c.loop-i.i 0) in (
      omega arith,
      rw (c.loop-i.invariant.1, value, add-one c.loop-i.i)
          (paste-suc a.places.now a.from laid c.loop-i.i (f 0) (omega arith) (omega (arith, length-map a.tags.now f))),
    )

pub returns : goal.returns
returns c =
    let at = c.loop-i in
    let a = c.args in
    let all : at.i ≡ length a.tags.now = omega arith in
    record { cells = rw (← all) at.invariant.1 }
