-- `group::first_not_above` meets its contract: each tag that the loop has passed is above the one before. Assumes nothing.
use borrow.Author.Count.{below_more}
use mathlib.Core.Path.{◌≡◌, sym}
use native.Mathlib.Omega.{arith}
use Rattle.lists.proofs.FirstLaws.{first_found, first_out}
use Rattle.group.specs.Ascending.{not_above}
use Rattle.group.proofs.AscendingLaws.{first_above, not-above, above}
use Rattle.group.proofs.first_not_above.Goals as goal

pub loop-i-init : goal.loop-i-init
loop-i-init c = (omega arith, λ j lt. let first : j ≡ 0 = omega arith in rw first (first_above _))

pub returns-then-tags-i : goal.returns-then-tags-i
returns-then-tags-i c =
    let tags = c.args.tags.now in
    record {
      answer = sym (first_found (not_above tags) _ _ c.loop-i-test.true
          (not-above tags _ c.loop-i.invariant.0 c.if-tags-i.true) c.loop-i.invariant.1);
    }

pub loop-i-preserved : goal.loop-i-preserved
loop-i-preserved c =
    (omega arith, below_more _ _ c.loop-i.invariant.1 (above c.args.tags.now _ c.loop-i.invariant.0 c.if-tags-i.false))

pub returns : goal.returns
returns c =
    record { answer = sym (first_out (not_above c.args.tags.now) _ (λ j lt. c.loop-i.invariant.1 j (omega (arith, c.loop-i-test.false)))) }
