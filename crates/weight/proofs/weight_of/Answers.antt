-- `weight::weight_of` meets its contract: the sum so far is the weight of the first i choices. Assumes nothing.
use Prim.Native.Nat.{◌<◌}
use mathlib.Core.Path.{◌≡◌, sym, ◌∙◌}
use native.Mathlib.Omega.{arith}
use borrow.Author.Rules.{rules}
use Rattle.filling.specs.Weight.{key_weight, total}
use Rattle.filling.proofs.WeightLaws.{total_first, total-second, weight-most, key_weight-most}
use Rattle.bits.specs.WordBits.{choice_in}
use Rattle.bits.specs.WordBitsLaws.{choice_number-one, choice_number-zero}
use Rattle.weight.proofs.weight_of.Goals as goal
use Rattle.weight.proofs.weight_of.Goals.{then-choice_at-eq1, else-choice_at-eq1}

pub loop-i-init : goal.loop-i-init
unfolding total
loop-i-init c = search rules

pub overflow_add-sum : goal.overflow_add-sum
overflow_add-sum c =
    let lt : c.loop-i.i < 32 = omega arith in
    record {
      fits = omega (arith, weight-most (choice_in c.args.word) c.loop-i.i, key_weight-most c.loop-i.i);
    }

pub loop-i-preserved : goal.loop-i-preserved
loop-i-preserved c =
    let choice = choice_in c.args.word in
    let test = c.choice_at.ensures.answer in
    let i = c.loop-i.i in (
      omega arith,
      elim c.if-choice_at-eq1.branch [
        | then-choice_at-eq1 w ↦
            omega (arith, w, total-second key_weight choice i (choice_number-one (choice i) (sym test ∙ w.if-choice_at-eq1.true)))
        | else-choice_at-eq1 w ↦
            omega (arith, w, total_first key_weight choice i (choice_number-zero (choice i) (λ e. w.if-choice_at-eq1.false (test ∙ e))))
      ],
    )

pub returns : goal.returns
returns c =
    let at = c.loop-i in
    let all : at.i ≡ c.args.count = omega arith in
    record { answer = at.invariant.1 ∙ rw all }
