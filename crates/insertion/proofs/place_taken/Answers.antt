-- `insertion::place_taken` meets its contract: choice 1 takes the entry from the array's middle on, choice 0 the one before it.
-- Assumes nothing.
use mathlib.Core.Path.{◌≡◌, sym, ◌∙◌}
use mathlib.Core.Bool.{true, false}
use Rattle.bits.specs.WordBits.{choice_in}
use Rattle.bits.specs.WordBitsLaws.{choice_number-one, choice_number-zero}
use Rattle.places.specs.Array.{entry_of}
use Rattle.insertion.proofs.place_taken.Goals as goal

pub returns-then-choice_at-eq1 : goal.returns-then-choice_at-eq1
unfolding entry_of
returns-then-choice_at-eq1 c =
    let a = c.args in
    let second : choice_in a.word a.i ≡ true =
    choice_number-one (choice_in a.word a.i) (sym c.choice_at.ensures.answer ∙ c.if-choice_at-eq1.true) in
    record { answer = rw second }

pub returns-else-choice_at-eq1 : goal.returns-else-choice_at-eq1
unfolding entry_of
returns-else-choice_at-eq1 c =
    let a = c.args in
    let first : choice_in a.word a.i ≡ false =
    choice_number-zero (choice_in a.word a.i) (λ e. c.if-choice_at-eq1.false (c.choice_at.ensures.answer ∙ e)) in
    record { answer = rw first }
