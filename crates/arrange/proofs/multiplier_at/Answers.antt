-- `arrange::multiplier_at` meets its contract: the word's choice is 1, or it is 0. Assumes nothing.
use mathlib.Core.Path.{sym, ◌∙◌}
use Rattle.bits.specs.WordBitsLaws.{choice_number-one, choice_number-zero}
use Rattle.arrange.proofs.multiplier_at.Goals as goal

pub returns-then-choice_at-eq1 : goal.returns-then-choice_at-eq1
returns-then-choice_at-eq1 c = record { answer = rw (choice_number-one _ (sym c.choice_at.ensures.answer ∙ c.if-choice_at-eq1.true)) }

pub returns-else-choice_at-eq1 : goal.returns-else-choice_at-eq1
returns-else-choice_at-eq1 c =
    record { answer = rw (choice_number-zero _ (λ e. c.if-choice_at-eq1.false (c.choice_at.ensures.answer ∙ e))) }
