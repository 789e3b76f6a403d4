-- `insertion::evicting` meets its contract: the two insertions give the lightest words with either choice of key k, and the
-- lighter of them stays. Assumes nothing.
use mathlib.Core.Bool.{true, false}
use Rattle.bits.specs.WordBits.{with_choice}
use Rattle.insertion.specs.InsertedLaws.{ready, one-stays, second-stays, lighter-stays}
use Rattle.insertion.proofs.evicting.Goals as goal

pub insert-requires : goal.insert-requires
unfolding with_choice
insert-requires c =
    let (bounded, lightest) = ready _ _ _ c.requires.k_lt_group_max c.requires.occupants_value false in
    record { k_lt_group_max = bounded; lightest = lightest }

pub insert-requires-in_default : goal.insert-requires-in_default
unfolding with_choice
insert-requires-in_default c =
    let (bounded, lightest) = ready _ _ _ c.requires.k_lt_group_max c.requires.occupants_value true in
    rw c.with_bit.ensures.answer record { k_lt_group_max = bounded; lightest = lightest }

pub returns-in_default : goal.returns-in_default
returns-in_default c =
    let first = rw c.in_default.is at c.insert.ensures.answer in
    let second = rw c.with_bit.ensures.answer at c.insert-in_default.ensures.answer in
    record { answer = second-stays _ _ _ c.requires.k_lt_group_max c.insert-in_default.result first second }

pub insert-requires-2 : goal.insert-requires-2
unfolding with_choice
insert-requires-2 c =
    let (bounded, lightest) = ready _ _ _ c.requires.k_lt_group_max c.requires.occupants_value true in
    rw c.with_bit-2.ensures.answer record { k_lt_group_max = bounded; lightest = lightest }

pub returns-in_default-insert : goal.returns-in_default-insert
unfolding with_choice
returns-in_default-insert c =
    let first = rw c.in-Some.is at c.insert.ensures.answer in
    let second = rw (c.with_bit-2.ensures.answer, c.in_default-insert.is) at c.insert-2.ensures.answer in
    record { answer = one-stays _ _ _ c.requires.k_lt_group_max false _ first second }

pub returns : goal.returns
returns c =
    let first = rw c.in-Some.is at c.insert.ensures.answer in
    let second = rw (c.with_bit-2.ensures.answer, c.in-Some-insert.is) at c.insert-2.ensures.answer in
    record { answer = rw c.lighter.ensures.answer (lighter-stays _ _ _ c.requires.k_lt_group_max _ _ first second) }
