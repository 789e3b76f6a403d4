-- `sequence::choices_taken` meets its contract: the word is that of the sequence taken for the first k keys, and the cells hold its
-- occupants. Assumes nothing.
use Rattle.std.specs.Prelude.{◌≡◌}
use Rattle.std.proofs.Common.{◌∙◌}
use native.Mathlib.Omega.{arith}
use Rattle.lists.specs.UpTo.{up_to}
use Rattle.filling.proofs.TakenLaws.{sequence-empty}
use Rattle.filling.specs.Word.{word_of}
use Rattle.places.specs.Array.{keys_of}
use Rattle.places.proofs.ArrayLaws.{candidates-fewer}
use Rattle.insertion.specs.TakenWordLaws.{nothing-more}
use Rattle.insertion.specs.Occupants.{occupants_after}
use Rattle.insertion.specs.OccupantsLaws.{occupants-none}
use Rattle.sequence.proofs.choices_taken.Goals as goal

pub loop-k-init : goal.loop-k-init
unfolding up_to keys_of word_of
loop-k-init c = (omega arith, rw sequence-empty, occupants-none _ _)

pub with_key-requires : goal.with_key-requires
with_key-requires c =
    let inv = c.loop-k.invariant in
    let pre = c.requires in
    record { k_lt_group_max = (omega arith, candidates-fewer _ (omega arith) pre.1, inv.1); occupants_value = inv.2 }

pub returns-in_err-word : goal.returns-in_err-word
returns-in_err-word c =
    let a = c.args in
    record {
      answer = c.from_residual.ensures ∙ nothing-more a.places.now _ a.count (omega arith) c.in_err-word.ensures.answer;
    }

pub loop-k-preserved : goal.loop-k-preserved
unfolding occupants_after
loop-k-preserved c =
    let lt = c.loop-k-test.true in
    (omega arith, c.in_ok-word.ensures.answer, c.in_ok-word.ensures.cells)

pub returns : goal.returns
returns c =
    let at = c.loop-k in
    let all : at.k ≡ c.args.count = omega arith in
    record { answer = rw all at at.invariant.1 }
