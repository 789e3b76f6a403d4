-- What lookup answers over the C boundary meets Condition 2. Assumes nothing.
use Rattle.std.specs.Prelude.{◌≡◌, List, ℕ}
use Rattle.std.proofs.Common.{◌∙◌}
use Rattle.refusal.specs.Outcome.{answered_by}
use Rattle.lookup.specs.Condition2Laws.{lookup-condition2}
use Rattle.answer64.specs.Answer64.{answer64, found_number}
use Rattle.tag_index.specs.Calls.{lookup_answer}
use Rattle.tag_index.specs.Condition2.{AnswerCondition2}

-- What lookup answers is the answer, and meets it.
pub answered-condition2 : (image : List ℕ) (t : ℕ) {r : ℕ} → r ≡ lookup_answer image t
    → (r ≡ lookup_answer image t) × AnswerCondition2 image t r
unfolding lookup_answer answer64 answered_by found_number
answered-condition2 image t e =
    let told = lookup-condition2 image t in (
      e,
      record {
        finds = λ accepted j holds. e ∙ rw ((told.finds accepted j).1 holds);
        misses = λ accepted nowhere. e ∙ rw ((told.misses accepted).1 nowhere);
      },
    )
