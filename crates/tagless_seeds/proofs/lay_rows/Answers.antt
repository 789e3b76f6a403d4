-- `tagless_seeds::lay_rows` meets its contract: a turn lays the row of one tag more. Assumes nothing.
use mathlib.Core.Path.{◌≡◌, refl, ◌∙◌}
use native.Mathlib.Omega.{arith}
use lib.ListN.{length, get_or}
use lib.Seq.{take_all}
use Rattle.tagless_group.specs.Row.{row_of}
use Rattle.tagless_seeds.specs.Rows.{rows_under, rows_into}
use Rattle.tagless_seeds.specs.RowsLaws.{rows_more}
use Rattle.tagless_seeds.proofs.lay_rows.Goals as goal

pub loop-i-init : goal.loop-i-init
unfolding rows_under
loop-i-init c = (omega arith, refl)

pub loop-i-preserved : goal.loop-i-preserved
unfolding row_of
loop-i-preserved c =
    let a = c.args in
    let i = c.loop-i.i in
    let value : c.wrapping_multiply.result ≡ row_of a.seed (get_or a.tags.now i 0) =
    c.wrapping_multiply.ensures.answer ∙ rw c.row_multiplier-multiplier.ensures.answer in (
      omega arith,
      rw (c.loop-i.invariant.1, value) (rows_more a.tags.now a.seed i a.rows.now (omega arith) (omega arith)),
    )

pub returns : goal.returns
unfolding rows_into
returns c =
    let a = c.args in
    let all : c.loop-i.i ≡ length a.tags.now = omega arith in
    record { cells = c.loop-i.invariant.1 ∙ rw (take_all c.loop-i.i a.tags.now (omega arith), all) }
