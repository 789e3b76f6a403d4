-- `printing::print_index` meets its contract: in an output for the longest image 9 never comes, so that what building leaves is what is
-- to be printed, and a refusal, which leaves the output as it was, is written as one line. Assumes nothing.
use mathlib.Core.Path.{sym, ◌∙◌, ap}
use native.Mathlib.Omega.{arith}
use Rattle.refusal.specs.Answer.{outcome}
use Rattle.refusal.proofs.PlaceLaws.{place-below}
use Rattle.from_text.specs.PlaceLaws.{text_lines, from-text-place}
use Rattle.image.proofs.SheetLaws.{longest-is}
use Rattle.printing.specs.PrintingLaws.{printed-nothing, printed-built, printed-refused}
use Rattle.printing.proofs.print_index.Goals as goal

pub returns-then-out-lt-LONGEST_IMAGE : goal.returns-then-out-lt-LONGEST_IMAGE
returns-then-out-lt-LONGEST_IMAGE c =
    let a = c.args in
    let both = printed-nothing a.text.now a.out.now (omega (arith, longest-is, c.if-out-lt-LONGEST_IMAGE.true)) in
    record { answer = both.0; bytes = both.1 }

pub overflow_cast-place : goal.overflow_cast-place
overflow_cast-place c =
    let a = c.args in
    let refused = sym c.build_from_text.ensures.answer ∙ ap outcome c.in-Err.is in
    omega (arith, place-below text_lines (from-text-place a.text.now _) refused)

pub returns-in-Ok : goal.returns-in-Ok
returns-in-Ok c =
    let a = c.args in
    let promised = c.build_from_text.ensures in
    let both = printed-built a.text.now a.out.now (omega (arith, longest-is, c.if-out-lt-LONGEST_IMAGE.false))
    (sym promised.answer ∙ ap outcome c.in-Ok.is) promised.bytes in
    record { answer = both.0; bytes = both.1 }

pub returns-in-Err : goal.returns-in-Err
returns-in-Err c =
    let a = c.args in
    let promised = c.build_from_text.ensures in
    let both = printed-refused a.text.now a.out.now (omega (arith, longest-is, c.if-out-lt-LONGEST_IMAGE.false))
    (sym promised.answer ∙ ap outcome c.in-Err.is) promised.bytes
    (rw c.from-number.ensures at c.write_pair_line.ensures.bytes) in
    record { answer = both.0; bytes = both.1 }
