-- `text::tag_in` meets its contract: eight leading columns are read at once, the ninth and the last by themselves. Assumes nothing.
use Rattle.std.proofs.Common.{◌≡◌, ℕ, ◌+◌, ◌*◌, ◌<◌, take, sym, ◌∙◌, arith, le-ltb, lt-ltb}
use Rattle.std.specs.Prelude.{Option, Some}
use Rattle.refusal.specs.Limits.{tag_end}
use Rattle.columns.specs.Columns.{leading_from}
use Rattle.text.specs.Line.{tag_of, within}
use Rattle.text.proofs.Lines.{tag-some, tag-none, tag-no-columns, nine-none, nine-more, nine-below, ending_of, no-ending}
use Rattle.text.proofs.tag_in.Goals as goal
use Rattle.text.proofs.tag_in.Goals.{After-end_digit-last, After-leading_column, Else-last-ge10}

-- Where the ninth column is read: what was read is the number of nine.
nine : (c : After-leading_column) {told : Option ℕ} → c.leading_column.result ≡ told
    → told ≡ leading_from 0 (take 9 c.args.line.now)
nine c e =
    sym e
    ∙ c.leading_column.ensures.answer
    ∙ nine-more c.args.line.now c.requires (sym c.in_ok-eight.was ∙ c.eight_columns.ensures.answer)

-- Where the last column and the line feed are read.
leads : (c : After-end_digit-last) → Some c.in_ok-nine.nine ≡ leading_from 0 (take 9 c.args.line.now)
leads c =
    sym c.in_ok-nine.was
    ∙ c.leading_column.ensures.answer
    ∙ nine-more c.args.line.now c.requires (sym c.in_ok-eight.was ∙ c.eight_columns.ensures.answer)

below : (c : After-end_digit-last) → c.in_ok-nine.nine < 1000000000
below c = nine-below c.args.line.now c.requires (leads c)

-- Where they are a digit and a line feed: the line reads as its number.
abbrev number : Else-last-ge10 → ℕ
number c = c.in_ok-nine.nine * 10 + c.end_digit-last.result

reads : (c : Else-last-ge10) → tag_of c.args.line.now ≡ Some (number c)
reads c =
    let line = c.args.line.now in
    let lead : Some c.in_ok-nine.nine ≡ leading_from 0 (take 9 line) =
    sym c.in_ok-nine.was
    ∙ c.leading_column.ensures.answer
    ∙ nine-more line c.requires (sym c.in_ok-eight.was ∙ c.eight_columns.ensures.answer) in
    tag-some line c.requires (sym lead)
    (ending_of line c.end_digit-last.ensures.answer (omega (arith, c.type_inv.line 9)) (omega (arith, c.type_inv.line 10))
    c.if-last-ge10.false)

pub returns-in_err-eight : goal.returns-in_err-eight
unfolding within
returns-in_err-eight c =
    let line = c.args.line.now in
    record {
      answer = rw (
        c.from_residual.ensures,
        tag-no-columns line c.requires
            (nine-none line c.requires (sym c.in_err-eight.was ∙ c.eight_columns.ensures.answer)),
      );
    }

pub returns-in_err-nine : goal.returns-in_err-nine
unfolding within
returns-in_err-nine c =
    record {
      answer = rw (
        c.from_residual-in_err-nine.ensures,
        tag-no-columns c.args.line.now c.requires
            (nine (goal.at.returns-in_err-nine c).After-leading_column c.in_err-nine.was),
      );
    }

pub returns-then-last-ge10 : goal.returns-then-last-ge10
unfolding within
returns-then-last-ge10 c =
    let line = c.args.line.now in
    let other = c.end_digit-last.ensures.answer in
    record { answer = rw (tag-none line c.requires (λ n y columns end. no-ending line other (omega arith) c.if-last-ge10.true end)) }

pub overflow_mul-t : goal.overflow_mul-t
overflow_mul-t c = omega (arith, below (goal.at.overflow_mul-t c).After-end_digit-last)

pub overflow_add-t : goal.overflow_add-t
overflow_add-t c = omega (arith, below (goal.at.overflow_add-t c).After-end_digit-last)

pub returns-then-t-gt-TAG_MAX : goal.returns-then-t-gt-TAG_MAX
unfolding within
returns-then-t-gt-TAG_MAX c =
    let e = reads (goal.at.returns-then-t-gt-TAG_MAX c).Else-last-ge10 in
    record { answer = rw (e, le-ltb (number (goal.at.returns-then-t-gt-TAG_MAX c).Else-last-ge10) tag_end (omega arith)) }

pub returns : goal.returns
unfolding within
returns c =
    let e = reads (goal.at.returns c).Else-last-ge10 in
    record { answer = rw (e, lt-ltb (number (goal.at.returns c).Else-last-ge10) tag_end (omega arith)) }
