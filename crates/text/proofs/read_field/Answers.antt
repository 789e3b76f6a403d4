-- `text::read_field` meets its contract: the columns before the last are leading columns, and the last is a digit. Assumes nothing.
use Rattle.std.proofs.Common.{◌≡◌, ◌≤◌, suc, [], ◌∷◌, ◌++◌, length, take, drop, sym, refl, ◌∙◌, arith, take_all}
use Rattle.std.specs.Prelude.{Some}
use Rattle.columns.specs.Columns.{leading_from}
use Rattle.text.specs.Field.{field}
use Rattle.text.proofs.FieldLaws.{field-blank}
use Rattle.text.proofs.PartLaws.{part-some, part-none}
use Rattle.text.proofs.Fields.{field-cut-off, field-split, leads-below, leads-turn, leads-none, leads-no-digit, leads-digit}
use Rattle.text.proofs.read_field.Goals as goal
use Rattle.text.proofs.read_field.Goals.{In_ok-part, In_ok-last, After-wrapping_sub_u8-digit}

-- Where the text has the field.
long : (c : In_ok-part) → length c.in_ok-part.field-0.now ≡ c.args.width
long c = (part-some c.args.bytes.now c.args.at c.args.width c.in_ok-part.ensures.answer).long

-- Where it has a last column: the field is its leading columns, at most 18, and that one.
few : (c : In_ok-last) → length c.in_ok-last.leading.now ≤ 18
few c = omega (arith, c.in_ok-last.ensures.cases.1, long (goal.at.In_ok-last c).In_ok-part)

split : (c : In_ok-last)
    → field c.args.width (take c.args.width (drop c.args.at c.args.bytes.now))
    ≡ field (suc (length c.in_ok-last.leading.now)) (c.in_ok-last.leading.now ++ (c.in_ok-last.last.now ∷ []))
split c =
    let whole = part-some c.args.bytes.now c.args.at c.args.width c.in_ok-part.ensures.answer in
    rw (← whole.is) (field-split _ _ _ _ whole.long c.in_ok-last.ensures.cases)

-- Behind the loop all leading columns are read.
reads : (c : After-wrapping_sub_u8-digit) → leading_from 0 c.in_ok-last.leading.now ≡ Some c.loop-byte.v
reads c = rw (take_all _ _ c.loop-byte-test.false) at c.loop-byte.invariant

pub returns-in_err-part : goal.returns-in_err-part
returns-in_err-part c =
    let short = part-none c.args.bytes.now c.args.at c.args.width c.in_err-part.ensures.answer in
    record { answer = c.from_residual.ensures ∙ field-cut-off _ _ _ short }

pub returns-in_err-last : goal.returns-in_err-last
returns-in_err-last c =
    let none : c.args.width ≡ 0 = sym (long (goal.at.returns-in_err-last c).In_ok-part) ∙ c.in_err-last.ensures.cases in
    record { answer = c.from_residual-in_err-last.ensures ∙ rw none (sym (field-blank _)) }

pub loop-byte-init : goal.loop-byte-init
unfolding leading_from
loop-byte-init c = refl

pub leading_column-requires : goal.leading_column-requires
leading_column-requires c = leads-below _ _ _ c.loop-byte.invariant (omega arith) (few (goal.at.leading_column-requires c).In_ok-last)

pub returns-in_err-v : goal.returns-in_err-v
returns-in_err-v c =
    record {
      answer = c.from_residual-in_err-v.ensures
          ∙ leads-none _ _ _ _ c.loop-byte.invariant c.loop-byte-test.true (sym c.in_err-v.was ∙ c.leading_column.ensures.answer)
          ∙ sym (split (goal.at.returns-in_err-v c).In_ok-last);
    }

pub loop-byte-preserved : goal.loop-byte-preserved
loop-byte-preserved c = leads-turn _ _ _ c.loop-byte.invariant c.loop-byte-test.true (sym c.in_ok-v.was ∙ c.leading_column.ensures.answer)

pub returns-then-digit-ge10 : goal.returns-then-digit-ge10
returns-then-digit-ge10 c =
    let places = goal.at.returns-then-digit-ge10 c in
    let other = c.wrapping_sub_u8-digit.ensures.value in
    record {
      answer = leads-no-digit _ _ _ _ (reads places.After-wrapping_sub_u8-digit) other (omega arith) c.if-digit-ge10.true
          ∙ sym (split places.In_ok-last);
    }

pub overflow_mul-result : goal.overflow_mul-result
overflow_mul-result c =
    omega (arith, leads-below _ _ _ c.loop-byte.invariant (omega arith) (few (goal.at.overflow_mul-result c).In_ok-last))

pub overflow_add-result : goal.overflow_add-result
overflow_add-result c =
    omega (arith, leads-below _ _ _ c.loop-byte.invariant (omega arith) (few (goal.at.overflow_add-result c).In_ok-last))

pub returns : goal.returns
returns c =
    let places = goal.at.returns c in
    let digit = c.wrapping_sub_u8-digit.ensures.value in
    record {
      answer = leads-digit _ _ _ _ (reads places.After-wrapping_sub_u8-digit) digit c.if-digit-ge10.false
          ∙ sym (split places.In_ok-last);
    }
