-- `text::fields_in` meets its contract: four leading columns of each field are read at once, and the last ones by themselves.
-- Assumes nothing.
use Rattle.std.proofs.Common.{sym, ◌∙◌, arith}
use Rattle.text.proofs.Lines.{fields-some, fields-none, both_some, both-none, digit-of, no_digit}
use Rattle.text.proofs.fields_in.Goals as goal

pub returns-in_err-m : goal.returns-in_err-m
returns-in_err-m c =
    let none_read = sym c.in_err-m.was ∙ c.two_fours.ensures.answer in
    record {
      answer = c.from_residual.ensures
          ∙ sym (fields-none c.args.line.now (omega arith)
          (λ m n x y first second h a l b. both-none none_read first second));
    }

pub returns-then-first-ge10 : goal.returns-then-first-ge10
returns-then-first-ge10 c =
    record {
      answer = sym (fields-none c.args.line.now (omega arith)
          (λ m n x y first second h a l b. no_digit c.wrapping_sub_u8-first.ensures.value (omega arith) c.if-first-ge10.true h a));
    }

pub returns-then-second-ge10 : goal.returns-then-second-ge10
returns-then-second-ge10 c =
    record {
      answer = sym (fields-none c.args.line.now (omega arith)
          (λ m n x y first second h a l b. no_digit c.wrapping_sub_u8-second.ensures.value (omega arith) c.if-second-ge10.true l b));
    }

pub returns : goal.returns
returns c =
    let (first, second) = both_some _ _ (sym c.in_ok-m.was ∙ c.two_fours.ensures.answer) in
    record {
      answer = sym (fields-some c.args.line.now (omega arith) first second
          (digit-of c.wrapping_sub_u8-first.ensures.value c.if-first-ge10.false) c.if-first-ge10.false
          (digit-of c.wrapping_sub_u8-second.ensures.value c.if-second-ge10.false) c.if-second-ge10.false);
    }
