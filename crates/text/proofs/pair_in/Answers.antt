-- `text::pair_in` meets its contract: four leading columns of each field are read at once, and the last ones by themselves.
-- Assumes nothing.
use Rattle.std.proofs.Common.{sym, ◌∙◌, arith}
use Rattle.text.proofs.Lines.{pair-some, pair-none, both_some, both-none, digit-of, no_digit, ending_of, no-ending}
use Rattle.text.proofs.pair_in.Goals as goal

pub returns-in_err-m : goal.returns-in_err-m
returns-in_err-m c =
    let none_read = sym c.in_err-m.was ∙ c.two_fours.ensures.answer in
    record {
      answer = c.from_residual.ensures
          ∙ sym (pair-none c.args.line.now c.requires
          (λ m n x y first second h a end. both-none none_read first second));
    }

pub returns-then-first-ge10 : goal.returns-then-first-ge10
returns-then-first-ge10 c =
    record {
      answer = sym (pair-none c.args.line.now c.requires
          (λ m n x y first second h a end. no_digit c.wrapping_sub_u8-first.ensures.value (omega arith) c.if-first-ge10.true h a));
    }

pub returns-then-second-ge10 : goal.returns-then-second-ge10
returns-then-second-ge10 c =
    record {
      answer = sym (pair-none c.args.line.now c.requires
          (λ m n x y first second h a end. no-ending _ c.end_digit-second.ensures.answer (omega arith) c.if-second-ge10.true end));
    }

pub returns : goal.returns
returns c =
    let bytes = c.type_inv.line in
    let (first, second) = both_some _ _ (sym c.in_ok-m.was ∙ c.two_fours.ensures.answer) in
    record {
      answer = sym (pair-some c.args.line.now c.requires first second
          (digit-of c.wrapping_sub_u8-first.ensures.value c.if-first-ge10.false) c.if-first-ge10.false
          (ending_of _ c.end_digit-second.ensures.answer (omega (arith, bytes 9)) (omega (arith, bytes 10)) c.if-second-ge10.false));
    }
