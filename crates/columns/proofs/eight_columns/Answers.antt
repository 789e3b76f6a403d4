-- `columns::eight_columns` meets its contract: the number is made of the two halves'. Assumes nothing.
use mathlib.Core.Path.{sym, ◌∙◌}
use native.Mathlib.Omega.{arith}
use Rattle.columns.proofs.Spaces.{line-eight}
use Rattle.columns.proofs.eight_columns.Goals as goal

pub returns-in_err-first : goal.returns-in_err-first
returns-in_err-first c =
    record {
      answer = rw c.from_residual.ensures
          (line-eight c.args.line.now (λ k. omega (arith, c.type_inv.line k)) c.requires
          _ (sym c.in_err-first.was ∙ c.read_columns.ensures.answer));
    }

pub returns : goal.returns
returns c =
    record {
      answer = line-eight c.args.line.now (λ k. omega (arith, c.type_inv.line k)) c.requires
          _ (sym c.in_ok-first.was ∙ c.read_columns.ensures.answer);
    }
