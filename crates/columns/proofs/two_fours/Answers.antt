-- `columns::two_fours` meets its contract: each half of the word is tested as if it were alone. Assumes nothing.
use mathlib.Core.Path.{◌∙◌}
use native.Mathlib.Omega.{arith}
use Rattle.columns.proofs.Spaces.{line-fours}
use Rattle.columns.proofs.two_fours.Goals as goal

pub returns : goal.returns
returns c =
    let fours = line-fours c.args.line.now (λ k. omega (arith, c.type_inv.line k)) c.requires in
    record { answer = c.read_columns.ensures.answer ∙ fours }
