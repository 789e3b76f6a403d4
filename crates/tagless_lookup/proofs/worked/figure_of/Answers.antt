-- `tagless_lookup::worked::figure_of` meets its contract: by the promise of `tagless_lookup` the number is below N. Assumes nothing.
use mathlib.Core.Path.{ap}
use native.Mathlib.Omega.{arith}
use Rattle.lookup.specs.Answer.{lookup_outcome}
use Rattle.tagless_lookup.proofs.worked.figure_of.Goals as goal

pub bounds-figures-j : goal.bounds-figures-j
bounds-figures-j c =
    omega (
      arith,
      c.requires.figures_len,
      c.tagless_lookup.ensures.checked.below c.requires.image_value _ (ap lookup_outcome c.in-Number.is),
    )
