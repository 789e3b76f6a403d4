-- `calls_tagless::worked::figure_of` meets its contract: by the promise of `lookup` the answer is below N. Assumes nothing.
use native.Mathlib.Omega.{arith}
use Rattle.calls_tagless.specs.TaglessLaws.{count_most}
use Rattle.calls_tagless.proofs.worked.figure_of.Goals as goal

pub offset_bounds-figures-lookup : goal.offset_bounds-figures-lookup
offset_bounds-figures-lookup c =
    omega (
      arith,
      count_most c.args.image.now,
      c.lookup.ensures.checked.finds c.requires.image_value c.requires.fact,
    )

pub bounds-figures-lookup : goal.bounds-figures-lookup
bounds-figures-lookup c =
    omega (
      arith,
      c.requires.figures_len,
      c.lookup.ensures.checked.finds c.requires.image_value c.requires.fact,
    )
