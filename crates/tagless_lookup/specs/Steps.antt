-- The steps of a lookup in an index without tags behind the opening checks. Assumes nothing.
use Rattle.std.specs.Prelude.{ℕ, cond, List, eqb}
use Rattle.refusal.specs.Outcome.{Outcome, answered}
use Rattle.refusal.specs.Checks.{in_order}
use Rattle.image.specs.View.{start_in, end_in}
use Rattle.image.specs.Lookup.{Found, number, unknown, group_checks}
use Rattle.tagless_image.specs.View.{tagless_view, word_in}
use Rattle.tagless_image.specs.Lookup.{number_by}

-- Behind the opening checks: the group's lines, its fault, and the number by its word.
unfoldable pub group_outcome : List ℕ → ℕ → ℕ → Outcome Found
group_outcome image t g =
    let v = tagless_view image in
    in_order (group_checks v g)
    (cond (eqb (start_in v g) (end_in v g)) (answered unknown) (answered (number (number_by v (word_in image g) g t))))
