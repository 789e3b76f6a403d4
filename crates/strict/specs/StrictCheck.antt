-- The operation "strict check": whether building writes this image for some list. Document 02, §7. Assumes nothing.
use Rattle.std.specs.Prelude.{ℕ, List, [], ◌∷◌, ◌++◌}
use Rattle.refusal.specs.Outcome.{Outcome, answered}
use Rattle.lists.specs.First.{first}
use Rattle.refusal.specs.Checks.{Check, in_order}
use Rattle.image.specs.View.{View, view_of, groups_in}
use Rattle.image.specs.Checking.{checking_checks}
use Rattle.strict.specs.AsBuilt.{not_as_built}

-- "19 after all refusals of checking, at the lowest group whose seed or slots differ from what building gives its tags."
unfoldable pub strict_checks : View → List Check
strict_checks v = checking_checks v ++ (19, first (not_as_built v) (groups_in v)) ∷ []

-- An accepted strict check answers 0.
unfoldable pub strict_check_of : List ℕ → Outcome ℕ
strict_check_of image = in_order (strict_checks (view_of image)) (answered 0)
