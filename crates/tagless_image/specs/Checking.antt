-- Checking of an index without tags. Document 02, §5: "Refusals 4 to 13 and 17 keep their sense and order for the new lines … checking
-- has no 14, 15 or 17." Assumes nothing.
use Rattle.std.specs.Prelude.{ℕ, ◌+◌, List, [], ◌∷◌, ◌++◌}
use Rattle.refusal.specs.Outcome.{Outcome, answered}
use Rattle.lists.specs.First.{first}
use Rattle.refusal.specs.Checks.{Check, in_order}
use Rattle.image.specs.View.{View, groups_in, start_in, end_in, faulty}
use Rattle.image.specs.Checking.{opening_for, malformed_in}
use Rattle.tagless_image.specs.Sheet.{tagless_length}
use Rattle.tagless_image.specs.View.{tagless_view}

-- 11, 12 and 11 as for an image with slots, but that the length is 11 + 21 × B. Lookup begins with them too.
unfoldable pub tagless_opening : View → List Check
tagless_opening v = opening_for (tagless_length (groups_in v)) v

-- Then "12: at the first malformed line. 13: at the lowest faulty group", and nothing after.
unfoldable pub tagless_checks : View → List Check
tagless_checks v =
    tagless_opening v
    ++ (12, first (malformed_in v) (1 + groups_in v))
    ∷ (13, first (λ g. faulty g (start_in v g) (end_in v g)) (groups_in v))
    ∷ []

-- "Otherwise accepted." An accepted check answers 0.
unfoldable pub tagless_checking_of : List ℕ → Outcome ℕ
tagless_checking_of image = in_order (tagless_checks (tagless_view image)) (answered 0)
