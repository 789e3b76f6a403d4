-- The operation "lookup". Assumes nothing.
use Rattle.std.specs.Prelude.{ℕ, suc, cond, not, ◌&&◌, ◌||◌, List, [], ◌∷◌, ◌++◌, eqb, ltb}
use Rattle.refusal.specs.Limits.{unwired}
use Rattle.refusal.specs.Outcome.{Outcome, answered}
use Rattle.lists.specs.First.{met_at, is_some}
use Rattle.refusal.specs.Checks.{Check, in_order}
use Rattle.hash.specs.Formula.{group_of}
use Rattle.image.specs.View.{View, view_of, count_in, groups_in, start_in, end_in, slot_line_in, slot_in, faulty, candidate_in}
use Rattle.image.specs.Checking.{opening_checks}

-- "the answer is a number, unknown, or a refusal carrying its reason and place"
pub data Found : Type 0 where
  number : ℕ → Found
  unknown : Found

-- "Then 12 at the tag's group line, then at the next group's line if there is one. 13 at that group if it is faulty in the sense
-- above or its end exceeds N."
unfoldable pub group_checks : View → ℕ → List Check
group_checks v g =
    (12, met_at (suc g) (not (is_some (v.group_at (suc g)))))
    ∷ (12, met_at (suc (suc g)) (ltb (suc g) (groups_in v) && not (is_some (v.group_at (suc (suc g))))))
    ∷ (13, met_at g (faulty g (start_in v g) (end_in v g) || ltb (count_in v) (end_in v g)))
    ∷ []

-- "First 11, 12 and 11 as in checking", then those.
unfoldable pub lookup_checks : View → ℕ → List Check
lookup_checks v g = opening_checks v ++ group_checks v g

-- A slot looked at: "12 if malformed; its number if it holds the tag", and else what comes next.
unfoldable pub at_slot : View → ℕ → ℕ → Outcome Found → Outcome Found
at_slot v t j next =
    in_order ((12, met_at (slot_line_in v j) (not (is_some (v.slot_at (slot_line_in v j))))) ∷ [])
    (cond (eqb (slot_in v j) t) (answered (number j)) next)

-- "If its size is 0 the answer is unknown. Next the slot of choice 0 … Next the slot of choice 1, alike. Otherwise unknown."
unfoldable pub lookup_in_group : View → ℕ → ℕ → Outcome Found
lookup_in_group v t g =
    in_order (lookup_checks v g)
    (cond (eqb (start_in v g) (end_in v g)) (answered unknown)
    (at_slot v t (candidate_in v g 0 t)
    (at_slot v t (candidate_in v g 1 t)
    (answered unknown))))

-- Document 02, §1: "Looking up 0 answers unknown once line 0 and the length have passed"; any other tag is looked up in its group.
unfoldable pub lookup_of : List ℕ → ℕ → Outcome Found
lookup_of image t =
    let v = view_of image in
    cond (eqb t unwired) (in_order (opening_checks v) (answered unknown)) (lookup_in_group v t (group_of (groups_in v) t))
