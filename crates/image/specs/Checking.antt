-- The operation "checking". Assumes nothing.
use Rattle.std.specs.Prelude.{ℕ, zero, suc, ◌+◌, Bool, cond, not, ◌&&◌, ◌||◌, List, [], ◌∷◌, ◌++◌, eqb, leb, ltb, unwrap_or}
use Rattle.refusal.specs.Limits.{unwired}
use Rattle.refusal.specs.Outcome.{Outcome, answered}
use Rattle.lists.specs.First.{first, is_some}
use Rattle.refusal.specs.Checks.{Check, met, in_order}
use Rattle.hash.specs.Formula.{group_of}
use Rattle.text.specs.Line.{line_length}
use Rattle.image.specs.Sheet.{image_length}
use Rattle.image.specs.View.{View, view_of, count_in, groups_in, start_in, end_in, slot_in, faulty, candidate_in}

-- "11: fewer than 11 bytes. 12 at place 0: line 0 is malformed. 11: length is not" the one that line 0 states, `whole`.
abbrev pub opening_for : ℕ → View → List Check
opening_for whole v =
    (11, met (ltb v.size line_length))
    ∷ (12, met (not (is_some v.header)))
    ∷ (11, met (not (eqb v.size whole)))
    ∷ []

-- That is "11 × (1 + B + N)". Lookup begins with them too.
unfoldable pub opening_checks : View → List Check
opening_checks v = opening_for (image_length (groups_in v) (count_in v)) v

-- Line k of the image is malformed: line 0, a group line or a slot line.
unfoldable pub malformed_in : View → ℕ → Bool
malformed_in v zero = not (is_some v.header)
malformed_in v (suc k) = not (cond (ltb k (groups_in v)) (is_some (v.group_at (suc k))) (is_some (v.slot_at (suc k))))

-- The group that slot j lies in: the one that starts at j or before and ends after it.
unfoldable pub group_of_slot : View → ℕ → ℕ
group_of_slot v j = unwrap_or (first (λ g. leb (start_in v g) j && ltb j (end_in v g)) (groups_in v)) 0

-- Slot j is one "holding 0".
unfoldable pub holds_unwired : View → ℕ → Bool
holds_unwired v j = eqb (slot_in v j) unwired

-- The tag of slot j "belongs to another group or has neither place there".
unfoldable pub misplaced : View → ℕ → Bool
misplaced v j =
    let g = group_of_slot v j in
    let t = slot_in v j in
    not (eqb (group_of (groups_in v) t) g) || not (eqb j (candidate_in v g 0 t) || eqb j (candidate_in v g 1 t))

-- The tag of slot j "stands in a lower slot of its group".
unfoldable pub repeated : View → ℕ → Bool
repeated v j = is_some (first (λ i. leb (start_in v (group_of_slot v j)) i && eqb (slot_in v i) (slot_in v j)) j)

-- Document 02, §1: 17 "directly after the malformed lines, at the lowest slot holding 0". "13: at the lowest faulty group … 14: at the
-- lowest slot whose tag belongs to another group or has neither place there. 15: at the lowest slot whose tag stands in a lower slot
-- of its group." They go by the numbers that the lines state.
unfoldable pub number_checks : View → List Check
number_checks v =
    (17, first (holds_unwired v) (count_in v))
    ∷ (13, first (λ g. faulty g (start_in v g) (end_in v g)) (groups_in v))
    ∷ (14, first (misplaced v) (count_in v))
    ∷ (15, first (repeated v) (count_in v))
    ∷ []

-- Before them, "12: at the first malformed line."
unfoldable pub checking_checks : View → List Check
checking_checks v = opening_checks v ++ (12, first (malformed_in v) (1 + groups_in v + count_in v)) ∷ number_checks v

-- "Otherwise accepted." An accepted check answers 0.
unfoldable pub checking_of : List ℕ → Outcome ℕ
checking_of image = in_order (checking_checks (view_of image)) (answered 0)
