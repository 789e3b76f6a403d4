-- What an image reads as, for any bytes. Checking and lookup see the bytes only through this. Assumes nothing.
use Rattle.std.specs.Prelude.{ℕ, suc, ◌+◌, ◌-◌, Bool, cond, not, ◌&&◌, ◌||◌, List, eqb, ltb, length, Option, unwrap_or}
use Rattle.refusal.specs.Limits.{group_max}
use Rattle.hash.specs.Formula.{place_of}
use Rattle.text.specs.Line.{line_at, image_header, group_line, slot_line}

-- The length, line 0, and line k as a group line and as a slot line; none is malformed.
pub record View : Type 0 where
  pub size : ℕ
  pub header : Option (ℕ × ℕ)
  pub group_at : ℕ → Option (ℕ × ℕ)
  pub slot_at : ℕ → Option ℕ

unfoldable pub view_of : List ℕ → View
view_of bytes = record {
  size = length bytes;
  header = image_header (line_at 0 bytes);
  group_at = λ k. group_line (line_at k bytes);
  slot_at = λ k. slot_line (line_at k bytes);
}

-- The numbers that the lines state. Where a line is malformed they are 0, and an earlier check has refused.
unfoldable pub count_in : View → ℕ
count_in v = (unwrap_or v.header (0, 0)).0

unfoldable pub groups_in : View → ℕ
groups_in v = (unwrap_or v.header (0, 0)).1

unfoldable pub start_in : View → ℕ → ℕ
start_in v g = (unwrap_or (v.group_at (suc g)) (0, 0)).0

unfoldable pub seed_in : View → ℕ → ℕ
seed_in v g = (unwrap_or (v.group_at (suc g)) (0, 0)).1

-- "Slot j is line 1 + B + j and is named by j."
unfoldable pub slot_line_in : View → ℕ → ℕ
slot_line_in v j = 1 + groups_in v + j

unfoldable pub slot_in : View → ℕ → ℕ
slot_in v j = unwrap_or (v.slot_at (slot_line_in v j)) 0

-- A group ends at "the next start (N after the last group)".
unfoldable pub end_in : View → ℕ → ℕ
end_in v g = cond (ltb (suc g) (groups_in v)) (start_in v (suc g)) (count_in v)

-- "group 0 does not start at 0, or the next start (N after the last group) is lower than its own, or is more than [32] above"
unfoldable pub faulty : ℕ → ℕ → ℕ → Bool
faulty g start next = eqb g 0 && not (eqb start 0) || (ltb next start || ltb (start + group_max) next)

-- The slot of tag t under choice c in group g: the start plus the place among as many as the group has slots.
unfoldable pub candidate_in : View → ℕ → ℕ → ℕ → ℕ
candidate_in v g c t = start_in v g + place_of (end_in v g - start_in v g) (seed_in v g) c t
