-- An image's length, and that line k of it is the line that was put there. Assumes nothing.
use Rattle.std.specs.Prelude.{◌≡◌, refl, length, Some}
use Rattle.std.proofs.Common.{◌∙◌, arith, length-append}
use Rattle.std.proofs.Math.Path.{ap}
use mathlib.Core.List.{[]}
use Prim.Native.Nat.{ℕ, suc, ◌+◌, ◌*◌, ◌^◌, ◌≤◌, ◌<◌}
use Rattle.std.proofs.Math.ListN.{get_or-append}
use Rattle.std.proofs.Math.Seq.{get_or-append-add}
use Rattle.refusal.specs.Limits.{tag_end, tags_max, groups_max, seed_max}
use Rattle.text.specs.Line.{line_length, line_at, image_header, group_line, slot_line}
use Rattle.lists.proofs.UpToLaws.{up_to-length, up_to-at, up_to-agree}
use Rattle.text.proofs.LineLaws.{pair_line-length, tag_line-length, Lines, up_to-lines, lines-append, flatten-length, line-flatten}
use Rattle.text.proofs.LineLaws.{image-header-line, group-line, slot-line}
use Rattle.lists.specs.UpTo.{up_to}
use Rattle.image.specs.Sheet.{Sheet, header_line_of, group_line_of, slot_line_of, lines_of, bytes_of, image_length, longest_image}

-- "The length is 11 × (1 + B + N), at most 50,699 bytes."
pub image-longest : (groups count : ℕ) → groups ≤ groups_max → count ≤ tags_max → image_length groups count ≤ longest_image
unfolding image_length longest_image
image-longest groups count g n = omega arith

pub longest-is : longest_image ≡ 50699
unfolding image_length longest_image
longest-is = refl

module _ (s : Sheet) where
  -- Each line of an image is a line.
  sheet-lines : Lines line_length (lines_of s)
  unfolding lines_of Lines
  sheet-lines = (
    pair_line-length s.count s.groups,
    lines-append line_length (up_to s.groups (group_line_of s)) (up_to s.count (slot_line_of s))
        (up_to-lines line_length s.groups (group_line_of s) (λ g. pair_line-length (s.start g) (s.seed g)))
        (up_to-lines line_length s.count (slot_line_of s) (λ j. tag_line-length (s.slot j))),
  )

  sheet-count : length (lines_of s) ≡ 1 + s.groups + s.count
  unfolding lines_of
  sheet-count = simp (length-append, up_to-length) (omega arith)

  -- The image has the stated length.
  pub bytes-length : length (bytes_of s) ≡ image_length s.groups s.count
  unfolding bytes_of image_length
  bytes-length = flatten-length line_length (lines_of s) sheet-lines ∙ ap (λ (k : ℕ). line_length * k) sheet-count

  -- Line k of an image is the line that was put there: line 0, line 1 + g, line 1 + B + j.
  pub header_at : line_at 0 (bytes_of s) ≡ header_line_of s
  unfolding bytes_of lines_of
  header_at = line-flatten (lines_of s) 0 sheet-lines (omega (arith, sheet-count))

  pub group_at_lem : (g : ℕ) → g < s.groups → line_at (suc g) (bytes_of s) ≡ group_line_of s g
  unfolding bytes_of lines_of
  group_at_lem g lt =
      let many = up_to-length s.groups (group_line_of s) in
      line-flatten (lines_of s) (suc g) sheet-lines (omega (arith, sheet-count))
      ∙ get_or-append (up_to s.groups (group_line_of s)) (up_to s.count (slot_line_of s)) [] g (omega arith)
      ∙ up_to-at s.groups (group_line_of s) [] g lt

  pub slot_at_lem : (j : ℕ) → j < s.count → line_at (1 + s.groups + j) (bytes_of s) ≡ slot_line_of s j
  unfolding bytes_of lines_of
  slot_at_lem j lt =
      let group_lines = up_to s.groups (group_line_of s) in
      let e : 1 + s.groups + j ≡ suc (length group_lines + j) = omega (arith, up_to-length s.groups (group_line_of s)) in
      rw e
      (line-flatten (lines_of s) (suc (length group_lines + j)) sheet-lines (omega (arith, sheet-count))
      ∙ get_or-append-add group_lines (up_to s.count (slot_line_of s)) j []
      ∙ up_to-at s.count (slot_line_of s) [] j lt)

  -- What stands in its range reads back.
  pub header-reads : s.count ≤ tags_max → 1 ≤ s.groups → s.groups ≤ groups_max
      → image_header (line_at 0 (bytes_of s)) ≡ Some (s.count, s.groups)
  header-reads n one b = rw header_at (image-header-line s.count s.groups n one b)

  pub group_reads : (g : ℕ) → g < s.groups → s.start g < 10 ^ 5 → s.seed g ≤ seed_max
      → group_line (line_at (suc g) (bytes_of s)) ≡ Some (s.start g, s.seed g)
  group_reads g lt start seed = rw (group_at_lem g lt) (group-line (s.start g) (s.seed g) start seed)

  pub slot-reads : (j : ℕ) → j < s.count → s.slot j < tag_end → slot_line (line_at (1 + s.groups + j) (bytes_of s)) ≡ Some (s.slot j)
  slot-reads j lt tag = rw (slot_at_lem j lt) (slot-line (s.slot j) tag)

-- Two sheets state the same numbers: the same N and B, for each group the same start and seed, and for each slot the same tag.
pub record Agree (s t : Sheet) : Type 0 where
  pub count : s.count ≡ t.count
  pub groups : s.groups ≡ t.groups
  pub start : (g : ℕ) → g < s.groups → s.start g ≡ t.start g
  pub seed : (g : ℕ) → g < s.groups → s.seed g ≡ t.seed g
  pub slot : (j : ℕ) → j < s.count → s.slot j ≡ t.slot j

-- Then they are one image.
pub bytes-agree : (s t : Sheet) → Agree s t → bytes_of s ≡ bytes_of t
unfolding bytes_of lines_of
bytes-agree s t a =
    rw (
      up_to-agree s.groups (group_line_of s) (group_line_of t) (λ g lt. rw (a.start g lt, a.seed g lt)),
      up_to-agree s.count (slot_line_of s) (slot_line_of t) (λ j lt. rw (a.slot j lt)),
      a.count,
      a.groups,
    )
