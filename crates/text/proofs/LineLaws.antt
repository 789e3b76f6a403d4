-- A line reads as its numbers exactly where it is their line; and line k of joined lines is the k-th of them. Assumes nothing.
use Rattle.std.specs.Prelude.{◌≡◌, ℕ, zero, suc, ◌+◌, ◌*◌, ◌^◌, ◌<◌, ◌≤◌, Bool, true, false, ◌&&◌, leb, List, [], ◌∷◌, ◌++◌, length, take}
use Rattle.std.specs.Prelude.{drop, ◌==◌, ◌≢◌, nat_le, nat_lt, slice_index, slice_index_or, Option, None, Some}
use Rattle.std.proofs.Math.Path.{sym}
use Rattle.std.proofs.Common.{◌∙◌, ap, arith, mul-zero, lit<, take_at, drop_at, take_all, take-suc, take-add, eq-eqb, ne_eqb, eqb-true}
use Rattle.std.proofs.Common.{le-leb, leb-true, lt-ltb, ltb-true}
use mathlib.Core.List.{append_assoc, flatten}
use Rattle.std.proofs.lemmas.Option.{none-some, same_Some}
use Rattle.std.proofs.Math.Nat.{mul-suc}
use Rattle.std.proofs.Math.ListN.{length-append}
use Rattle.std.proofs.lemmas.List.{get_or_at}
use Rattle.std.proofs.Math.Seq.{drop-append-add}
use Rattle.lists.proofs.BoolLaws.{both-of-and, some-of-cond}
use Rattle.lists.specs.UpTo.{up_to}
use Rattle.refusal.specs.Limits.{tag_end, tags_max, groups_max, seed_max}
use Rattle.text.specs.Figure.{figure}
use Rattle.text.proofs.FigureLaws.{figure-length}
use Rattle.text.specs.Field.{field}
use Rattle.text.proofs.FieldLaws.{field-figure, field-only}
use Rattle.text.specs.Line.{line_length, line_at, pair_line, tag_line, ended, both_fields, pair_of, tag_of, within, image_header}
use Rattle.text.specs.Line.{group_line, slot_line, list_header, list_line}

-- Every line that is written has 11 bytes, whatever the numbers.
pub pair_line-length : (a b : ℕ) → length (pair_line a b) ≡ line_length
unfolding pair_line
pair_line-length a b = simp (length-append, figure-length)

pub tag_line-length : (t : ℕ) → length (tag_line t) ≡ line_length
unfolding tag_line
tag_line-length t = simp (length-append, figure-length)

-- So many columns and a line feed. `ended` is this of ten columns.
abbrev pub ended_after : ℕ → List ℕ → Bool
ended_after columns line = length line == suc columns && slice_index line columns == 10

module _ (columns : ℕ) where
  -- The tests of a reader: the length first, then the last byte.
  pub ended-short : (line : List ℕ) → (length line ≢ suc columns) → ended_after columns line ≡ false
  ended-short line n = rw (ne_eqb (length line) (suc columns) n)

  pub ended-whole : (line : List ℕ) → length line ≡ suc columns → ended_after columns line ≡ (slice_index line columns == 10)
  ended-whole line n = rw (eq-eqb (length line) (suc columns) n)

  -- They hold exactly of so many columns and a line feed.
  pub ended-line : (front : List ℕ) → length front ≡ columns → ended_after columns (front ++ (10 ∷ [])) ≡ true
  ended-line front e =
      ended-whole (front ++ (10 ∷ [])) (simp length-append (omega arith)) ∙ rw (get_or_at front 10 [] 0 columns e)

  pub ended-only : (line : List ℕ) → ended_after columns line ≡ true → line ≡ take columns line ++ (10 ∷ [])
  ended-only line e =
      let h = both-of-and (length line == suc columns) (slice_index line columns == 10) e in
      let n = eqb-true (length line) (suc columns) h.0 in
      sym (take_all (suc columns) line (omega arith))
      ∙ take-suc line columns 0 (omega arith)
      ∙ rw (eqb-true (slice_index line columns) 10 h.1)

-- A line reads as a tag exactly where it is the tag's line, of ten digits at most.
pub tag-line : (t : ℕ) → t < 10 ^ 10 → tag_of (tag_line t) ≡ Some t
unfolding tag_of tag_line ended
tag-line t h =
    let n : length (figure 10 t) ≡ 10 = figure-length 10 t in
    rw (ended-line 10 (figure 10 t) n, take_at (figure 10 t) (10 ∷ []) 10 n) (field-figure 10 t (lit< tt) h)

pub tag-only : (t : ℕ) (line : List ℕ) → tag_of line ≡ Some t → (line ≡ tag_line t) × (t < 10 ^ 10)
unfolding tag_of tag_line ended
tag-only t line e =
    let (f, g) = some-of-cond (ended line) _ e in
    let h = field-only 10 t (take 10 line) g in
    (ended-only 10 line f ∙ rw h.0, h.1)

-- A line reads as two numbers exactly where it is their line, each of five digits at most.
pub pair_line_lem : (a b : ℕ) → a < 10 ^ 5 → b < 10 ^ 5 → pair_of (pair_line a b) ≡ Some (a, b)
unfolding pair_of pair_line both_fields ended
pair_line_lem a b h k =
    let n : length (figure 5 a) ≡ 5 = figure-length 5 a in
    let m : length (figure 5 b) ≡ 5 = figure-length 5 b in
    rw (
      ended-line 10 (figure 5 a ++ figure 5 b) (simp (length-append, n, m)),
      append_assoc (figure 5 a) (figure 5 b) (10 ∷ []),
      take_at (figure 5 a) (figure 5 b ++ (10 ∷ [])) 5 n,
      drop_at (figure 5 a) (figure 5 b ++ (10 ∷ [])) 5 n,
      take_at (figure 5 b) (10 ∷ []) 5 m,
      field-figure 5 a (lit< tt) h,
      field-figure 5 b (lit< tt) k,
    )

pub both-only : (x y : Option ℕ) (a b : ℕ) → both_fields x y ≡ Some (a, b) → (x ≡ Some a) × (y ≡ Some b)
unfolding both_fields
both-only None y a b e = (cc, cc)
both-only (Some c) None a b e = (cc, cc)
both-only (Some c) (Some d) a b e =
    let i = same_Some (c, d) (a, b) e in
    (ap (λ (x : ℕ × ℕ). Some x.0) i, ap (λ (x : ℕ × ℕ). Some x.1) i)

pub pair-only : (a b : ℕ) (line : List ℕ) → pair_of line ≡ Some (a, b) → (line ≡ pair_line a b) × (a < 10 ^ 5) × (b < 10 ^ 5)
unfolding pair_of pair_line ended
pair-only a b line e =
    let (f, g) = some-of-cond (ended line) _ e in
    let h = both-only (field 5 (take 5 line)) (field 5 (take 5 (drop 5 line))) a b g in
    let p = field-only 5 a (take 5 line) h.0 in
    let q = field-only 5 b (take 5 (drop 5 line)) h.1 in
    (ended-only 10 line f ∙ rw (take-add 5 5 line, p.0, q.0), p.1, q.1)

-- Only what is within a range reads as itself.
pub within-only : {A : Type 0} (in_range : A → Bool) (a : A) (o : Option A) → within in_range o ≡ Some a
    → (o ≡ Some a) × (in_range a ≡ true)
unfolding within
within-only in_range a None e = absurd (none-some a e)
within-only in_range a (Some c) e =
    let (f, i) = some-of-cond (in_range c) (Some c) e in
    (i, rw (same_Some c a i) at f)

-- Each kind of line, in both directions.
pub image-header-line : (n b : ℕ) → n ≤ tags_max → 1 ≤ b → b ≤ groups_max → image_header (pair_line n b) ≡ Some (n, b)
unfolding image_header within
image-header-line n b h j k =
    rw (pair_line_lem n b (omega arith) (omega arith), le-leb n tags_max h, le-leb 1 b j, le-leb b groups_max k)

pub image-header-only : (n b : ℕ) (line : List ℕ) → image_header line ≡ Some (n, b)
    → (line ≡ pair_line n b) × (n ≤ tags_max) × (1 ≤ b) × (b ≤ groups_max)
unfolding image_header
image-header-only n b line e =
    let h = within-only (λ h. nat_le h.0 tags_max && (nat_le 1 h.1 && nat_le h.1 groups_max)) (n, b) (pair_of line) e in
    let r = both-of-and (nat_le n tags_max) (nat_le 1 b && nat_le b groups_max) h.1 in
    let s = both-of-and (nat_le 1 b) (nat_le b groups_max) r.1 in
    ((pair-only n b line h.0).0, leb-true n tags_max r.0, leb-true 1 b s.0, leb-true b groups_max s.1)

pub group-line : (start seed : ℕ) → start < 10 ^ 5 → seed ≤ seed_max → group_line (pair_line start seed) ≡ Some (start, seed)
unfolding group_line within
group-line start seed h k = rw (pair_line_lem start seed h (omega arith), le-leb seed seed_max k)

pub group-only : (start seed : ℕ) (line : List ℕ) → group_line line ≡ Some (start, seed)
    → (line ≡ pair_line start seed) × (start < 10 ^ 5) × (seed ≤ seed_max)
unfolding group_line
group-only start seed line e =
    let h = within-only (λ h. leb h.1 seed_max) (start, seed) (pair_of line) e in
    let p = pair-only start seed line h.0 in
    (p.0, p.1, leb-true seed seed_max h.1)

pub list-header-line : (b l : ℕ) → b < 10 ^ 5 → l < 10 ^ 5 → list_header (pair_line b l) ≡ Some (b, l)
unfolding list_header
list-header-line b l = pair_line_lem b l

pub list-header-only : (b l : ℕ) (line : List ℕ) → list_header line ≡ Some (b, l) → (line ≡ pair_line b l) × (b < 10 ^ 5) × (l < 10 ^ 5)
unfolding list_header
list-header-only b l line = pair-only b l line

tag-within-line : (t : ℕ) → t < tag_end → within (λ t. nat_lt t tag_end) (tag_of (tag_line t)) ≡ Some t
unfolding within
tag-within-line t h = rw (tag-line t (omega arith), lt-ltb t tag_end h)

tag-within-only : (t : ℕ) (line : List ℕ) → within (λ t. nat_lt t tag_end) (tag_of line) ≡ Some t → (line ≡ tag_line t) × (t < tag_end)
tag-within-only t line e =
    let h = within-only (λ t. nat_lt t tag_end) t (tag_of line) e in
    ((tag-only t line h.0).0, ltb-true t tag_end h.1)

pub slot-line : (t : ℕ) → t < tag_end → slot_line (tag_line t) ≡ Some t
unfolding slot_line
slot-line t = tag-within-line t

pub slot-only : (t : ℕ) (line : List ℕ) → slot_line line ≡ Some t → (line ≡ tag_line t) × (t < tag_end)
unfolding slot_line
slot-only t line = tag-within-only t line

pub list-line : (t : ℕ) → t < tag_end → list_line (tag_line t) ≡ Some t
unfolding list_line
list-line t = tag-within-line t

pub list-only : (t : ℕ) (line : List ℕ) → list_line line ≡ Some t → (line ≡ tag_line t) × (t < tag_end)
unfolding list_line
list-only t line = tag-within-only t line

-- Lines to be joined: every one has the same length.
unfoldable pub Lines : ℕ → List (List ℕ) → Type 0
Lines width [] = Unit
Lines width (l ∷ ls) = (length l ≡ width) × Lines width ls

module _ (width : ℕ) where
  -- Lines made from the index, and lines in two parts.
  pub up_to-lines : (count : ℕ) (f : ℕ → List ℕ) → ((k : ℕ) → length (f k) ≡ width) → Lines width (up_to count f)
  unfolding up_to Lines
  up_to-lines zero f h = tt
  up_to-lines (suc count) f h = (h 0, up_to-lines count (λ k. f (suc k)) (λ k. h (suc k)))

  pub lines-append : (ks ls : List (List ℕ)) → Lines width ks → Lines width ls → Lines width (ks ++ ls)
  unfolding Lines
  lines-append [] ls h j = j
  lines-append (k ∷ ks) ls h j = (h.0, lines-append ks ls h.1 j)

  -- The join of lines: its length, and its line k.
  pub flatten-length : (ls : List (List ℕ)) → Lines width ls → length (flatten ls) ≡ width * length ls
  unfolding Lines flatten
  flatten-length [] h = sym (mul-zero width)
  flatten-length (l ∷ ls) h =
      length-append l (flatten ls) ∙ omega (arith, h.0, flatten-length ls h.1, mul-suc width (length ls))

  pub flatten-line : (ls : List (List ℕ)) (k : ℕ) → Lines width ls → k < length ls
      → take width (drop (width * k) (flatten ls)) ≡ slice_index_or ls k []
  unfolding Lines flatten
  flatten-line [] k h j = absurd (omega arith)
  flatten-line (l ∷ ls) zero h j = rw (mul-zero width) (take_at l (flatten ls) width h.0)
  flatten-line (l ∷ ls) (suc k) h j =
      let e : width * suc k ≡ length l + width * k = omega (arith, h.0, mul-suc width k) in
      rw (e, drop-append-add l (flatten ls) (width * k)) (flatten-line ls k h.1 (omega arith))

-- Of lines as long as a text's are, that is line k of the text.
pub line-flatten : (ls : List (List ℕ)) (k : ℕ) → Lines line_length ls → k < length ls → line_at k (flatten ls) ≡ slice_index_or ls k []
unfolding line_at
line-flatten = flatten-line line_length

-- What a line reader's answer, taken apart, says of line i, where the reader was called at byte 11 × k and k is i.
pub line_reads : {A B : Type 0} (meaning : A → B) (reads : List ℕ → B) (bytes : List ℕ) (k i : ℕ) {answer case : A}
    → meaning answer ≡ reads (take line_length (drop (line_length * k) bytes)) → answer ≡ case → k ≡ i
    → reads (line_at i bytes) ≡ meaning case
unfolding line_at
line_reads meaning reads bytes k i promised told same = rw (← same, ← told) (sym promised)

-- The same where the answer is what the line reads as.
pub line_said : {B : Type 0} (reads : List ℕ → B) (bytes : List ℕ) (k i : ℕ) {answer case : B}
    → answer ≡ reads (take line_length (drop (line_length * k) bytes)) → answer ≡ case → k ≡ i → reads (line_at i bytes) ≡ case
line_said reads bytes k i promised told same = line_reads (λ b. b) reads bytes k i promised told same
