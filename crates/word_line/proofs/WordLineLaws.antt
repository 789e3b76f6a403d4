-- A group's line reads as its start, its seed and its word exactly where it is their line. Assumes nothing.
use Rattle.std.specs.Prelude.{◌≡◌, ◌&&◌, List, [], ◌∷◌, ◌++◌, ℕ, ◌^◌, ◌≤◌, ◌<◌, leb, ltb, length, take, drop, Option, None, Some}
use Rattle.std.proofs.Common.{sym, ◌∙◌, ap, append_assoc, arith, lit<, length-append, take-append-drop, take_at, drop_at, take-add, le-leb}
use Rattle.std.proofs.Common.{leb-true, lt-ltb, ltb-true}
use Rattle.std.proofs.lemmas.Option.{same_Some}
use Rattle.lists.proofs.BoolLaws.{both-of-and}
use Rattle.lists.proofs.FirstLaws.{none-of-never}
use Rattle.refusal.specs.Limits.{tag_end, seed_max}
use Rattle.text.specs.Figure.{figure}
use Rattle.text.proofs.FigureLaws.{figure-length}
use Rattle.text.specs.Field.{field}
use Rattle.text.proofs.FieldLaws.{field-figure, field-only}
use Rattle.text.specs.Line.{tag_line, both_fields, tag_of, within}
use Rattle.text.proofs.LineLaws.{tag-line, tag-only, both-only, within-only}
use Rattle.word_line.specs.WordLine.{word_line_length, word_line, and_third, triple_of, group_word_line}

-- Every line that is written has 21 bytes, whatever the numbers.
pub word_line-length : (start seed word : ℕ) → length (word_line start seed word) ≡ word_line_length
unfolding word_line
word_line-length start seed word = simp (length-append, figure-length)

-- It is two figures, and behind them a tag's line: the word's.
pub word_line-parts : (start seed word : ℕ) → word_line start seed word ≡ figure 5 start ++ figure 5 seed ++ tag_line word
unfolding word_line tag_line
word_line-parts start seed word = append_assoc (figure 5 start ++ figure 5 seed) (figure 10 word) (10 ∷ [])

-- Two pieces of five bytes and a tag's line behind them, read.
pub triple-parts : (a b rest : List ℕ) → length a ≡ 5 → length b ≡ 5
    → triple_of (a ++ b ++ rest) ≡ and_third (both_fields (field 5 a) (field 5 b)) (tag_of rest)
unfolding triple_of
triple-parts a b rest n m =
    rw (
      drop_at (a ++ b) rest 10 (simp (length-append, n, m)),
      append_assoc a b rest,
      take_at a (b ++ rest) 5 n,
      drop_at a (b ++ rest) 5 n,
      take_at b rest 5 m,
    )

-- A line reads as three numbers where it is their line, two of five digits at most and one of ten.
triple-line : (start seed word : ℕ) → start < 10 ^ 5 → seed < 10 ^ 5 → word < 10 ^ 10
    → triple_of (word_line start seed word) ≡ Some (start, seed, word)
unfolding and_third both_fields
triple-line start seed word h j k =
    rw (
      word_line-parts start seed word,
      triple-parts (figure 5 start) (figure 5 seed) (tag_line word) (figure-length 5 start) (figure-length 5 seed),
      field-figure 5 start (lit< tt) h,
      field-figure 5 seed (lit< tt) j,
      tag-line word k,
    )

pub word-line : (start seed word : ℕ) → start < 10 ^ 5 → seed ≤ seed_max → word < tag_end
    → group_word_line (word_line start seed word) ≡ Some (start, seed, word)
unfolding group_word_line within
word-line start seed word h j k =
    rw (triple-line start seed word h (omega arith) (omega arith), le-leb seed seed_max j, lt-ltb word tag_end k)

-- All three numbers are there, or none is.
third-only : (x : Option (ℕ × ℕ)) (y : Option ℕ) (a b c : ℕ) → and_third x y ≡ Some (a, b, c) → (x ≡ Some (a, b)) × (y ≡ Some c)
unfolding and_third
third-only None y a b c e = (cc, cc)
third-only (Some pair) None a b c e = (cc, cc)
third-only (Some pair) (Some d) a b c e =
    let i = same_Some (pair.0, pair.1, d) (a, b, c) e in
    (ap (λ (x : ℕ × ℕ × ℕ). Some (x.0, x.1)) i, ap (λ (x : ℕ × ℕ × ℕ). Some x.2) i)

-- Nothing else reads as three numbers.
triple-only : (start seed word : ℕ) (line : List ℕ) → triple_of line ≡ Some (start, seed, word)
    → (line ≡ word_line start seed word) × (start < 10 ^ 5)
unfolding triple_of
triple-only start seed word line e =
    let (pair, third) = third-only _ _ start seed word e in
    let (first, second) = both-only (field 5 (take 5 line)) (field 5 (take 5 (drop 5 line))) start seed pair in
    let p = field-only 5 start (take 5 line) first in
    let q = field-only 5 seed (take 5 (drop 5 line)) second in
    let t = tag-only word (drop 10 line) third in
    (sym (take-append-drop 10 line) ∙ rw (take-add 5 5 line, p.0, q.0, t.0) (sym (word_line-parts start seed word)), p.1)

pub word-only : (start seed word : ℕ) (line : List ℕ) → group_word_line line ≡ Some (start, seed, word)
    → (line ≡ word_line start seed word) × (start < 10 ^ 5) × (seed ≤ seed_max) × (word < tag_end)
unfolding group_word_line
word-only start seed word line e =
    let h = within-only (λ h. leb h.1 seed_max && ltb h.2 tag_end) (start, seed, word) (triple_of line) e in
    let p = triple-only start seed word line h.0 in
    let r = both-of-and (leb seed seed_max) (ltb word tag_end) h.1 in
    (p.0, p.1, leb-true seed seed_max r.0, ltb-true word tag_end r.1)

-- So a line of another length is malformed.
pub word-other-length : (line : List ℕ) → (length line ≡ word_line_length → ⊥) → group_word_line line ≡ None
word-other-length line other = none-of-never (group_word_line line) (λ numbers e.
    let line-is = (word-only numbers.0 numbers.1 numbers.2 line e).0 in
    other (ap length line-is ∙ word_line-length numbers.0 numbers.1 numbers.2))
