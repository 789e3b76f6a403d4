-- A whole line by its bytes: what it reads as, and when it is malformed. Assumes nothing.
use Rattle.std.proofs.Common.{◌≡◌, ℕ, ◌+◌, ◌*◌, ◌%◌, ◌<◌, ◌≤◌, true, List, [], ◌∷◌, length, get_or, take, drop, sym, refl, ◌∙◌, arith}
use Rattle.std.proofs.Common.{length-take-le, take-suc, eq-eqb, eqb-true}
use Rattle.std.specs.Prelude.{Option, None, Some}
use Rattle.std.proofs.lemmas.Option.{none-some}
use Rattle.lists.proofs.BoolLaws.{some-of-cond}
use Rattle.lists.proofs.FirstLaws.{none-of-never}
use Rattle.columns.specs.Columns.{leading_from, both}
use Rattle.columns.specs.ColumnsLaws.{leading_behind, leading-append}
use Rattle.text.specs.Field.{field}
use Rattle.text.specs.Line.{line_length, ended, both_fields, pair_of, tag_of}
use Rattle.text.proofs.LineLaws.{ended-whole, both-only}
use Rattle.text.proofs.Leading.{leading-below, field-digit, Ends, field-ends, part_field}

-- Both numbers are there, or not.
both_is : (o p : Option ℕ) → both o p ≡ both_fields o p
unfolding both both_fields
both_is None p = refl
both_is (Some a) None = refl
both_is (Some a) (Some b) = refl

pub both_some : (o p : Option ℕ) {m n : ℕ} → Some (m, n) ≡ both o p → (o ≡ Some m) × (p ≡ Some n)
both_some o p {m} {n} e = both-only o p m n (sym (e ∙ both_is o p))

pub both-none : {o p : Option ℕ} {m n : ℕ} → None ≡ both o p → o ≡ Some m → p ≡ Some n → ⊥
unfolding both
both-none {o} {p} {m} {n} e f g = none-some (m, n) (rw (f, g) at e)

-- A byte is a digit where it is at most 9 above '0'.
pub digit-of : {byte x : ℕ} → (x + 48) % 256 ≡ byte → x < 10 → byte ≡ 48 + x
digit-of e h = omega arith

pub no_digit : {byte x d : ℕ} → (x + 48) % 256 ≡ byte → x < 256 → 10 ≤ x → d < 10 → byte ≡ 48 + d → ⊥
no_digit e h i j k = omega arith

-- A line's last column is the digit y, and its line feed is there.
pub record Ending (line : List ℕ) (y : ℕ) : Type 0 where
  pub digit : get_or line 9 0 ≡ 48 + y
  pub low : y < 10
  pub feed : get_or line 10 0 ≡ 10

-- So it is where the two bytes, as one number, are at most 9 above '0' and a line feed.
module _ (line : List ℕ) {x : ℕ} (e : (x + 2608) % 65536 ≡ get_or line 9 0 + 256 * get_or line 10 0) where
  pub ending_of : get_or line 9 0 < 256 → get_or line 10 0 < 256 → x < 10 → Ending line x
  ending_of h i j = record { digit = omega arith; low = j; feed = omega arith }

  pub no-ending : {y : ℕ} → x < 65536 → 10 ≤ x → Ending line y → ⊥
  no-ending h i end = omega (arith, end.digit, end.low, end.feed)

module _ (line : List ℕ) (room : 10 ≤ length line) where
  -- Two fields of five columns at the front of a text.
  abbrev fields : Option (ℕ × ℕ)
  fields = both_fields (field 5 (take 5 line)) (field 5 (take 5 (drop 5 line)))

  pub fields-some : {m n x y : ℕ} → leading_from 0 (take 4 line) ≡ Some m → leading_from 0 (take 4 (drop 5 line)) ≡ Some n
      → get_or line 4 0 ≡ 48 + x → x < 10 → get_or line 9 0 ≡ 48 + y → y < 10 → fields ≡ Some (m * 10 + x, n * 10 + y)
  unfolding both_fields
  fields-some {m} {n} {x} {y} first second a h b l =
      rw (
        part_field 4 0 line (omega arith),
        part_field 4 5 line (omega arith),
        a,
        b,
        field-digit (take 4 line) m x first h,
        field-digit (take 4 (drop 5 line)) n y second l,
      )

  fields-end : (a b : ℕ) → fields ≡ Some (a, b)
      → Ends (take 4 line) (get_or line 4 0) a × Ends (take 4 (drop 5 line)) (get_or line 9 0) b
  fields-end a b e =
      let (f, g) = both-only _ _ a b e in (
        field-ends (take 4 line) (get_or line 4 0) a (sym (part_field 4 0 line (omega arith)) ∙ f),
        field-ends (take 4 (drop 5 line)) (get_or line 9 0) b (sym (part_field 4 5 line (omega arith)) ∙ g),
      )

  pub fields-none : ((m n x y : ℕ) → leading_from 0 (take 4 line) ≡ Some m → leading_from 0 (take 4 (drop 5 line)) ≡ Some n
      → x < 10 → get_or line 4 0 ≡ 48 + x → y < 10 → get_or line 9 0 ≡ 48 + y → ⊥)
      → fields ≡ None
  fields-none never = none-of-never fields (λ ab e.
      let (first, second) = fields-end ab.0 ab.1 e in
      never _ _ _ _ first.leads second.leads (omega arith) first.digit (omega arith) second.digit)

module _ (line : List ℕ) (whole : length line ≡ line_length) where
  -- A whole line is ended where its line feed is there.
  ended-feed : get_or line 10 0 ≡ 10 → ended line ≡ true
  unfolding ended
  ended-feed e = ended-whole 10 line whole ∙ eq-eqb (get_or line 10 0) 10 e

  feed-ended : ended line ≡ true → get_or line 10 0 ≡ 10
  unfolding ended
  feed-ended e = eqb-true (get_or line 10 0) 10 (sym (ended-whole 10 line whole) ∙ e)

  -- Two fields and the line feed.
  pub pair-some : {m n x y : ℕ} → leading_from 0 (take 4 line) ≡ Some m → leading_from 0 (take 4 (drop 5 line)) ≡ Some n
      → get_or line 4 0 ≡ 48 + x → x < 10 → Ending line y → pair_of line ≡ Some (m * 10 + x, n * 10 + y)
  unfolding pair_of
  pair-some first second a h end =
      rw (ended-feed end.feed) (fields-some line (omega arith) first second a h end.digit end.low)

  pub pair-none : ((m n x y : ℕ) → leading_from 0 (take 4 line) ≡ Some m → leading_from 0 (take 4 (drop 5 line)) ≡ Some n
      → x < 10 → get_or line 4 0 ≡ 48 + x → Ending line y → ⊥)
      → pair_of line ≡ None
  unfolding pair_of
  pair-none never = none-of-never (pair_of line) (λ ab e.
      let (f, g) = some-of-cond (ended line) _ e in
      let (first, second) = fields-end line (omega arith) ab.0 ab.1 g in
      never _ _ _ _ first.leads second.leads (omega arith) first.digit
      (record { digit = second.digit; low = omega arith; feed = feed-ended f }))

  -- One field.
  pub tag-some : {n y : ℕ} → leading_from 0 (take 9 line) ≡ Some n → Ending line y → tag_of line ≡ Some (n * 10 + y)
  unfolding tag_of
  tag-some {n} {y} leading end =
      rw (ended-feed end.feed, part_field 9 0 line (omega arith), end.digit, field-digit (take 9 line) n y leading end.low)

  pub tag-none : ((n y : ℕ) → leading_from 0 (take 9 line) ≡ Some n → Ending line y → ⊥) → tag_of line ≡ None
  unfolding tag_of
  tag-none never = none-of-never (tag_of line) (λ t e.
      let (f, g) = some-of-cond (ended line) _ e in
      let ends = field-ends (take 9 line) (get_or line 9 0) t (sym (part_field 9 0 line (omega arith)) ∙ g) in
      never _ _ ends.leads (record { digit = ends.digit; low = omega arith; feed = feed-ended f }))

  pub tag-no-columns : None ≡ leading_from 0 (take 9 line) → tag_of line ≡ None
  tag-no-columns e = tag-none (λ n y leads end. none-some n (e ∙ leads))

  -- Nine leading columns: eight, and one more.
  nine-columns : leading_from 0 (take 9 line) ≡ leading_behind (leading_from 0 (take 8 line)) (get_or line 8 0 ∷ [])
  nine-columns = rw (take-suc line 8 0 (omega arith)) (leading-append 0 (take 8 line) (get_or line 8 0 ∷ []))

  pub nine-none : None ≡ leading_from 0 (take 8 line) → None ≡ leading_from 0 (take 9 line)
  unfolding leading_behind
  nine-none e = sym (nine-columns ∙ rw (← e))

  pub nine-more : {v : ℕ} → Some v ≡ leading_from 0 (take 8 line) → leading_from v (get_or line 8 0 ∷ []) ≡ leading_from 0 (take 9 line)
  unfolding leading_behind
  nine-more e = sym (nine-columns ∙ rw (← e))

  pub nine-below : {n : ℕ} → Some n ≡ leading_from 0 (take 9 line) → n < 1000000000
  nine-below e = rw (length-take-le 9 line (omega arith)) at (leading-below (take 9 line) (sym e))
