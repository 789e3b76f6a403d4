-- A line, and two fields, of a text: cut off, or there whole. Assumes nothing.
use mathlib.Core.Path.{◌≡◌, refl}
use mathlib.Core.List.{List}
use Rattle.std.specs.Prelude.{Option, None, Some}
use Prim.Native.Nat.{ℕ, suc, ◌+◌, ◌≤◌, ◌<◌}
use native.Mathlib.Omega.{arith}
use lib.ListN.{length, take, drop, length-take, length-drop}
use lib.Seq.{take_at, drop_at, take-add, take-take, drop-drop, length-take-le}
use Rattle.text.specs.Field.{field}
use Rattle.text.proofs.FieldLaws.{field-other-length}
use Rattle.text.specs.Line.{line_length, ended, both_fields, pair_of, tag_of}
use Rattle.text.proofs.LineLaws.{ended-short}

-- A line that the text cuts off is malformed.
cut_off : (columns : ℕ) (bytes : List ℕ) (at : ℕ) → length bytes < at + suc columns
    → length (take (suc columns) (drop at bytes)) ≡ suc columns → ⊥
cut_off columns bytes at h e = omega (arith, simp (length-take, length-drop) at e)

module _ (bytes : List ℕ) (at : ℕ) (short : length bytes < at + line_length) where
  abbrev cut : List ℕ
  cut = take line_length (drop at bytes)

  pub pair-short : pair_of cut ≡ None
  unfolding pair_of ended
  pair-short = rw (ended-short 10 cut (cut_off 10 bytes at short))

  pub tag-short : tag_of cut ≡ None
  unfolding tag_of ended
  tag-short = rw (ended-short 10 cut (cut_off 10 bytes at short))

-- So are two fields of which it cuts the second off.
second_none : (o : Option ℕ) → both_fields o None ≡ None
unfolding both_fields
second_none None = refl
second_none (Some a) = refl

pub fields-short : (bytes : List ℕ) (at : ℕ) → length bytes < at + 10
    → both_fields (field 5 (take 5 (drop at bytes))) (field 5 (take 5 (drop (at + 5) bytes))) ≡ None
fields-short bytes at short =
    let last = field-other-length 5 (take 5 (drop (at + 5) bytes)) (cut_off 4 bytes (at + 5) (omega arith)) in
    rw last (second_none (field 5 (take 5 (drop at bytes))))

-- Two fields that are there whole, read in their ten bytes.
pub fields-whole : (bytes : List ℕ) (at : ℕ) → at + 10 ≤ length bytes
    → both_fields (field 5 (take 5 (take 10 (drop at bytes)))) (field 5 (take 5 (drop 5 (take 10 (drop at bytes)))))
    ≡ both_fields (field 5 (take 5 (drop at bytes))) (field 5 (take 5 (drop (at + 5) bytes)))
fields-whole bytes at room =
    let first = take 5 (drop at bytes) in
    let second = take 5 (drop 5 (drop at bytes)) in
    let long : length first ≡ 5 = length-take-le 5 (drop at bytes) (rw length-drop (omega arith)) in
    rw (
      take-add 5 5 (drop at bytes),
      take_at first second 5 long,
      drop_at first second 5 long,
      take-take 5 5 (drop 5 (drop at bytes)) (omega arith),
      drop-drop 5 at bytes,
    )
