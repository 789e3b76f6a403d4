-- An image is sound exactly where its slots hold what `Holding` says. Assumes nothing.
use Rattle.std.specs.Prelude.{◌≡◌, refl, ◌⊎◌, Bool, true, false, ◌&&◌, ℕ, ◌<◌, Some}
use Rattle.std.proofs.Common.{sym, ap, ◌∙◌, true≢false, arith, ne_eqb, eq-eqb}
use Rattle.std.proofs.Math.Bool.{and-false}
use Rattle.std.proofs.Math.Dec.{eqb, leb}
use Rattle.lists.specs.First.{is_some}
use Rattle.lists.proofs.FirstLaws.{first_out, is_some-of-none, some-of-is_some}
use Rattle.refusal.specs.Limits.{unwired}
use Rattle.image.specs.View.{View, count_in, groups_in, start_in, slot_line_in, slot_in, candidate_in}
use Rattle.image.specs.Holds.{HoldsTag}
use Rattle.image.specs.Checking.{group_of_slot, holds_unwired, repeated}
use Rattle.image.specs.LinesRead.{own_group}
use Rattle.image.proofs.CheckedLookupLaws.{Sound, slot_in-reads, placed-own, own-placed, holds-once}
use Rattle.image_holding.specs.Holding.{Holding}

-- A slot whose line is well formed holds the tag that is read from it.
pub slot-holds : (v : View) (j : ℕ) → j < count_in v → is_some (v.slot_at (slot_line_in v j)) ≡ true → HoldsTag v j (slot_in v j)
slot-holds v j lt well =
    let (t, reads) = some-of-is_some (v.slot_at (slot_line_in v j)) well in
    record { slot = lt; tag = reads ∙ ap Some (sym (slot_in-reads v j reads)) }

-- Every slot of a sound image that holds a tag is one of the tag's two in its group.
pub held-own : (v : View) → Sound v → (j t : ℕ) → HoldsTag v j t
    → (own_group v t ≡ group_of_slot v j) × ((j ≡ candidate_in v (group_of_slot v j) 0 t) ⊎ (j ≡ candidate_in v (group_of_slot v j) 1 t))
held-own v sound j t h = placed-own v j t (slot_in-reads v j h.tag) (sound.placed j h.slot)

-- No slot of a sound image holds 0.
sound-wired : (v : View) → Sound v → (j : ℕ) → HoldsTag v j unwired → ⊥
unfolding holds_unwired
sound-wired v sound j h =
    true≢false (sym (eq-eqb (slot_in v j) unwired (slot_in-reads v j h.tag)) ∙ sound.wired j h.slot)

-- Such an image is one that checking accepts,
module _ (v : View) (h : Holding v) where
  held : (j : ℕ) → j < count_in v → HoldsTag v j (slot_in v j)
  held j lt = slot-holds v j lt (h.slot-lines j lt)

  slot-once : (j : ℕ) → j < count_in v → repeated v j ≡ false
  unfolding repeated
  slot-once j lt = is_some-of-none (first_out test j other)
    where
      test : ℕ → Bool
      test i = leb (start_in v (group_of_slot v j)) i && eqb (slot_in v i) (slot_in v j)

      other : (i : ℕ) → i < j → test i ≡ false
      other i lower =
          let differ : slot_in v i ≡ slot_in v j → ⊥ = λ same.
          let twice = h.once i j (slot_in v j) (rw same at (held i (omega arith))) (held j lt) in omega arith in
          rw (ne_eqb (slot_in v i) (slot_in v j) differ, and-false)

  pub sound-of-holding : Sound v
  unfolding holds_unwired
  sound-of-holding = record {
    opens = h.opens;
    group_lines = h.group_lines;
    slot-lines = h.slot-lines;
    wired = λ j lt. ne_eqb (slot_in v j) unwired (λ zero. h.wired j (rw zero at (held j lt)));
    not-faulty = h.not-faulty;
    placed = λ j lt. let (group, spots) = h.placed j (slot_in v j) (held j lt) in own-placed v j (slot_in v j) refl group spots;
    once = slot-once;
  }

-- and an image that checking accepts is such a one.
pub holding-of-sound : (v : View) → Sound v → 0 < groups_in v → Holding v
holding-of-sound v sound many = record {
  opens = sound.opens;
  group_lines = sound.group_lines;
  slot-lines = sound.slot-lines;
  not-faulty = sound.not-faulty;
  wired = sound-wired v sound;
  placed = λ j t h. held-own v sound j t h;
  once = λ i j t hi hj. holds-once v sound many t i j hi hj;
}
