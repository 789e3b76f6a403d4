-- Tags that some seed serves are placed by the search through all seeds, and the slots they are given decide whether the group differs.
-- Assumes nothing.
use Rattle.std.specs.Prelude.{ℕ, ◌≤◌, ◌≡◌, refl, true, not, List, [], ◌∷◌, ◌++◌, eqb, length, take, unwrap_or}
use Rattle.std.proofs.Common.{sym, ◌∙◌, arith, length-append, take_at, le-ltb, eq-eqb, ne_eqb}
use Rattle.std.proofs.Math.Path.{ap}
use Rattle.std.proofs.Math.Bool.{or-false}
use Rattle.refusal.specs.Limits.{group_max, limit_max, unwired}
use Rattle.refusal.proofs.LimitsLaws.{outside-not}
use Rattle.refusal.specs.Outcome.{Outcome, answered, refused, on_answer}
use Rattle.refusal.proofs.ChecksLaws.{◌then◌, met-false, in_order-pass}
use Rattle.lists.proofs.FirstLaws.{is_some-of-some}
use Rattle.filling.proofs.LeastLaws.{fills-feasible}
use Rattle.filling.specs.Word.{word_of}
use Rattle.sorting.specs.Sorted.{sorted}
use Rattle.sorting.proofs.SortedLaws.{sorted-length, sorted-occurs, sorted-ascending}
use Rattle.group.proofs.AscendingLaws.{check-of-ascending, ascending-distinct}
use Rattle.group.specs.Group.{group_under, taken}
use Rattle.group.proofs.GroupLaws.{LeastSeed, least_seed-some, least_seed-empty}
use Rattle.group.proofs.UnwiredLaws.{absent-wired, check-of-wired}
use Rattle.group.specs.Placing.{Placement, placing_checks, placement_of, placing_of}
use Rattle.lists.specs.UpTo.{up_to}
use Rattle.numbering.specs.GroupSlots.{group_slots}
use Rattle.arrange.specs.Arrange.{Arrangeable}
use Rattle.strict.specs.Same.{same}
use Rattle.strict.specs.AsBuilt.{seed_given, slots_given, differs}
use Rattle.strict.specs.Servable.{Servable}
use Rattle.strict.proofs.HeldLaws.{seed-found}

module _ {seed : ℕ} {slots : List ℕ} (a : Servable seed slots) where
  abbrev tags : List ℕ
  tags = sorted slots

  abbrev given : ℕ
  given = seed_given (sorted slots)

  -- The seed that they are given is the least, so that the sequence taken fills under it.
  given-least : LeastSeed tags limit_max given
  unfolding seed_given
  given-least =
      let (s, found) = seed-found seed slots a in
      rw (← ap (λ o. unwrap_or o 0) found) at (least_seed-some tags limit_max found)

  pub tags-few : length tags ≤ group_max
  tags-few = omega (arith, sorted-length slots, a.few)

  -- None of placing's checks is met.
  pub placing-answers : placing_of tags limit_max ≡ answered (placement_of tags limit_max)
  unfolding placing_of placing_checks
  placing-answers =
      let (s, found) = seed-found seed slots a in
      in_order-pass (placing_checks tags limit_max) (answered (placement_of tags limit_max))
      (met-false (outside-not 1 limit_max limit_max (omega arith) (omega arith))
      then met-false (le-ltb group_max (length tags) (omega (arith, sorted-length slots, a.few)))
      then check-of-ascending tags (sorted-ascending slots a.differ)
      then check-of-wired tags (absent-wired tags (sorted-occurs unwired slots ∙ a.wired))
      then met-false (rw (is_some-of-some found))
      then tt)

  pub placing-never : {number place : ℕ} → placing_of tags limit_max ≡ refused number place → ⊥
  placing-never e = let f = sym placing-answers ∙ e in absurd (let z : ◌≡◌ {A = ℕ} 0 1 = cc in omega arith)

  -- What it answers is the seed given and the word of the sequence taken, by which the tags can be put in the order of their places.
  pub placed-is : {least word : ℕ} → answered (record { seed = least; word = word }) ≡ placing_of tags limit_max
      → (least ≡ given) × (word ≡ word_of (taken tags given))
  unfolding placement_of seed_given on_answer
  placed-is e =
      let f = e ∙ placing-answers in
      let placed : Outcome Placement → Placement = λ o. on_answer o (λ p. p) (record { seed = 0; word = 0 }) in
      (ap (λ (o : Outcome Placement). (placed o).seed) f, ap (λ (o : Outcome Placement). (placed o).word) f)

  pub placed-arrangeable : {own : List ℕ} {least word stated room : ℕ} → own ≡ tags
      → answered (record { seed = least; word = word }) ≡ placing_of tags limit_max → least ≡ stated → room ≡ length own
      → Arrangeable own stated word room
  placed-arrangeable {own} {least} {word} {stated} own_is e stated-is room-is =
      let (seed-is, word-is) = placed-is e in
      let stated-given : stated ≡ given = sym stated-is ∙ seed-is in
      record {
        few = rw own_is tags-few;
        seed-legal = omega (arith, given-least.below, stated-given);
        differ = rw own_is (ascending-distinct tags (sorted-ascending slots a.differ));
        filled = rw (own_is, stated-given) (fills-feasible (group_under tags given) (taken tags given) given-least.fills);
        word-is = rw (own_is, stated-given) word-is;
        room-is = room-is;
      }

-- A group with another seed differs; with that seed the slots decide.
pub seed-differs : (seed : ℕ) (slots : List ℕ) → (seed_given (sorted slots) ≡ seed → ⊥) → differs seed slots ≡ true
unfolding differs
seed-differs seed slots other = rw (ne_eqb seed (seed_given (sorted slots)) (λ e. other (sym e)))

pub slots-decide : (seed : ℕ) (slots : List ℕ) {own : List ℕ} → own ≡ sorted slots → seed_given (sorted slots) ≡ seed
    → not (same slots (group_slots own seed (taken own seed))) ≡ differs seed slots
unfolding differs slots_given
slots-decide seed slots own_is e = rw (own_is, e, eq-eqb seed seed refl)

-- No tags are given seed 0, and no slots.
pub no-tags-differ : (seed : ℕ) (slots : List ℕ) → length slots ≡ 0 → differs seed slots ≡ not (eqb seed 0)
unfolding differs seed_given slots_given sorted group_slots up_to same
no-tags-differ seed [] none = rw (least_seed-empty limit_max (omega arith), or-false)
no-tags-differ seed (t ∷ slots) none = absurd (omega (arith, none))

-- Cells that begin with the sorted tags of the slots: as many of them as there are slots.
module _ (slots rest : List ℕ) {cells : List ℕ} (e : cells ≡ sorted slots ++ rest) where
  pub sorted_front : take (length slots) cells ≡ sorted slots
  sorted_front = rw e (take_at (sorted slots) rest (length slots) (sorted-length slots))

  pub sorted-inside : length slots ≤ length cells
  sorted-inside = rw (e, length-append) (omega (arith, sorted-length slots))
