-- `tagless_plan::worked::word_of_one_and_three` meets its contract: by the promise of `word_groups` the first cell has the word that the
-- definition gives. Assumes nothing.
use mathlib.Core.Path.{◌≡◌, refl, ◌∙◌, ap}
use mathlib.Core.List.{List, [], ◌∷◌}
use Rattle.std.specs.Prelude.{Option, None, unwrap_or}
use native.Mathlib.Omega.{arith}
use Prim.Native.Nat.{ℕ, zero, suc, ◌≤◌, ◌<◌}
use lib.ListN.{length, get_or, replicate}
use Rattle.refusal.specs.Limits.{groups_max, group_max}
use Rattle.lists.specs.First.{first, met_at, is_some}
use Rattle.lists.specs.UpTo.{up_to}
use Rattle.numbering.specs.Parts.{part_start, part_of}
use Rattle.tagless_group.proofs.Worked.{seed-and-word}
use Rattle.tagless_plan.specs.Words.{unworded, part_word, stored_up_to, Searchable}
use Rattle.tagless_plan.proofs.worked.word_of_one_and_three.Goals as goal

-- The tags and where their part ends.
abbrev tags : List ℕ
tags = 1 ∷ 3 ∷ []

abbrev ends : List ℕ
ends = 2 ∷ []

-- What holds of index 0 holds of each index below 1.
only : (P : ℕ → Type 0) → P 0 → (i : ℕ) → i < 1 → P i
only P p zero lt = p
only P p (suc i) lt = absurd (omega arith)

searchable : Searchable 1 tags ends 2
unfolding part_start part_of
searchable = record {
  parts = record {
    known = omega arith;
    follow = only (λ g. part_start ends g ≤ get_or ends g 0) (omega arith);
    inside = only (λ g. get_or ends g 0 ≤ length tags) (omega arith);
  };
  limit-legal = omega arith;
  few = only (λ g. length (part_of tags ends g) ≤ group_max) (omega arith);
}

no-group-without : first (unworded tags ends 2) 1 ≡ None
unfolding first met_at is_some part_start part_of unworded
no-group-without = rw seed-and-word

word-is : part_word tags ends 2 0 ≡ 1
unfolding part_start part_of part_word
word-is = ap (λ (o : Option (ℕ × ℕ)). (unwrap_or o (0, 0)).1) seed-and-word

-- What the promise says of the first cell, since no group is without a word.
first_cell : (before : List ℕ) {cells : List ℕ} {o : Option ℕ} → o ≡ first (unworded tags ends 2) 1
    → cells ≡ stored_up_to (part_word tags ends 2) (unwrap_or o 1) before → get_or cells 0 0 ≡ 1
unfolding stored_up_to up_to
first_cell before told found = ap (λ (l : List ℕ). get_or l 0 0) found ∙ rw (told, no-group-without) word-is

pub word_groups-requires : goal.word_groups-requires
word_groups-requires c = record { searchable = (searchable, omega arith); seeds_len = (refl, refl) }

pub returns : goal.returns
returns c = record { answer = first_cell (replicate groups_max 0) c.word_groups.ensures.answer c.word_groups.ensures.words }
