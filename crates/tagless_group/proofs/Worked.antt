-- The seed and the word of one small group, computed from the definitions: seed 0 has no word, and under seed 1 word 0 does not fill.
-- Assumes nothing.
use Rattle.std.specs.Prelude.{ℕ, zero, suc, ◌<◌, ◌≡◌, refl, true, false, List, [], ◌∷◌, Some}
use Rattle.std.proofs.Common.{arith}
use Rattle.std.specs.Int.Count.{ones, ones_in}
use Rattle.lists.specs.First.{is_some}
use Rattle.lists.specs.Occurs.{occurs, distinct}
use Rattle.hash.specs.Formula.{product, high_part, hashed, multiplier, place_of}
use Rattle.filling.specs.Filling.{place_by, chosen}
use Rattle.filling.specs.Least.{beginning, least_from, least, feasible}
use Rattle.filling.proofs.LeastLaws.{infeasible-none}
use Rattle.group.specs.Group.{both_places, candidates, group_under}
use Rattle.parity.specs.Parity.{parity}
use Rattle.tagless_group.specs.Row.{row_of}
use Rattle.tagless_group.specs.Words.{choice_by, choices_by, WordFills, word_fills, worded_seed}
use Rattle.tagless_group.proofs.WordsLaws.{NoWord, word_fills-true, word_fills-false, no_word-of-none_fills, worded_seed-only}

-- The tags 1 and 3.
abbrev group : List ℕ
group = 1 ∷ 3 ∷ []

-- Under seed 0 nothing fills.
seed-0 : feasible (group_under group 0) ≡ false
unfolding feasible is_some least least_from beginning occurs place_by candidates both_places place_of
    hashed high_part product multiplier
seed-0 = refl

-- Under seed 1 word 0 does not fill, and word 1 does.
word-0 : word_fills group 1 0 ≡ false
unfolding word_fills distinct occurs chosen place_by choices_by choice_by parity ones ones_in
    candidates both_places place_of hashed high_part product multiplier row_of
word-0 = refl

word-1 : word_fills group 1 1 ≡ true
unfolding word_fills distinct occurs chosen place_by choices_by choice_by parity ones ones_in
    candidates both_places place_of hashed high_part product multiplier row_of
word-1 = refl

-- Below L = 2 the group has seed 1 and word 1.
pub seed-and-word : worded_seed group 2 ≡ Some (1, 1)
seed-and-word =
    worded_seed-only group 2 (record {
      below = omega arith;
      least = record { below = omega arith; fills = word_fills-true group 1 1 word-1; lower = lower };
      passed = passed;
    })
  where
    lower : (w : ℕ) → w < 1 → WordFills group 1 w → ⊥
    lower zero lt = word_fills-false group 1 0 word-0
    lower (suc w) lt = absurd (omega arith)

    passed : (t : ℕ) → t < 1 → NoWord group t
    passed zero lt = no_word-of-none_fills group 0 (infeasible-none (group_under group 0) seed-0)
    passed (suc t) lt = absurd (omega arith)
