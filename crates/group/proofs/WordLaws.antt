-- What the word of a group under a seed says: callers use these laws, never the search. Assumes nothing.
use Rattle.std.specs.Prelude.{ℕ, Bool, true, List, [], Option, None, Some, option_map, unwrap_or}
use Rattle.std.proofs.Math.Path.{◌≡◌, refl}
use Rattle.std.proofs.Common.{arith}
use Rattle.std.proofs.Math.Bool.{false}
use Rattle.lists.specs.First.{is_some}
use Rattle.filling.specs.Filling.{Fills}
use Rattle.filling.specs.Word.{word_of}
use Rattle.filling.specs.Least.{feasible}
use Rattle.filling.specs.Taken.{sequence_taken}
use Rattle.filling.proofs.TakenLaws.{sequence-exists}
use Rattle.group.specs.Group.{group_under, taken, word_under}
use Rattle.group.proofs.GroupLaws.{taken-of-fills}

module _ (tags : List ℕ) (s : ℕ) where
  -- Where something fills, the word is that of the sequence taken.
  pub word-taken : (cs : List Bool) → Fills (group_under tags s) cs → word_under tags s ≡ Some (word_of (taken tags s))
  unfolding word_under
  word-taken cs f = rw (taken-of-fills tags s cs f)

  -- A word says that something fills, and is that of the sequence taken;
  pub word-found : {word : ℕ} → word_under tags s ≡ Some word
      → (feasible (group_under tags s) ≡ true) × (word ≡ word_of (taken tags s))
  unfolding word_under is_some taken
  word-found {word} e = rw (← sequence-exists (group_under tags s)) (go (sequence_taken (group_under tags s)) e)
    where
      go : (o : Option (List Bool)) → option_map word_of o ≡ Some word → (is_some o ≡ true) × (word ≡ word_of (unwrap_or o []))
      go None e = absurd (let z : ◌≡◌ {A = ℕ} 0 1 = cc in omega arith)
      go (Some cs) e = (refl, cc)

  -- and where there is none nothing fills.
  pub word_none : word_under tags s ≡ None → feasible (group_under tags s) ≡ false
  unfolding word_under is_some
  word_none e = rw (← sequence-exists (group_under tags s)) (go (sequence_taken (group_under tags s)) e)
    where
      go : (o : Option (List Bool)) → option_map word_of o ≡ None → is_some o ≡ false
      go None e = refl
      go (Some cs) e = cc
