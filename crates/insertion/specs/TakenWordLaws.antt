-- What weighted insertion leads to: the lightest word of the keys of an array is that of the sequence taken. Assumes nothing.
use Rattle.std.specs.Prelude.{ℕ, ◌≤◌, ◌≡◌, refl, Bool, List, length, Option, None, Some, option_map}
use Rattle.std.proofs.Common.{sym, ◌∙◌, arith}
use Rattle.lists.specs.UpTo.{up_to}
use Rattle.filling.specs.Separate.{by_index, key_place, Separate}
use Rattle.filling.proofs.FillingLaws.{separate-same, fills-apart}
use Rattle.filling.specs.Word.{word_of, choices_of}
use Rattle.filling.proofs.WordLaws.{choices_of-length, choices-word, word_below}
use Rattle.filling.specs.Taken.{sequence_taken}
use Rattle.filling.proofs.TakenLaws.{sequence-fills, sequence-none}
use Rattle.filling.specs.Weight.{key_weight}
use Rattle.filling.specs.Insertion.{Lightest}
use Rattle.filling.proofs.InsertionLaws.{lightest-same}
use Rattle.filling.proofs.LightestLaws.{lightest-taken, separate-fills, taken-lightest}
use Rattle.bits.specs.WordBits.{choice_in}
use Rattle.bits.specs.WordBitsLaws.{choices_of-at, word-choice}
use Rattle.places.specs.Array.{entry_of, keys_of}
use Rattle.places.proofs.ArrayLaws.{keys_of-length, keys_of-place}
use Rattle.insertion.specs.Inserted.{LightestWord}

module _ (places : List ℕ) (count : ℕ) where
  sized : length (keys_of count places) ≡ count
  sized = keys_of-length count places

  -- The lightest word of all keys is that of the sequence taken,
  pub lightest-word : (word : ℕ) → count ≤ 32 → LightestWord places count word
      → Some word ≡ option_map word_of (sequence_taken (keys_of count places))
  lightest-word word few light = rw (found, choices-word count word light.below)
    where
      listed : Lightest (key_place (keys_of count places)) key_weight count (by_index (choices_of count word))
      listed =
          lightest-same (entry_of places) (key_place (keys_of count places)) key_weight count
          (choice_in word) (by_index (choices_of count word))
          (λ i lt b. sym (keys_of-place count places i lt b)) (λ i lt. choices_of-at count word i lt) light.lightest

      found : sequence_taken (keys_of count places) ≡ Some (choices_of count word)
      found =
          lightest-taken (keys_of count places) (choices_of count word) (choices_of-length count word ∙ sym sized)
          (omega (arith, sized)) (rw sized listed)

  -- and the word of the sequence taken is the lightest.
  pub word-lightest : (word : ℕ) → count ≤ 32 → Some word ≡ option_map word_of (sequence_taken (keys_of count places))
      → LightestWord places count word
  word-lightest word few = go (sequence_taken (keys_of count places)) refl
    where
      go : (o : Option (List Bool)) → sequence_taken (keys_of count places) ≡ o → Some word ≡ option_map word_of o
          → LightestWord places count word
      go None e z = absurd (let n : ◌≡◌ {A = ℕ} 0 1 = cc in omega arith)
      go (Some cs) e z =
          let same : word ≡ word_of cs = cc in
          let whole : length cs ≡ count = (sequence-fills (keys_of count places) e).whole ∙ sized in
          rw same (record {
            below = rw whole at (word_below cs);
            lightest =
                lightest-same (key_place (keys_of count places)) (entry_of places) key_weight count
                (by_index cs) (choice_in (word_of cs)) (keys_of-place count places) (λ i lt. sym (word-choice cs i (omega arith)))
                (rw sized at (taken-lightest (keys_of count places) (omega (arith, sized)) e));
          })

  -- Where nothing separates the keys there is none.
  pub nothing-word : ((f : ℕ → Bool) → Separate (entry_of places) count f → ⊥)
      → None ≡ option_map word_of (sequence_taken (keys_of count places))
  nothing-word nothing = go (sequence_taken (keys_of count places)) refl
    where
      go : (o : Option (List Bool)) → sequence_taken (keys_of count places) ≡ o → None ≡ option_map word_of o
      go None e = refl
      go (Some cs) e =
          let apart = rw sized at (fills-apart (keys_of count places) cs (sequence-fills (keys_of count places) e)) in
          absurd (nothing (by_index cs) (separate-same (λ i lt. keys_of-place count places i lt (by_index cs i)) apart))

-- Where some keys have none, more keys have none.
pub nothing-more : (places : List ℕ) (count more : ℕ) → count ≤ more → None ≡ option_map word_of (sequence_taken (keys_of count places))
    → None ≡ option_map word_of (sequence_taken (keys_of more places))
nothing-more places count more le nothing =
    nothing-word places more (λ f apart.
    go (sequence_taken (keys_of count places)) refl nothing f (λ i j li lj e. apart i j (omega arith) (omega arith) e))
  where
    go : (o : Option (List Bool)) → sequence_taken (keys_of count places) ≡ o → None ≡ option_map word_of o
        → (f : ℕ → Bool) → Separate (entry_of places) count f → ⊥
    go None e z f apart =
        sequence-none (keys_of count places) e (up_to (length (keys_of count places)) f)
        (separate-fills (keys_of count places) f
        (rw (keys_of-length count places) (separate-same (λ i lt. sym (keys_of-place count places i lt (f i))) apart)))
    go (Some cs) e z f apart = let n : ◌≡◌ {A = ℕ} 0 1 = cc in omega arith
