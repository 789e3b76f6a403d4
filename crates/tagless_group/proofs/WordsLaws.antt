-- What the least word and the least seed that has one are, in the words of `WordFills`: callers use these laws, never the search.
-- Assumes nothing.
use Rattle.std.specs.Prelude.{ℕ, ◌<◌, ◌≡◌, Bool, true, false, List, [], length, Option, None, Some, option_map}
use Rattle.std.proofs.Math.Path.{refl, sym, ap}
use Rattle.std.proofs.Common.{◌∙◌, true≢false, arith}
use Rattle.std.proofs.Math.Bool.{not-eq-not}
use Rattle.std.proofs.lemmas.Option.{same_Some, none-some}
use Rattle.std.proofs.lemmas.List.{length-map}
use Rattle.refusal.specs.Limits.{tag_end}
use Rattle.lists.specs.First.{is_some}
use Rattle.lists.proofs.FirstLaws.{first_some, first-none, first_found, first_out}
use Rattle.lists.proofs.FirstLaws.{some-of-is_some, is_some-of-some, is_some-of-none, none-of-is_some}
use Rattle.lists.specs.Occurs.{distinct}
use Rattle.filling.specs.Filling.{chosen}
use Rattle.group.specs.Group.{candidates}
use Rattle.group.proofs.GroupLaws.{NoneFills, group-size}
use Rattle.tagless_group.specs.Words.{choice_by, choices_by, WordFills, word_fills, least_word, least_word_seed}
use Rattle.tagless_group.specs.Words.{word_taken, worded_seed}

-- A word makes a choice for each tag.
pub choices_by-length : (word s : ℕ) (tags : List ℕ) → length (choices_by word s tags) ≡ length tags
unfolding choices_by
choices_by-length word s tags = length-map tags (choice_by word s)

module _ (tags : List ℕ) (s word : ℕ) where
  -- The test says whether the word's choices fill: there are as many as tags.
  pub word_fills-true : word_fills tags s word ≡ true → WordFills tags s word
  unfolding word_fills
  word_fills-true t = record { whole = choices_by-length word s tags ∙ sym (group-size tags s); apart = t }

  pub word_fills-of-fills : WordFills tags s word → word_fills tags s word ≡ true
  unfolding word_fills
  word_fills-of-fills f = f.apart

  pub word_fills-false : word_fills tags s word ≡ false → WordFills tags s word → ⊥
  word_fills-false e f = true≢false (sym (word_fills-of-fills f) ∙ e)

  pub word_fills-of-none : (WordFills tags s word → ⊥) → word_fills tags s word ≡ false
  word_fills-of-none never = not-eq-not.0 (λ t. never (word_fills-true t))

-- No word of 32 bits makes the group's places all different under seed s.
abbrev pub NoWord : List ℕ → ℕ → Type 0
NoWord tags s = (word : ℕ) → word < tag_end → WordFills tags s word → ⊥

-- The word is the group's under seed s: it has 32 bits, its choices fill, and those of no lower word do.
pub record LeastWord (tags : List ℕ) (s word : ℕ) : Type 0 where
  pub below : word < tag_end
  pub fills : WordFills tags s word
  pub lower : (w : ℕ) → w < word → WordFills tags s w → ⊥

-- The seed and the word are the group's below the limit: the word is the least under this seed, and no seed before has a word.
pub record LeastWordSeed (tags : List ℕ) (limit s word : ℕ) : Type 0 where
  pub below : s < limit
  pub least : LeastWord tags s word
  pub passed : (t : ℕ) → t < s → NoWord tags t

module _ (tags : List ℕ) where
  module _ (s : ℕ) where
    -- The word found is the least whose choices fill.
    pub least_word-some : {word : ℕ} → least_word tags s ≡ Some word → LeastWord tags s word
    unfolding least_word
    least_word-some {word} e =
        let at = first_some (word_fills tags s) tag_end e in
        record {
          below = at.below;
          fills = word_fills-true tags s word at.holds;
          lower = λ w lt. word_fills-false tags s w (at.lowest w lt);
        }

    -- Where none is found, there is no such word.
    pub least_word-none : least_word tags s ≡ None → NoWord tags s
    unfolding least_word
    least_word-none e word lt = word_fills-false tags s word (first-none (word_fills tags s) tag_end e word lt)

    -- The least word whose choices fill is the one found.
    pub least_word-only : {word : ℕ} → LeastWord tags s word → least_word tags s ≡ Some word
    unfolding least_word
    least_word-only {word} at =
        first_found (word_fills tags s) tag_end word at.below (word_fills-of-fills tags s word at.fills)
        (λ w lt. word_fills-of-none tags s w (at.lower w lt))

    -- Where there is no such word, none is found.
    pub least_word-out : NoWord tags s → least_word tags s ≡ None
    unfolding least_word
    least_word-out out = first_out (word_fills tags s) tag_end (λ w lt. word_fills-of-none tags s w (out w lt))

    -- A group that nothing fills under the seed has no word.
    pub no_word-of-none_fills : NoneFills tags s → NoWord tags s
    no_word-of-none_fills nothing word lt f = nothing (choices_by word s tags) f

    pub least_word-unfilled : NoneFills tags s → least_word tags s ≡ None
    least_word-unfilled nothing = least_word-out (no_word-of-none_fills nothing)

    -- Some word of 32 bits fills: then there is a least.
    pub least_word-of-fills : (word : ℕ) → word < tag_end → WordFills tags s word → (w : ℕ) × (least_word tags s ≡ Some w)
    least_word-of-fills word lt f = go (least_word tags s) refl
      where
        go : (o : Option ℕ) → least_word tags s ≡ o → (w : ℕ) × (least_word tags s ≡ Some w)
        go None e = absurd (least_word-none e word lt f)
        go (Some w) e = (w, e)

    -- The least word is the one taken.
    pub word_taken-only : {word : ℕ} → LeastWord tags s word → word_taken tags s ≡ word
    unfolding word_taken
    word_taken-only at = rw (least_word-only at)

  -- The test that the search for a seed makes.
  abbrev seed_test : ℕ → Bool
  seed_test s = is_some (least_word tags s)

  -- A seed with its word.
  abbrev with_word : ℕ → ℕ × ℕ
  with_word s = (s, word_taken tags s)

  module _ (limit : ℕ) where
    -- The seed found is the least that has a word.
    pub least_word_seed-some : {s : ℕ} → least_word_seed tags limit ≡ Some s → (word : ℕ) × LeastWordSeed tags limit s word
    unfolding least_word_seed
    least_word_seed-some {s} e =
        let at = first_some seed_test limit e in
        let (word, has) = some-of-is_some (least_word tags s) at.holds in (
          word,
          record {
            below = at.below;
            least = least_word-some s has;
            passed = λ t lt. least_word-none t (none-of-is_some (least_word tags t) (at.lowest t lt));
          },
        )

    -- Where none is found, no seed below the limit has a word.
    pub least_word_seed-none : least_word_seed tags limit ≡ None → (t : ℕ) → t < limit → NoWord tags t
    unfolding least_word_seed
    least_word_seed-none e t lt = least_word-none t (none-of-is_some (least_word tags t) (first-none seed_test limit e t lt))

    -- The least seed below the limit that has a word is the one found.
    pub least_word_seed-only : (s word : ℕ) → s < limit → word < tag_end → WordFills tags s word → ((t : ℕ) → t < s → NoWord tags t)
        → least_word_seed tags limit ≡ Some s
    unfolding least_word_seed
    least_word_seed-only s word below lt f passed =
        first_found seed_test limit s below (is_some-of-some (least_word-of-fills s word lt f).1)
        (λ t before. is_some-of-none (least_word-out t (passed t before)))

    -- Where no seed below the limit has a word, none is found.
    pub least_word_seed-out : ((t : ℕ) → t < limit → NoWord tags t) → least_word_seed tags limit ≡ None
    unfolding least_word_seed
    least_word_seed-out out = first_out seed_test limit (λ t lt. is_some-of-none (least_word-out t (out t lt)))

    -- The seed and the word found are the group's.
    pub worded_seed-some : {s word : ℕ} → worded_seed tags limit ≡ Some (s, word) → LeastWordSeed tags limit s word
    unfolding worded_seed
    worded_seed-some {s} {word} e = go (least_word_seed tags limit) refl e
      where
        go : (o : Option ℕ) → least_word_seed tags limit ≡ o → option_map with_word o ≡ Some (s, word)
            → LeastWordSeed tags limit s word
        go None found e = absurd (none-some (s, word) e)
        go (Some t) found e = let (w, at) = least_word_seed-some found in on w at
          where
            on : (w : ℕ) → LeastWordSeed tags limit t w → LeastWordSeed tags limit s word
            on w at =
                let both = same_Some (with_word t) (s, word) e in
                let own : w ≡ word = sym (word_taken-only t at.least) ∙ ap (λ p. p.1) both in
                rw (ap (λ p. p.0) both, own) at at

    -- Where none are found, no seed below the limit has a word.
    pub worded_seed-none : worded_seed tags limit ≡ None → (t : ℕ) → t < limit → NoWord tags t
    unfolding worded_seed
    worded_seed-none e = go (least_word_seed tags limit) refl e
      where
        go : (o : Option ℕ) → least_word_seed tags limit ≡ o → option_map with_word o ≡ None
            → (t : ℕ) → t < limit → NoWord tags t
        go None found e = least_word_seed-none found
        go (Some s) found e = absurd (none-some (s, word_taken tags s) (sym e))

    -- The group's seed and word are those found.
    pub worded_seed-only : {s word : ℕ} → LeastWordSeed tags limit s word → worded_seed tags limit ≡ Some (s, word)
    unfolding worded_seed
    worded_seed-only {s} {word} at =
        rw (
          least_word_seed-only s word at.below at.least.below at.least.fills at.passed,
          word_taken-only s at.least,
        )

    -- Where no seed below the limit has a word, none are found.
    pub worded_seed-out : ((t : ℕ) → t < limit → NoWord tags t) → worded_seed tags limit ≡ None
    unfolding worded_seed
    worded_seed-out out = rw (least_word_seed-out out)

-- Every word fills the empty group, with no choice.
word-empty : (s word : ℕ) → WordFills [] s word
unfolding choices_by candidates chosen distinct
word-empty s word = record { whole = refl; apart = refl }

-- So its least word is 0 under every seed,
least-empty : (s : ℕ) → LeastWord [] s 0
least-empty s = record { below = omega arith; fills = word-empty s 0; lower = λ w lt f. omega arith }

pub least_word-empty : (s : ℕ) → least_word [] s ≡ Some 0
least_word-empty s = least_word-only [] s (least-empty s)

-- and "An empty group has 0 and 0".
pub least_word_seed-empty : (limit : ℕ) → 0 < limit → least_word_seed [] limit ≡ Some 0
least_word_seed-empty limit below =
    least_word_seed-only [] limit 0 0 below (omega arith) (word-empty 0 0) (λ t lt. absurd (omega arith))

pub worded_seed-empty : (limit : ℕ) → 0 < limit → worded_seed [] limit ≡ Some (0, 0)
worded_seed-empty limit below =
    worded_seed-only [] limit (record { below = below; least = least-empty 0; passed = λ t lt. absurd (omega arith) })
