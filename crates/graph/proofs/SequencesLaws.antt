-- All choice sequences are 2^n, each once; and how many of them fill over the places used so far, key by key. Assumes nothing.
use Rattle.std.specs.Prelude.{ℕ, zero, suc, ◌+◌, ◌^◌, ◌≡◌, refl, ◌↔◌, Bool, true, false, not, cond, ◌&&◌, List, [], ◌∷◌, map, eqb, length}
use Rattle.std.proofs.Common.{sym, ◌∙◌, ap, arith, length-append, eqb-true, eq-eqb}
use Rattle.std.proofs.Math.Bool.{xor, not-eq-not, and-false}
use Rattle.std.proofs.lemmas.Bool.{false≢true, not-true}
use Rattle.std.proofs.Math.Nat.{two-pow-succ}
use Rattle.std.proofs.Math.Dec.{eqb-zero-suc, eqb-suc-zero, eqb-suc-suc}
use Rattle.std.proofs.lemmas.List.{length-map}
use Rattle.lists.proofs.BoolLaws.{both-of-and}
use Rattle.lists.specs.Occurs.{occurs, distinct}
use Rattle.filling.specs.Filling.{Key, place_by, chosen, Fills}
use Rattle.filling.proofs.SearchLaws.{FillsOver, over-of-fills, fills-of-over}
use Rattle.graph.specs.HowMany.{one, how_many}
use Rattle.graph.proofs.HowManyLaws.{one-true, one-false, how_many-append, how_many-map, how_many-same, how_many-none}
use Rattle.graph.specs.Sequences.{all_sequences, fills, same}
use Rattle.graph.proofs.RoomLaws.{over-cons, over-split, over_none}

-- There are 2^n sequences of n choices.
pub all-length : (n : ℕ) → length (all_sequences n) ≡ 2 ^ n
unfolding all_sequences
all-length zero = refl
all-length (suc n) =
    let css = all_sequences n in
    let front = map (λ choices. false ∷ choices) css in
    let back = map (λ choices. true ∷ choices) css in
    omega (
      arith,
      length-append front back,
      length-map css (λ choices. false ∷ choices),
      length-map css (λ choices. true ∷ choices),
      all-length n,
      two-pow-succ n,
    )

-- Of the sequences that begin with 0 and those that begin with 1, one kind alone can be a given one.
begins : (c : Bool) (cs : List Bool) (css : List (List Bool))
    → how_many (λ ds. same (c ∷ cs) (false ∷ ds)) css + how_many (λ ds. same (c ∷ cs) (true ∷ ds)) css ≡ how_many (same cs) css
unfolding same xor
begins false cs css = omega (
  arith,
  how_many-same (λ ds. same (false ∷ cs) (false ∷ ds)) (same cs) css (λ _. refl),
  how_many-none (λ ds. same (false ∷ cs) (true ∷ ds)) css (λ _. refl),
)
begins true cs css = omega (
  arith,
  how_many-same (λ ds. same (true ∷ cs) (true ∷ ds)) (same cs) css (λ _. refl),
  how_many-none (λ ds. same (true ∷ cs) (false ∷ ds)) css (λ _. refl),
)

-- Each sequence of n choices stands among them once, and no other does.
pub all_once : (n : ℕ) (cs : List Bool) → how_many (same cs) (all_sequences n) ≡ one (eqb (length cs) n)
unfolding all_sequences how_many same one
all_once zero [] = refl
all_once zero (c ∷ cs) = sym (one-false (eqb-suc-zero (length cs)))
all_once (suc n) [] =
    let css = all_sequences n in
    let never : (c : Bool) → how_many (same []) (map (λ ds. c ∷ ds) css) ≡ 0 =
    λ c. how_many-map (λ ds. c ∷ ds) (same []) css ∙ how_many-none _ css (λ _. refl) in
    omega (
      arith,
      how_many-append (same []) (map (λ ds. false ∷ ds) css) (map (λ ds. true ∷ ds) css),
      never false,
      never true,
      one-false (eqb-zero-suc n),
    )
all_once (suc n) (c ∷ cs) =
    let css = all_sequences n in
    omega (
      arith,
      how_many-append (same (c ∷ cs)) (map (λ ds. false ∷ ds) css) (map (λ ds. true ∷ ds) css),
      how_many-map (λ ds. false ∷ ds) (same (c ∷ cs)) css,
      how_many-map (λ ds. true ∷ ds) (same (c ∷ cs)) css,
      begins c cs css,
      all_once n cs,
      ap one (eqb-suc-suc (length cs) n),
    )

-- Two sequences are one exactly where the test says so.
same-itself : (cs : List Bool) → same cs cs ≡ true
unfolding same xor
same-itself [] = refl
same-itself (false ∷ cs) = same-itself cs
same-itself (true ∷ cs) = same-itself cs

one-of-same : (cs ds : List Bool) → same cs ds ≡ true → cs ≡ ds
unfolding same xor
one-of-same [] [] e = refl
one-of-same [] (d ∷ ds) e = absurd (false≢true e)
one-of-same (c ∷ cs) [] e = absurd (false≢true e)
one-of-same (false ∷ cs) (false ∷ ds) e = ap (λ xs. false ∷ xs) (one-of-same cs ds e)
one-of-same (false ∷ cs) (true ∷ ds) e = absurd (false≢true e)
one-of-same (true ∷ cs) (false ∷ ds) e = absurd (false≢true e)
one-of-same (true ∷ cs) (true ∷ ds) e = ap (λ xs. true ∷ xs) (one-of-same cs ds e)

pub same-is : (cs ds : List Bool) → (same cs ds ≡ true) ↔ (cs ≡ ds)
same-is cs ds = (one-of-same cs ds, λ e. rw e (same-itself ds))

-- Those of a list that pass a test: as many as pass, and each as often as before.
unfoldable pub those : (List Bool → Bool) → List (List Bool) → List (List Bool)
those test [] = []
those test (cs ∷ css) = cond (test cs) (cs ∷ those test css) (those test css)

those-length : (test : List Bool → Bool) (css : List (List Bool)) → length (those test css) ≡ how_many test css
unfolding those how_many
those-length test [] = refl
those-length test (cs ∷ css) = go (test cs) refl (those-length test css)
  where
    go : (b : Bool) → test cs ≡ b → length (those test css) ≡ how_many test css
        → length (cond b (cs ∷ those test css) (those test css)) ≡ one (test cs) + how_many test css
    go true e rest = omega (arith, one-true e)
    go false e rest = omega (arith, one-false e)

those-how_many : (test other : List Bool → Bool) (css : List (List Bool))
    → how_many other (those test css) ≡ how_many (λ cs. test cs && other cs) css
unfolding those how_many
those-how_many test other [] = refl
those-how_many test other (cs ∷ css) = go (test cs) refl (those-how_many test other css)
  where
    go : (b : Bool) → test cs ≡ b → how_many other (those test css) ≡ how_many (λ cs. test cs && other cs) css
        → how_many other (cond b (cs ∷ those test css) (those test css))
        ≡ one (test cs && other cs) + how_many (λ cs. test cs && other cs) css
    go true e rest = omega (arith, ap (λ (b : Bool). one (b && other cs)) e)
    go false e rest = omega (arith, ap (λ (b : Bool). one (b && other cs)) e, one-false {b = false} refl)

-- The sequences that fill, as a list: as long as they are many, and each of them stands there once, and no other does.
pub filling-length : (keys : List Key) → length (those (fills keys) (all_sequences (length keys)))
    ≡ how_many (fills keys) (all_sequences (length keys))
filling-length keys = those-length (fills keys) (all_sequences (length keys))

pub filling-once : (keys : List Key) (cs : List Bool)
    → how_many (same cs) (those (fills keys) (all_sequences (length keys))) ≡ one (fills keys cs)
unfolding fills
filling-once keys cs =
    those-how_many (fills keys) (same cs) css
    ∙ how_many-same (λ ds. fills keys ds && same cs ds) (λ ds. fills keys cs && same cs ds) css at
    ∙ go (fills keys cs) refl
  where
    css : List (List Bool)
    css = all_sequences (length keys)

    at : (ds : List Bool) → (fills keys ds && same cs ds) ≡ (fills keys cs && same cs ds)
    at ds = on (same cs ds) refl
      where
        on : (b : Bool) → same cs ds ≡ b → (fills keys ds && b) ≡ (fills keys cs && b)
        on true e = rw (one-of-same cs ds e)
        on false e = and-false (fills keys ds) ∙ sym (and-false (fills keys cs))

    go : (b : Bool) → fills keys cs ≡ b → how_many (λ ds. b && same cs ds) css ≡ one b
    go false e = how_many-none _ css (λ _. refl) ∙ sym (one-false refl)
    go true e =
        let whole = (both-of-and (eqb (length cs) (length keys)) (distinct (chosen keys cs)) e).0 in
        all_once (length keys) cs ∙ ap one whole

-- The test is `Fills`.
pub fills-is : (keys : List Key) (cs : List Bool) → (fills keys cs ≡ true) ↔ Fills keys cs
unfolding fills
fills-is keys cs = (
  λ e. let (whole, apart) = both-of-and _ _ e in record { whole = eqb-true (length cs) (length keys) whole; apart = apart },
  λ f. rw (eq-eqb (length cs) (length keys) f.whole, f.apart),
)

-- Filling over the places used so far, as a test.
unfoldable pub fills_over : List ℕ → List Key → List Bool → Bool
fills_over used [] [] = true
fills_over used [] (c ∷ cs) = false
fills_over used (key ∷ keys) [] = false
fills_over used (key ∷ keys) (c ∷ cs) = not (occurs (place_by c key) used) && fills_over (place_by c key ∷ used) keys cs

over-of-test : (used : List ℕ) (keys : List Key) (cs : List Bool) → fills_over used keys cs ≡ true → FillsOver used keys cs
unfolding fills_over
over-of-test used [] [] e = over_none used
over-of-test used [] (c ∷ cs) e = absurd (false≢true e)
over-of-test used (key ∷ keys) [] e = absurd (false≢true e)
over-of-test used (key ∷ keys) (c ∷ cs) e =
    let (free, rest) = both-of-and _ _ e in
    over-cons (not-true (occurs (place_by c key) used) free) (over-of-test (place_by c key ∷ used) keys cs rest)

test-of-over : (used : List ℕ) (keys : List Key) (cs : List Bool) → FillsOver used keys cs → fills_over used keys cs ≡ true
unfolding fills_over
test-of-over used [] [] f = refl
test-of-over used [] (c ∷ cs) f = absurd (omega (arith, f.whole))
test-of-over used (key ∷ keys) [] f = absurd (omega (arith, f.whole))
test-of-over used (key ∷ keys) (c ∷ cs) f =
    let (free, rest) = over-split f in
    rw (free, test-of-over (place_by c key ∷ used) keys cs rest)

-- Tests that say one thing are one test.
pub same_test : (a b : Bool) → (a ≡ true → b ≡ true) → (b ≡ true → a ≡ true) → a ≡ b
same_test true b there back = sym (there refl)
same_test false true there back = back refl
same_test false false there back = refl

-- With no place used yet it is `fills`.
fills-over : (keys : List Key) (cs : List Bool) → fills keys cs ≡ fills_over [] keys cs
fills-over keys cs =
    same_test _ _ (λ e. test-of-over [] keys cs (over-of-fills keys cs ((fills-is keys cs).0 e)))
    (λ e. (fills-is keys cs).1 (fills-of-over keys cs (over-of-test [] keys cs e)))

-- How many of all sequences fill over the places used so far.
abbrev pub sequences_over : List ℕ → List Key → ℕ
sequences_over used keys = how_many (fills_over used keys) (all_sequences (length keys))

pub sequences-over : (keys : List Key) → how_many (fills keys) (all_sequences (length keys)) ≡ sequences_over [] keys
sequences-over keys = how_many-same (fills keys) (fills_over [] keys) (all_sequences (length keys)) (fills-over keys)

-- Without keys the empty sequence does.
pub sequences-none : (used : List ℕ) → sequences_over used [] ≡ 1
unfolding how_many all_sequences fills_over one
sequences-none used = refl

-- Those that begin with a choice: none where its place is used, otherwise as many as fill over that place too.
abbrev pub beginning_with : List ℕ → Key → List Key → Bool → ℕ
beginning_with used key keys choice = cond (occurs (place_by choice key) used) 0 (sequences_over (place_by choice key ∷ used) keys)

beginning-is : (used : List ℕ) (key : Key) (keys : List Key) (choice : Bool)
    → how_many (λ cs. fills_over used (key ∷ keys) (choice ∷ cs)) (all_sequences (length keys)) ≡ beginning_with used key keys choice
unfolding fills_over
beginning-is used key keys choice = go (occurs (place_by choice key) used)
  where
    rest : List Bool → Bool
    rest = fills_over (place_by choice key ∷ used) keys

    css : List (List Bool)
    css = all_sequences (length keys)

    go : (b : Bool) → how_many (λ cs. not b && rest cs) css ≡ cond b 0 (how_many rest css)
    go true = how_many-none _ css (λ _. refl)
    go false = refl

-- One key more.
pub sequences-key : (used : List ℕ) (key : Key) (keys : List Key)
    → sequences_over used (key ∷ keys) ≡ beginning_with used key keys false + beginning_with used key keys true
unfolding all_sequences
sequences-key used key keys =
    let test = fills_over used (key ∷ keys) in
    let css = all_sequences (length keys) in
    omega (
      arith,
      how_many-append test (map (λ cs. false ∷ cs) css) (map (λ cs. true ∷ cs) css),
      how_many-map (λ cs. false ∷ cs) test css,
      how_many-map (λ cs. true ∷ cs) test css,
      beginning-is used key keys false,
      beginning-is used key keys true,
    )

-- Where nothing fills there are none.
sequences-zero : (used : List ℕ) (keys : List Key) → ((cs : List Bool) → FillsOver used keys cs → ⊥) → sequences_over used keys ≡ 0
sequences-zero used keys never =
    how_many-none (fills_over used keys) (all_sequences (length keys)) (λ cs. not-eq-not.0 (λ e. never cs (over-of-test used keys cs e)))

pub beginning-free : (used : List ℕ) (key : Key) (keys : List Key) (choice : Bool) → occurs (place_by choice key) used ≡ false
    → beginning_with used key keys choice ≡ sequences_over (place_by choice key ∷ used) keys
beginning-free used key keys choice free = rw free

pub beginning-none : (used : List ℕ) (key : Key) (keys : List Key) (choice : Bool)
    → (occurs (place_by choice key) used ≡ false → (cs : List Bool) → FillsOver (place_by choice key ∷ used) keys cs → ⊥)
    → beginning_with used key keys choice ≡ 0
beginning-none used key keys choice never = go (occurs (place_by choice key) used) never
  where
    go : (b : Bool) → (b ≡ false → (cs : List Bool) → FillsOver (place_by choice key ∷ used) keys cs → ⊥)
        → cond b 0 (sequences_over (place_by choice key ∷ used) keys) ≡ 0
    go true never = refl
    go false never = sequences-zero (place_by choice key ∷ used) keys (never refl)
