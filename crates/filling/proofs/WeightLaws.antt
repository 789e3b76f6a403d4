-- What `total` adds up to, and that the lighter of two choice sequences does not come after the other. Assumes nothing.
use Rattle.std.specs.Prelude.{ℕ, zero, suc, ◌+◌, ◌*◌, ◌-◌, ◌^◌, ◌≤◌, ◌<◌, ◌≡◌, refl, Bool, true, false, List, [], ◌∷◌, length}
use Rattle.std.proofs.Common.{sym, ◌∙◌, ap, inl, inr, add-one, arith, pow_mono}
use Rattle.std.proofs.Math.Nat.{two-pow-succ}
use Rattle.std.proofs.Math.Decide.{ℕ_discrete, dec_lt}
use Rattle.filling.specs.Separate.{by_index}
use Rattle.filling.specs.Order.{ones, LowestDecides, NotAfter}
use Rattle.filling.specs.Word.{choice_number}
use Rattle.filling.specs.Weight.{key_weight, choice_weight, total, count}

-- A choice weighs at most what its key does.
choice-most : (c : Bool) (x : ℕ) → choice_weight c x ≤ x
unfolding choice_weight
choice-most false x = omega arith
choice-most true x = omega arith

-- The second place of a key weighs at most 2^32 + 2^31,
pub key_weight-most : (i : ℕ) → key_weight i ≤ 2 ^ 32 + 2 ^ 31
unfolding key_weight
key_weight-most i = let upto : 31 - i ≤ 31 = omega arith in omega (arith, pow_mono upto)

-- and no more than that of a key before it.
pub key_weight-falls : (o k : ℕ) → o ≤ k → key_weight k ≤ key_weight o
unfolding key_weight
key_weight-falls o k le = let upto : 31 - k ≤ 31 - o = omega arith in omega (arith, pow_mono upto)

-- Only the first n choices and weights count.
pub total-same : (w v : ℕ → ℕ) (c d : ℕ → Bool) (n : ℕ) → ((i : ℕ) → i < n → w i ≡ v i) → ((i : ℕ) → i < n → c i ≡ d i)
    → total w c n ≡ total v d n
unfolding total
total-same w v c d zero p q = refl
total-same w v c d (suc n) p q =
    let rest = total-same w v c d n (λ i lt. p i (omega arith)) (λ i lt. q i (omega arith)) in
    rw (p n (omega arith), q n (omega arith), rest)

-- The choice of one key more: its second place adds the key's weight, its first nothing.
pub total-second : (w : ℕ → ℕ) (c : ℕ → Bool) (i : ℕ) → c i ≡ true → total w c (i + 1) ≡ total w c i + w i
unfolding total choice_weight
total-second w c i e = rw (add-one i, e)

pub total_first : (w : ℕ → ℕ) (c : ℕ → Bool) (i : ℕ) → c i ≡ false → total w c (i + 1) ≡ total w c i
unfolding total choice_weight
total_first w c i e = rw (add-one i, e) (omega arith)

-- n choices weigh at most n times as much.
pub weight-most : (c : ℕ → Bool) (n : ℕ) → total key_weight c n ≤ n * (2 ^ 32 + 2 ^ 31)
unfolding total
weight-most c zero = omega arith
weight-most c (suc n) = omega (arith, choice-most (c n) (key_weight n), key_weight-most n, weight-most c n)

-- At most n of n choices are choice 1.
pub count_most : (c : ℕ → Bool) (n : ℕ) → count c n ≤ n
unfolding total
count_most c zero = omega arith
count_most c (suc n) = omega (arith, choice-most (c n) 1, count_most c n)

-- Each choice weighs no more than all together.
pub total-has : (w : ℕ → ℕ) (c : ℕ → Bool) (n i : ℕ) → i < n → choice_weight (c i) (w i) ≤ total w c n
unfolding total
total-has w c zero i lt = absurd (omega arith)
total-has w c (suc n) i lt = go (ℕ_discrete i n) (total-has w c n i)
  where
    go : Dec (i ≡ n) → (i < n → choice_weight (c i) (w i) ≤ total w c n)
        → choice_weight (c i) (w i) ≤ total w c n + choice_weight (c n) (w n)
    go (yes e) rest = rw e (omega arith)
    go (no m) rest = omega (arith, rest (omega (arith, m)))

-- Choices that differ for key o at most weigh the same but for that.
pub total-change : (w : ℕ → ℕ) (c d : ℕ → Bool) (o n : ℕ) → o < n → ((i : ℕ) → (i ≡ o → ⊥) → c i ≡ d i)
    → total w c n + choice_weight (d o) (w o) ≡ total w d n + choice_weight (c o) (w o)
unfolding total
total-change w c d o zero lt others = absurd (omega arith)
total-change w c d o (suc n) lt others = go (ℕ_discrete o n) (λ below. total-change w c d o n below others)
  where
    go : Dec (o ≡ n) → (o < n → total w c n + choice_weight (d o) (w o) ≡ total w d n + choice_weight (c o) (w o))
        → total w c n + choice_weight (c n) (w n) + choice_weight (d o) (w o)
        ≡ total w d n + choice_weight (d n) (w n) + choice_weight (c o) (w o)
    go (yes e) lower = rw (e, total-same w w c d n (λ i l. refl) (λ i l. others i (λ z. omega arith))) (omega arith)
    go (no m) lower = rw (others n (λ z. m (sym z))) (omega (arith, lower (omega (arith, m))))

-- The first choice, and the weight of the others by the weights from the second key on.
total-cons : (w : ℕ → ℕ) (c : Bool) (cs : List Bool) (n : ℕ)
    → total w (by_index (c ∷ cs)) (suc n) ≡ choice_weight c (w 0) + total (λ i. w (suc i)) (by_index cs) n
unfolding total
total-cons w c cs zero = omega arith
total-cons w c cs (suc n) = omega (arith, total-cons w c cs n)

-- The weights of e keys: each more than all later ones together.
halving : ℕ → ℕ → ℕ
halving e i = 2 ^ (e - suc i)

halving-cons : (e : ℕ) (c : Bool) (cs : List Bool) (n : ℕ)
    → total (halving (suc e)) (by_index (c ∷ cs)) (suc n) ≡ choice_weight c (2 ^ e) + total (halving e) (by_index cs) n
unfolding halving
halving-cons e c cs n =
    let first : suc e - 1 ≡ e = omega arith in
    let later : ℕ → ℕ = λ i. 2 ^ (suc e - suc (suc i)) in
    let next : (i : ℕ) → i < n → later i ≡ halving e i = λ i lt. ap (λ (x : ℕ). 2 ^ x) (omega arith) in
    let same = total-same later (halving e) (by_index cs) (by_index cs) n next (λ i lt. refl) in
    total-cons (halving (suc e)) c cs n ∙ rw (first, same)

-- e choices weigh less than 2^e.
halving-below : (e : ℕ) (cs : List Bool) → length cs ≤ e → total (halving e) (by_index cs) (length cs) < 2 ^ e
unfolding total
halving-below zero [] l = omega arith
halving-below zero (c ∷ cs) l = absurd (omega arith)
halving-below (suc e) [] l = omega (arith, two-pow-succ e, halving-below e [] (omega arith))
halving-below (suc e) (c ∷ cs) l =
    omega (arith, halving-cons e c cs (length cs), halving-below e cs (omega arith), choice-most c (2 ^ e), two-pow-succ e)

-- So the first choice in which two sequences differ decides which is lighter.
halving-order : (e : ℕ) (cs ds : List Bool) → length cs ≡ length ds → length cs ≤ e
    → total (halving e) (by_index cs) (length cs) ≤ total (halving e) (by_index ds) (length ds) → LowestDecides cs ds
unfolding LowestDecides choice_weight
halving-order e [] ds l few le = tt
halving-order e (c ∷ cs) [] l few le = absurd (omega arith)
halving-order zero (c ∷ cs) (d ∷ ds) l few le = absurd (omega arith)
halving-order (suc e) (false ∷ cs) (false ∷ ds) l few le =
    halving-order e cs ds (omega arith) (omega arith)
    (omega (arith, halving-cons e false cs (length cs), halving-cons e false ds (length ds)))
halving-order (suc e) (false ∷ cs) (true ∷ ds) l few le = tt
halving-order (suc e) (true ∷ cs) (false ∷ ds) l few le =
    let below = halving-below e ds (omega arith) in
    absurd (omega (arith, halving-cons e true cs (length cs), halving-cons e false ds (length ds)))
halving-order (suc e) (true ∷ cs) (true ∷ ds) l few le =
    halving-order e cs ds (omega arith) (omega arith)
    (omega (arith, halving-cons e true cs (length cs), halving-cons e true ds (length ds)))

-- What n choices weigh: 2^32 for each choice 1, and the weights of 32 keys.
weight_is : (c : ℕ → Bool) (n : ℕ) → total key_weight c n ≡ 2 ^ 32 * count c n + total (halving 32) c n
unfolding total key_weight halving choice_weight
weight_is c zero = refl
weight_is c (suc n) =
    let place : 32 - suc n ≡ 31 - n = omega arith in
    rw (place, weight_is c n) (add (c n))
  where
    add : (b : Bool) → 2 ^ 32 * count c n + total (halving 32) c n + choice_weight b (2 ^ 32 + 2 ^ (31 - n))
        ≡ 2 ^ 32 * (count c n + choice_weight b 1) + (total (halving 32) c n + choice_weight b (2 ^ (31 - n)))
    add false = omega arith
    add true = omega arith

-- A sequence has as many ones as it has choices 1.
ones-count : (cs : List Bool) → count (by_index cs) (length cs) ≡ ones cs
unfolding total ones choice_weight choice_number
ones-count [] = refl
ones-count (c ∷ cs) = omega (arith, total-cons (λ _. 1) c cs (length cs), ones-count cs, same c)
  where
    same : (c : Bool) → choice_weight c 1 ≡ choice_number c
    same false = refl
    same true = refl

-- Of two choice sequences for at most 32 keys, one that is not heavier does not come after: the weight is the order.
pub weight-not_after : (cs ds : List Bool) → length cs ≡ length ds → length cs ≤ 32
    → total key_weight (by_index cs) (length cs) ≤ total key_weight (by_index ds) (length ds) → NotAfter cs ds
unfolding NotAfter
weight-not_after cs ds l few le = go (dec_lt (ones cs) (ones ds))
  where
    parts : (xs : List Bool)
        → total key_weight (by_index xs) (length xs) ≡ 2 ^ 32 * ones xs + total (halving 32) (by_index xs) (length xs)
    parts xs = weight_is (by_index xs) (length xs) ∙ rw (ones-count xs)

    go : Dec (ones cs < ones ds) → NotAfter cs ds
    go (yes lt) = inl lt
    go (no n) =
        let below = halving-below 32 ds (omega arith) in
        let same : ones cs ≡ ones ds = omega (arith, n, parts cs, parts ds) in
        inr (same, halving-order 32 cs ds l few (omega (arith, parts cs, parts ds)))
