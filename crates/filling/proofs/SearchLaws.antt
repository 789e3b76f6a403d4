-- What a search for the first sequence that fills comes to, key by key, whatever the order. Assumes nothing.
use Rattle.std.specs.Prelude.{ℕ, ◌≡◌, refl, ◌⊎◌, Bool, cond, length, Option, None, Some, option_map}
use Rattle.std.proofs.Common.{inl, inr, arith}
use Rattle.std.proofs.Math.Bool.{true, false, not-eq-not}
use mathlib.Core.List.{List, [], ◌∷◌}
use Rattle.lists.specs.Occurs.{occurs, distinct}
use Rattle.lists.proofs.OccursLaws.{occurs-here, occurs-there, occurs-cases, occurs-not, absent-cons, absent-tail, distinct_head}
use Rattle.lists.proofs.OccursLaws.{distinct_tail, distinct_cons}
use Rattle.filling.specs.Filling.{Key, place_by, chosen, Fills}
use Rattle.filling.specs.Least.{beginning}

-- The numbers xs, taken one after another, are never in use already: what the search tests.
unfoldable pub Fresh : List ℕ → List ℕ → Type 0
Fresh used [] = Unit {0}
Fresh used (x ∷ xs) = (occurs x used ≡ false) × Fresh (x ∷ used) xs

-- What is taken so is not in use,
fresh-absent : (used xs : List ℕ) → Fresh used xs → (x : ℕ) → occurs x xs ≡ true → occurs x used ≡ false
unfolding Fresh occurs
fresh-absent used [] f x t = cc
fresh-absent used (y ∷ ys) f x t = go (occurs-cases x y ys t) (fresh-absent (y ∷ used) ys f.1 x)
  where
    go : (x ≡ y) ⊎ (occurs x ys ≡ true) → (occurs x ys ≡ true → occurs x (y ∷ used) ≡ false)
        → occurs x used ≡ false
    go (inl same) rest = rw same f.0
    go (inr t) rest = absent-tail x y used (rest t)

-- and all different.
fresh-distinct : (used xs : List ℕ) → Fresh used xs → distinct xs ≡ true
unfolding Fresh distinct
fresh-distinct used [] f = refl
fresh-distinct used (x ∷ xs) f =
    distinct_cons x xs (not-eq-not.0 again) (fresh-distinct (x ∷ used) xs f.1)
  where
    again : occurs x xs ≡ true → ⊥
    again t = occurs-not x (x ∷ used) (occurs-here x used) (fresh-absent (x ∷ used) xs f.1 x t)

-- Different numbers that are not in use can be taken so.
fresh : (used xs : List ℕ) → distinct xs ≡ true
    → ((x : ℕ) → occurs x xs ≡ true → occurs x used ≡ false) → Fresh used xs
unfolding Fresh
fresh used [] d off = tt
fresh used (x ∷ xs) d off = (off x (occurs-here x xs), fresh (x ∷ used) xs (distinct_tail x xs d) rest)
  where
    rest : (z : ℕ) → occurs z xs ≡ true → occurs z (x ∷ used) ≡ false
    rest z t =
        let different : z ≡ x → ⊥ = λ e. occurs-not x xs (rw e at t) (distinct_head x xs d) in
        absent-cons z x used different (off z (occurs-there z x xs t))

-- The sequence fills over the places used so far.
pub record FillsOver (used : List ℕ) (keys : List Key) (choices : List Bool) : Type 0 where
  pub whole : length choices ≡ length keys
  pub off : Fresh used (chosen keys choices)

-- An option is the first sequence in an order with a property, or there is none with it.
abbrev pub FirstOf : (List Bool → List Bool → Type 0) → (List Bool → Type 0) → Option (List Bool) → Type 0
FirstOf Order P None = (cs : List Bool) → P cs → ⊥
FirstOf Order P (Some cs) = P cs × ((ds : List Bool) → P ds → Order cs ds)

-- Of the first sequence that begins with choice 0 and the first that begins with choice 1, `better` gives the first of all.
abbrev pub Better : (List Bool → List Bool → Type 0) → (Option (List Bool) → Option (List Bool) → Option (List Bool)) → Type 1
Better Order better =
    (P : List Bool → Type 0) → (P [] → ⊥) → (o₀ o₁ : Option (List Bool))
    → FirstOf Order (λ cs. P (false ∷ cs)) o₀ → FirstOf Order (λ cs. P (true ∷ cs)) o₁
    → FirstOf Order P (better (option_map (λ cs. false ∷ cs) o₀) (option_map (λ cs. true ∷ cs) o₁))

-- `beginning` keeps the choice at the front and drops the rest where its place is used.
beginning-map : (c : Bool) (key : Key) (used : List ℕ) (o : Option (List Bool))
    → beginning c key used o ≡ option_map (λ cs. c ∷ cs) (cond (occurs (place_by c key) used) None o)
unfolding beginning
beginning-map c key used o = go (occurs (place_by c key) used)
  where
    go : (b : Bool) → cond b None (option_map (λ cs. c ∷ cs) o) ≡ option_map (λ cs. c ∷ cs) (cond b None o)
    go true = refl
    go false = refl

-- With no place used yet, a sequence that fills also fills over the places used.
pub over-of-fills : (keys : List Key) (cs : List Bool) → Fills keys cs → FillsOver [] keys cs
unfolding occurs
over-of-fills keys cs f = record { whole = f.whole; off = fresh [] (chosen keys cs) f.apart (λ x t. refl) }

-- And the other way.
pub fills-of-over : (keys : List Key) (cs : List Bool) → FillsOver [] keys cs → Fills keys cs
fills-of-over keys cs f = record { whole = f.whole; apart = fresh-distinct [] (chosen keys cs) f.off }

module _ (Order : List Bool → List Bool → Type 0) where
  -- No key: the empty sequence.
  pub first-empty : Order [] [] → (used : List ℕ) → FirstOf Order (FillsOver used []) (Some [])
  unfolding Fresh chosen
  first-empty same used =
      (record { whole = refl; off = tt }, elim [ [] ↦ λ f. same | d ∷ ds ↦ λ f. absurd (omega (arith, f.whole)) ])

  -- Those that begin with a choice: none where its place is used, otherwise those of the rest with that place used too.
  first-beginning : (c : Bool) (key : Key) (used : List ℕ) (keys : List Key) (o : Option (List Bool)) (b : Bool)
      → occurs (place_by c key) used ≡ b → FirstOf Order (FillsOver (place_by c key ∷ used) keys) o
      → FirstOf Order (λ cs. FillsOver used (key ∷ keys) (c ∷ cs)) (cond b None o)
  unfolding Fresh chosen
  first-beginning c key used keys o true e h = λ cs f. occurs-not (place_by c key) used e f.off.0
  first-beginning c key used keys None false e h = λ cs f. h cs (record { whole = omega arith; off = f.off.1 })
  first-beginning c key used keys (Some cs) false e h =
      (record { whole = omega arith; off = (e, h.0.off) }, λ ds f. h.1 ds (record { whole = omega arith; off = f.off.1 }))

  -- One key more.
  pub first_key : (better : Option (List Bool) → Option (List Bool) → Option (List Bool)) → Better Order better
      → (used : List ℕ) (key : Key) (keys : List Key) (o : Bool → Option (List Bool))
      → ((c : Bool) → FirstOf Order (FillsOver (place_by c key ∷ used) keys) (o c))
      → FirstOf Order (FillsOver used (key ∷ keys)) (better (beginning false key used (o false)) (beginning true key used (o true)))
  first_key better is-better used key keys o h =
      simp beginning-map (is-better (FillsOver used (key ∷ keys)) nil (rest false) (rest true) (is false) (is true))
    where
      rest : Bool → Option (List Bool)
      rest c = cond (occurs (place_by c key) used) None (o c)

      is : (c : Bool) → FirstOf Order (λ cs. FillsOver used (key ∷ keys) (c ∷ cs)) (rest c)
      is c = first-beginning c key used keys (o c) (occurs (place_by c key) used) refl (h c)

      nil : FillsOver used (key ∷ keys) [] → ⊥
      nil f = omega (arith, f.whole)

  -- With no place used yet, what fills over the places used fills.
  pub first-fills : (keys : List Key) (o : Option (List Bool)) → FirstOf Order (FillsOver [] keys) o → FirstOf Order (Fills keys) o
  first-fills keys None h = λ cs f. h cs (over-of-fills keys cs f)
  first-fills keys (Some cs) h = (fills-of-over keys cs h.0, λ ds f. h.1 ds (over-of-fills keys ds f))
