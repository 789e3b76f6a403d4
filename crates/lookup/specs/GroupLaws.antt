-- What the checks of a tag's group come to, by what its line and the next one read as, in any view. Assumes nothing.
use Rattle.std.specs.Prelude.{◌≡◌, Bool, ◌&&◌, ◌||◌, ℕ, suc, ◌≤◌, ◌<◌, Option, None, Some, unwrap_or, option_map}
use Rattle.std.proofs.Math.Path.{refl, ap}
use Rattle.std.proofs.Common.{◌∙◌}
use Rattle.std.proofs.Math.Bool.{true, false, not}
use Rattle.std.proofs.Math.Dec.{ltb}
use borrow.Author.Tests.{lt-ltb, le-ltb}
use Rattle.refusal.specs.Outcome.{Outcome, refused}
use Rattle.lists.specs.First.{met_at, is_some}
use Rattle.refusal.specs.Checks.{in_order}
use Rattle.image.specs.View.{View, count_in, groups_in, start_in, seed_in, end_in, faulty}
use Rattle.image.specs.Lookup.{group_checks}
use Rattle.lookup.specs.Steps.{end_of}

module _ (v : View) (g : ℕ) where
  -- Where the group ends: at N after the last group, and otherwise where the next line says.
  pub end-at-count : groups_in v ≤ suc g → end_of v g ≡ Some (count_in v)
  unfolding end_of
  end-at-count past = rw (le-ltb (suc g) (groups_in v) past)

  pub end-at-next : suc g < groups_in v → {o : Option (ℕ × ℕ)} → v.group_at (suc (suc g)) ≡ o → end_of v g ≡ option_map (λ h. h.0) o
  unfolding end_of
  end-at-next below e = rw (lt-ltb (suc g) (groups_in v) below, e)

  -- The second check, by where the group ends.
  next-is : (o : Option ℕ) → end_of v g ≡ o
      → (ltb (suc g) (groups_in v) && not (is_some (v.group_at (suc (suc g))))) ≡ not (is_some o)
  unfolding end_of is_some
  next-is o e = go (ltb (suc g) (groups_in v)) (v.group_at (suc (suc g))) refl refl
    where
      go : (b : Bool) (p : Option (ℕ × ℕ)) → ltb (suc g) (groups_in v) ≡ b → v.group_at (suc (suc g)) ≡ p
          → (ltb (suc g) (groups_in v) && not (is_some (v.group_at (suc (suc g))))) ≡ not (is_some o)
      go true None f h = rw (f, h) (ap (λ (q : Option ℕ). not (is_some q)) (rw (f, h) at e))
      go true (Some p) f h = rw (f, h) (ap (λ (q : Option ℕ). not (is_some q)) (rw (f, h) at e))
      go false p f h = rw f (ap (λ (q : Option ℕ). not (is_some q)) (rw f at e))

  pub end_is : {end : ℕ} → end_of v g ≡ Some end → end_in v g ≡ end
  unfolding end_in start_in end_of
  end_is {end} ends = go (ltb (suc g) (groups_in v)) (v.group_at (suc (suc g))) refl refl
    where
      go : (b : Bool) (p : Option (ℕ × ℕ)) → ltb (suc g) (groups_in v) ≡ b → v.group_at (suc (suc g)) ≡ p → end_in v g ≡ end
      go true None f h = let z = rw (f, h) at ends in cc
      go true (Some p) f h =
          let z : Some p.0 ≡ Some end = rw (f, h) at ends in rw f (ap (λ (o : Option (ℕ × ℕ)). (unwrap_or o (0, 0)).0) h ∙ cc)
      go false p f h = let z : Some (count_in v) ≡ Some end = rw f at ends in rw f (cc)

  module _ {start seed : ℕ} (own : v.group_at (suc g) ≡ Some (start, seed)) where
    pub start_is : start_in v g ≡ start
    unfolding start_in
    start_is = ap (λ (o : Option (ℕ × ℕ)). (unwrap_or o (0, 0)).0) own

    pub seed-is : seed_in v g ≡ seed
    unfolding seed_in
    seed-is = ap (λ (o : Option (ℕ × ℕ)). (unwrap_or o (0, 0)).1) own

  -- 12 at the group's line, 12 at the next one, 13, or what stands behind the checks.
  module _ {A : Type 0} (behind : Outcome A) where
    pub own-refused : v.group_at (suc g) ≡ None → in_order (group_checks v g) behind ≡ refused 12 (suc g)
    unfolding group_checks in_order met_at is_some
    own-refused e = rw e

    module _ {start seed : ℕ} (own : v.group_at (suc g) ≡ Some (start, seed)) where
      pub next-refused : end_of v g ≡ None → in_order (group_checks v g) behind ≡ refused 12 (suc (suc g))
      unfolding group_checks in_order met_at is_some
      next-refused e = rw (own, next-is None e)

      module _ {end : ℕ} (ends : end_of v g ≡ Some end) where
        pub fault-refused : (faulty g start end || ltb (count_in v) end) ≡ true → in_order (group_checks v g) behind ≡ refused 13 g
        unfolding group_checks in_order met_at is_some
        fault-refused e = rw (own, next-is (Some end) ends, start_is own, end_is ends, e)

        pub group-passes : faulty g start end ≡ false → end ≤ count_in v → in_order (group_checks v g) behind ≡ behind
        unfolding group_checks in_order met_at is_some
        group-passes fair within =
            rw (own, next-is (Some end) ends, start_is own, end_is ends, fair, le-ltb (count_in v) end within)
