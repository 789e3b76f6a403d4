-- Lookup of tag 0, which belongs to nobody: it reads line 0 alone and finds nothing. Assumes nothing.
use Rattle.std.specs.Prelude.{◌≡◌, Bool, true, false, List, ℕ, eqb}
use Rattle.std.proofs.Math.Path.{refl}
use Rattle.std.proofs.Common.{sym, ◌∙◌, arith, eqb-true, ne_eqb}
use Rattle.std.proofs.lemmas.Bool.{eqb-false}
use Rattle.refusal.specs.Limits.{unwired}
use Rattle.refusal.specs.Outcome.{answered}
use Rattle.refusal.specs.Checks.{in_order}
use Rattle.refusal.proofs.ChecksLaws.{in_order-answered}
use Rattle.image.specs.View.{view_of}
use Rattle.image.specs.Checking.{opening_checks}
use Rattle.image.specs.Lookup.{number, unknown, lookup_in_group, lookup_of}
use Rattle.image.specs.LinesRead.{own_group}

-- A tag is 0 or not.
pub by-wired : {A : Type 0} (t : ℕ) → (t ≡ unwired → A) → ((t ≡ unwired → ⊥) → A) → A
by-wired {A} t zero other = go (eqb t unwired) refl
  where
    go : (b : Bool) → eqb t unwired ≡ b → A
    go true e = zero (eqb-true t unwired e)
    go false e = other (eqb-false t unwired e)

module _ (image : List ℕ) where
  -- "Looking up 0 answers unknown once line 0 and the length have passed",
  pub lookup-unwired : lookup_of image unwired ≡ in_order (opening_checks (view_of image)) (answered unknown)
  unfolding lookup_of
  lookup-unwired = refl

  -- and any other tag is looked up in its group.
  pub lookup-wired : (t : ℕ) → (t ≡ unwired → ⊥) → lookup_of image t ≡ lookup_in_group (view_of image) t (own_group (view_of image) t)
  unfolding lookup_of
  lookup-wired t wired = rw (ne_eqb t unwired wired)

  -- Looking up 0 never gives a number, in any bytes at all.
  pub unwired-unanswered : (j : ℕ) → lookup_of image unwired ≡ answered (number j) → ⊥
  unwired-unanswered j e =
      let behind = (in_order-answered (opening_checks (view_of image)) (answered unknown) (sym lookup-unwired ∙ e)).1 in
      let z : ◌≡◌ {A = ℕ} 0 1 = cc in
      omega arith
