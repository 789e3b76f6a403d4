-- Lookup as it is defined says so. Assumes nothing.
use Rattle.std.specs.Prelude.{◌≡◌, refl, Bool, true, false, List, ℕ, eqb}
use Rattle.std.proofs.Common.{inl, inr, arith, eqb-true}
use Rattle.std.proofs.lemmas.Bool.{eqb-false}
use Rattle.refusal.specs.Outcome.{answered}
use Rattle.refusal.proofs.ChecksLaws.{in_order-answered}
use Rattle.image.specs.View.{start_in, end_in}
use Rattle.image.specs.Lookup.{number, unknown}
use Rattle.image.specs.LinesRead.{own_group}
use Rattle.image.proofs.UnwiredLaws.{by-wired}
use Rattle.tagless_image.specs.View.{tagless_view}
use Rattle.tagless_image.specs.Checking.{tagless_checks, tagless_checking_of}
use Rattle.tagless_image.specs.Lookup.{tagless_lookup_of}
use Rattle.tagless_image.proofs.LookupLaws.{lookup-below}
use Rattle.tagless_image.proofs.CheckedLaws.{Sound, sound-of-pass, groups-some, sound-unwired, sound_empty, sound-number}
use Rattle.tagless_lookup.specs.Checked.{Numberless, TaglessCondition2}

-- How a lookup in a checked image ends: it misses a tag that has no number, and finds one for any other.
data Ends (image : List ℕ) (t : ℕ) : Type 0 where
  missed : Numberless image t → tagless_lookup_of image t ≡ answered unknown → Ends image t
  found : (Numberless image t → ⊥) → (j : ℕ) → tagless_lookup_of image t ≡ answered (number j) → Ends image t

module _ (image : List ℕ) (t : ℕ) {a : ℕ} (accepted : tagless_checking_of image ≡ answered a) where
  sound : Sound (tagless_view image)
  unfolding tagless_checking_of
  sound = sound-of-pass (tagless_view image) (in_order-answered (tagless_checks (tagless_view image)) (answered 0) accepted).0

  ends : Ends image t
  ends = by-wired t
      (λ zero. missed (inl zero) (rw zero (sound-unwired image sound)))
      (λ wired. go wired (eqb (start_in (tagless_view image) own) (end_in (tagless_view image) own)) refl)
    where
      own : ℕ
      own = own_group (tagless_view image) t

      go : (t ≡ 0 → ⊥) → (b : Bool) → eqb (start_in (tagless_view image) own) (end_in (tagless_view image) own) ≡ b → Ends image t
      go wired true e =
          let empty = eqb-true _ _ e in
          missed (inr empty) (sound_empty image sound (groups-some image sound) t wired empty)
      go wired false e =
          let filled = eqb-false _ _ e in
          found (neither wired filled) _ (sound-number image sound (groups-some image sound) t wired filled)
        where
          neither : (t ≡ 0 → ⊥) → (start_in (tagless_view image) own ≡ end_in (tagless_view image) own → ⊥) → Numberless image t → ⊥
          neither wired filled (inl zero) = wired zero
          neither wired filled (inr empty) = filled empty

pub lookup-condition2 : (image : List ℕ) (t : ℕ) → TaglessCondition2 image t (tagless_lookup_of image t)
lookup-condition2 image t = record {
  below = λ accepted j e. lookup-below image t j e;
  misses = λ accepted. misses (ends image t accepted);
  finds = λ accepted. finds (ends image t accepted);
}
  where
    misses : Ends image t → (tagless_lookup_of image t ≡ answered unknown → Numberless image t)
        × (Numberless image t → tagless_lookup_of image t ≡ answered unknown)
    misses (missed none e) = (λ f. none, λ h. e)
    misses (found other j e) = (λ f. absurd (let z : ◌≡◌ {A = ℕ} 0 1 = cc in omega arith), λ h. absurd (other h))

    finds : Ends image t → (Numberless image t → ⊥) → (j : ℕ) × (tagless_lookup_of image t ≡ answered (number j))
    finds (missed none e) never = absurd (never none)
    finds (found other j e) never = (j, e)
