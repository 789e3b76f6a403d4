-- The answers of the strict check keep apart all outcomes that it can come to. Assumes nothing.
use Rattle.std.specs.Prelude.{◌≡◌, refl, ◌↔◌, Bool, true, false, cond, List, [], ◌∷◌, ℕ, ◌/◌, ◌%◌, eqb, ltb}
use Rattle.std.proofs.Common.{sym, ◌∙◌, arith, eqb-true, eq-eqb}
use Rattle.refusal.specs.Limits.{tag_end}
use Rattle.refusal.specs.Outcome.{Outcome, answered, refused}
use Rattle.lists.specs.First.{first}
use Rattle.refusal.proofs.ChecksLaws.{◌then◌, in_order-answered}
use Rattle.refusal.proofs.PlaceLaws.{PlaceBelow, below-checks, first_below, numbered-checks}
use Rattle.image.specs.View.{view_of, groups_in}
use Rattle.image.specs.Checking.{opening_checks, number_checks, checking_checks, checking_of}
use Rattle.strict.specs.AsBuilt.{not_as_built}
use Rattle.strict.specs.StrictCheck.{strict_checks, strict_check_of}
use Rattle.strict.proofs.RebuiltLaws.{held-earlier}
use Rattle.strict.proofs.StrictTheorem.{nineteen-decides, refused-first}
use Rattle.answer64.specs.Answer64.{outcome64}
use Rattle.answer64.proofs.Answer64Laws.{Fits, fits-of, answers-apart}
use Rattle.opening.specs.PlaceLaws.{image_lines, checking-place}
use Rattle.strict_condition.specs.Condition.{Ours}
use Rattle.calls_strict.specs.Strict.{strict_check_answer, StrictAnswerCondition}

-- A refusal names a line or a slot, as checking's do, or a group.
pub strict_place : (image : List ℕ) → PlaceBelow image_lines (strict_check_of image)
unfolding checking_of
strict_place image = go (checking_of image) refl
  where
    go : (o : Outcome ℕ) → checking_of image ≡ o → PlaceBelow image_lines (strict_check_of image)
    go (refused reason place) e = rw (refused-first image reason place e) (rw e at (checking-place image))
    go (answered a) e =
        let accepted : checking_of image ≡ answered 0 = e ∙ sym (in_order-answered (checking_checks (view_of image)) (answered 0) e).1 in
        let groups = groups_in (view_of image) in
        rw (nineteen-decides image accepted)
        (below-checks image_lines ((19, first (not_as_built (view_of image)) groups) ∷ []) (answered 0)
        ((λ _. first_below image_lines (not_as_built (view_of image)) groups (omega (arith, (held-earlier image accepted).groups-legal.1)))
        then tt)
        (λ _. tt))

pub strict-fits : (image : List ℕ) → Fits (strict_check_of image)
unfolding strict_check_of strict_checks checking_checks number_checks opening_checks
strict-fits image =
    fits-of image_lines (strict_check_of image) (omega arith) (strict_place image)
    (numbered-checks (strict_checks (view_of image)) (answered 0) refl tt)
    (λ n e. let told = (in_order-answered (strict_checks (view_of image)) (answered 0) e).1 in let z : 0 ≡ n = cc in omega arith)

-- Calls with one answer came to one outcome.
pub strict_apart : (image image' : List ℕ) → strict_check_answer image ≡ strict_check_answer image'
    → strict_check_of image ≡ strict_check_of image'
unfolding strict_check_answer
strict_apart image image' = answers-apart _ _ (strict-fits image) (strict-fits image')

-- An answer is taken apart into 0 exactly if it is 0, so that it says whether the image is one of ours.
accepted-zero : (r : ℕ) → outcome64 r ≡ answered 0 → r ≡ 0
unfolding outcome64
accepted-zero r = go (ltb r tag_end)
  where
    go : (small : Bool) → cond small (answered r) (refused (r / tag_end) (r % tag_end)) ≡ answered 0 → r ≡ 0
    go true e = cc
    go false e = absurd (let z : ◌≡◌ {A = ℕ} 0 1 = cc in omega arith)

pub zero-ours : (image : List ℕ) (r : ℕ) → StrictAnswerCondition image r → (eqb r 0 ≡ true) ↔ Ours image
unfolding outcome64
zero-ours image r condition = (
  λ e. let zero = eqb-true r 0 e in condition.ours.0 (rw zero),
  λ ours. eq-eqb r 0 (accepted-zero r (condition.ours.1 ours)),
)
