-- B and the seeds of a plan, and images under seeds that agree. Assumes nothing.
use Rattle.std.specs.Prelude.{◌≡◌, List, [], ◌∷◌, ℕ, suc, ◌-◌, ◌≤◌, ◌<◌, length, replicate}
use Rattle.std.proofs.Math.Path.{refl}
use Rattle.std.proofs.Common.{◌∙◌}
use native.Mathlib.Omega.{arith}
use Rattle.std.proofs.Math.ListN.{length-append, length-replicate, get_or-append}
use Rattle.refusal.specs.Limits.{groups_max}
use Rattle.lists.specs.UpTo.{up_to}
use Rattle.lists.proofs.UpToLaws.{up_to-length, up_to-at}
use Rattle.hash.proofs.FormulaLaws.{group-below}
use Rattle.hash.specs.Formula.{group_of}
use Rattle.image.proofs.SheetLaws.{bytes-agree}
use Rattle.numbering.specs.Number.{number_of, tag_numbered}
use Rattle.numbering.specs.Plan.{plan_of, planned_groups, planned_seed, no_plan}
use Rattle.numbering.specs.Writing.{sheet_of, choices_under, image_under}

module _ (groups : ℕ) (seed : ℕ → ℕ) where
  pub plan-groups : planned_groups (plan_of groups seed) ≡ groups
  unfolding planned_groups plan_of
  plan-groups = refl

  pub plan-seed : (g : ℕ) → g < groups → planned_seed (plan_of groups seed) g ≡ seed g
  unfolding planned_seed plan_of
  plan-seed g lt =
      get_or-append (up_to groups seed) (replicate (groups_max - groups) 0) 0 g (omega (arith, up_to-length groups seed))
      ∙ up_to-at groups seed 0 g lt

  pub plan-length : groups ≤ groups_max → length (plan_of groups seed) ≡ suc groups_max
  unfolding plan_of
  plan-length le =
      omega (
        arith,
        length-append (up_to groups seed) (replicate (groups_max - groups) 0),
        up_to-length groups seed,
        length-replicate {A = ℕ} (groups_max - groups) 0,
      )

-- The plan of a refused planning has no groups.
pub no-plan-groups : planned_groups no_plan ≡ 0
unfolding planned_groups
no-plan-groups = refl

-- The tag with a number, by numberings that agree.
numbered-agree : (f h : ℕ → ℕ) → ((t : ℕ) → f t ≡ h t) → (tags : List ℕ) (j : ℕ) → tag_numbered f tags j ≡ tag_numbered h tags j
unfolding tag_numbered
numbered-agree f h same [] j = refl
numbered-agree f h same (t ∷ ts) j = rw (same t, numbered-agree f h same ts j)

-- Under seeds that agree for all groups the image is the same.
pub image-agree : (groups : ℕ) (tags : List ℕ) (seed other : ℕ → ℕ) → 0 < groups
    → ((g : ℕ) → g < groups → seed g ≡ other g) → image_under groups tags seed ≡ image_under groups tags other
unfolding image_under sheet_of number_of choices_under
image-agree groups tags seed other some-group same =
    bytes-agree (sheet_of groups tags seed (choices_under groups tags seed)) (sheet_of groups tags other (choices_under groups tags other))
    (record {
      count = refl;
      groups = refl;
      start = λ g lt. refl;
      seed = same;
      slot = λ j lt. numbered-agree (number_of groups tags seed (choices_under groups tags seed))
          (number_of groups tags other (choices_under groups tags other)) number_same tags j;
    })
  where
    number_same : (t : ℕ) → number_of groups tags seed (choices_under groups tags seed) t
        ≡ number_of groups tags other (choices_under groups tags other) t
    number_same t = rw (same (group_of groups t) (group-below groups t some-group))
