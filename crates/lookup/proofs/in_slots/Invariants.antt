-- What the loops of `lookup::in_slots` keep true. Assumes nothing.
use mathlib.Core.Path.{◌≡◌}
use mathlib.Core.List.{List}
use Prim.Native.Nat.{ℕ, ◌-◌, ◌≤◌}
use Rattle.image.specs.View.{view_of}
use Rattle.lookup.specs.Steps.{slots_of, slots_from}
use Rattle.lookup.proofs.in_slots.Given as goal

-- The slots of the choices before this one do not hold the tag, so the answer is what is left to look at.
pub record Left (image : List ℕ) (start end seed t choice : ℕ) : Type 0 where
  pub few : choice ≤ 2
  pub left : slots_of (view_of image) start end seed t ≡ slots_from (view_of image) start (end - start) seed t choice

abbrev pub invariant-loop-choice : goal.invariant-loop-choice
invariant-loop-choice l = Left l.image l.start l.end l.seed l.tag l.choice
