-- `plan::state_plan` meets its contract: the seeds stand behind B. Assumes nothing.
use Prim.Native.Nat.{ℕ, suc, ◌+◌}
use Rattle.std.specs.Prelude.{◌≡◌, refl, List, [], ◌∷◌, length, set}
use Rattle.std.proofs.Common.{◌∙◌, arith}
use Rattle.std.proofs.lemmas.Slice.{put_mid-paste}
use mathlib.Core.List.{append-nil}
use lib.ListN.{drop_of_length-le}
use lib.Seq.{paste, take-length}
use Rattle.plan.proofs.state_plan.Goals as goal

-- All seeds behind B.
stated : (groups : ℕ) (seeds before : List ℕ) → length before ≡ suc (length seeds)
    → paste (set before 0 groups) 1 seeds (length seeds) ≡ groups ∷ seeds
stated groups seeds [] long = absurd (omega arith)
stated groups seeds (b ∷ before) long =
    let behind : 1 + length seeds ≡ suc (length seeds) = omega arith in
    let nothing = drop_of_length-le before {i = length seeds} (omega arith) in
    rw (take-length seeds, behind, nothing) (append-nil (groups ∷ seeds))

pub returns : goal.returns
returns c =
    let a = c.args in
    let laid = put_mid-paste 1 512 (set a.plan.now 0 a.groups) _ a.seeds.now (length a.seeds.now) c.copy_from_slice.ensures.after
    c.requires.0 refl in
    record { cells = laid ∙ stated a.groups a.seeds.now a.plan.now (omega (arith, c.requires)) }
