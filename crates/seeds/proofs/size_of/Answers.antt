-- `seeds::size_of` meets its contract: the table has the numbers from 0 up to the most tags of a group. Assumes nothing.
use Prim.Native.Nat.{suc, ◌<◌}
use mathlib.Core.Path.{◌∙◌}
use native.Mathlib.Omega.{arith}
use lib.ListN.{length}
use Rattle.refusal.specs.Limits.{group_max}
use Rattle.lists.specs.UpTo.{up_to}
use Rattle.lists.proofs.UpToLaws.{up_to-at}
use Rattle.seeds.proofs.size_of.Goals as goal

pub returns : goal.returns
unfolding up_to
returns c =
    let size = length c.args.tags.now in
    let listed : size < suc group_max = omega arith in
    record { answer = up_to-at (suc group_max) (λ k. k) 0 size listed ∙ omega arith }
