-- `candidates::candidate_places` meets its contract: the first places, and behind them the second. Assumes nothing.
use Prim.Native.Nat.{ℕ}
use mathlib.Core.Path.{◌≡◌, refl, ◌∙◌}
use mathlib.Core.Bool.{Bool, true, false}
use mathlib.Core.List.{List, [], ◌∷◌, map}
use native.Mathlib.Omega.{arith}
use lib.ListN.{length, length-map}
use lib.Seq.{length-paste}
use Rattle.hash.specs.Formula.{hashed, multiplier, place_of}
use Rattle.filling.specs.Filling.{place_by}
use Rattle.filling.specs.Word.{choice_number}
use Rattle.places.specs.Array.{places_by, laid_into}
use Rattle.group.specs.Group.{both_places, candidates}
use Rattle.group.proofs.GroupLaws.{candidates-length}
use Rattle.candidates.proofs.candidate_places.Goals as goal

-- Under one choice, the candidate places of tags are the tags hashed by the choice's multiplier.
places_by-hashed : (choice : Bool) (n s : ℕ) (tags : List ℕ)
    → map (hashed (multiplier s (choice_number choice)) n) tags ≡ places_by choice (candidates n s tags)
unfolding places_by candidates both_places place_by place_of choice_number
places_by-hashed choice n s [] = refl
places_by-hashed false n s (t ∷ tags) = rw (places_by-hashed false n s tags)
places_by-hashed true n s (t ∷ tags) = rw (places_by-hashed true n s tags)

pub lay-requires-2 : goal.lay-requires-2
lay-requires-2 c =
    let a = c.args in
    let f = hashed c.multiplier.result a.n in
    let kept =
    length-paste a.places.now 0 (map f a.tags.now) (length a.tags.now) (omega arith)
    (omega (arith, length-map a.tags.now f)) in
    (omega arith, omega arith, rw c.lay.ensures.cells (kept ∙ omega arith))

pub returns : goal.returns
unfolding laid_into choice_number
returns c =
    let a = c.args in
    record {
      cells = rw (
        c.lay-2.ensures.cells,
        c.lay.ensures.cells,
        c.multiplier-2.ensures.answer,
        c.multiplier.ensures.answer,
        candidates-length a.n a.seed a.tags.now,
        ← places_by-hashed false a.n a.seed a.tags.now,
        ← places_by-hashed true a.n a.seed a.tags.now,
      );
    }
