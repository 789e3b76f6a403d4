-- The order of the refusals of counting parts, each where the next one is due too, and small groups, by computation. Assumes nothing.
use Rattle.std.specs.Prelude.{◌≡◌, refl, true, false, List, [], ◌∷◌, ℕ, suc, replicate}
use Rattle.refusal.specs.Limits.{group_max, seed_max}
use Rattle.refusal.specs.Outcome.{answered, refused}
use Rattle.lists.specs.UpTo.{up_to}
use Rattle.lists.specs.First.{first, met_at, is_some}
use Rattle.refusal.specs.Checks.{met, in_order}
use Rattle.hash.specs.Formula.{product, high_part, hashed, multiplier, place_of}
use Rattle.filling.specs.Filling.{place_by}
use Rattle.group.specs.Group.{both_places, candidates}
use Rattle.group.specs.Ascending.{not_above}
use Rattle.group.specs.Unwired.{starts_unwired}
use Rattle.graph.specs.HowMany.{one, how_many}
use Rattle.graph.specs.Graph.{connected}
use Rattle.graph.specs.Parts.{part_points, part_edges, more_edges, lowest, parts_of}
use Rattle.counting.specs.Counting.{counting_checks, counting_of}

-- `unfolding computed` opens every definition that these compute through.
computed : ℕ
unfolding first met_at is_some met in_order up_to product high_part hashed multiplier place_of place_by both_places candidates
    not_above
    starts_unwired one how_many connected part_points part_edges more_edges lowest parts_of counting_checks counting_of
computed = 0

-- Tag 0, once more than a group holds tags: too many tags, not ascending, and the first tag is 0.
abbrev too_many : List ℕ
too_many = replicate (suc group_max) 0

two-before-five : counting_of too_many (suc seed_max) ≡ refused 2 0
unfolding computed
two-before-five = refl

five-before-six : counting_of too_many seed_max ≡ refused 5 0
unfolding computed
five-before-six = refl

two-before-six : counting_of (0 ∷ 0 ∷ []) (suc seed_max) ≡ refused 2 0
unfolding computed
two-before-six = refl

-- Tag 0 twice.
six-before-seventeen : counting_of (0 ∷ 0 ∷ []) seed_max ≡ refused 6 1
unfolding computed
six-before-seventeen = refl

seventeen-last : counting_of (0 ∷ 7 ∷ []) 0 ≡ refused 17 0
unfolding computed
seventeen-last = refl

-- {1, 3} under seed 1: 1 has place 0 twice, 3 has 0 and 1, so that there is one part, with two points and two edges.
equal-places : counting_of (1 ∷ 3 ∷ []) 1 ≡ answered (record { serves = true; number = 1 })
unfolding computed
equal-places = refl

-- Under seed 0 both have place 1 twice: that part has two edges and one point. Place 0, which no tag has, is a part of its own. The
-- whole graph has as many edges as points.
pub untouched-place : counting_of (1 ∷ 3 ∷ []) 0 ≡ answered (record { serves = false; number = 2 })
unfolding computed
untouched-place = refl

-- {599, 1193} under seed 0: both have places 0 and 1, which is a cycle.
equal-pairs : counting_of (599 ∷ 1193 ∷ []) 0 ≡ answered (record { serves = true; number = 1 })
unfolding computed
equal-pairs = refl
