-- `parts::parts_under` meets its contract: the arrays state the group's keys and their labels, by which the parts are counted. Assumes
-- nothing.
use Prim.Native.Nat.{ℕ}
use mathlib.Core.Path.{◌≡◌, refl, ◌∙◌, ap}
use mathlib.Core.List.{List}
use lib.ListN.{length}
use Rattle.group.specs.Group.{group_under}
use Rattle.group.proofs.GroupLaws.{group-below}
use Rattle.places.specs.Array.{Candidates, keys_of}
use Rattle.candidates.specs.LaidLaws.{group-candidates, group-keys}
use Rattle.graph.specs.Parts.{parts_of}
use Rattle.tally.specs.Tally.{Graphed}
use Rattle.tally.specs.TallyLaws.{labels-below, parts-counted}
use Rattle.parts.proofs.parts_under.Goals as goal
use Rattle.parts.proofs.parts_under.Goals.{After-candidate_places, After-part_labels}

-- The cells once the places are laid out.
abbrev cells : After-candidate_places → List ℕ
cells c = c.candidate_places.new.places

stated : (c : After-candidate_places) → Candidates (cells c) (length c.args.tags.now)
stated c = group-candidates c.args.tags.now c.args.seed _ c.requires.0 refl c.candidate_places.ensures.cells

keys-are : (c : After-candidate_places) → keys_of (length c.args.tags.now) (cells c) ≡ group_under c.args.tags.now c.args.seed
keys-are c = group-keys c.args.tags.now c.args.seed _ c.requires.0 refl c.candidate_places.ensures.cells

pub part_labels-requires : goal.part_labels-requires
part_labels-requires c = (c.requires.0, stated (goal.at.part_labels-requires c).After-candidate_places, refl)

-- The labels are there.
graphed : (c : After-part_labels) → Graphed c.candidate_places.new.places c.part_labels.new.labels (length c.args.tags.now)
graphed c =
    let tags = c.args.tags.now in
    let seed = c.args.seed in
    let cells = c.candidate_places.ensures.cells in
    record {
      few = c.requires.0;
      stated = group-candidates tags seed _ c.requires.0 refl cells;
      below = rw (group-keys tags seed _ c.requires.0 refl cells) (group-below tags seed);
      labels-are = c.part_labels.ensures.cells;
    }

pub count_points-requires : goal.count_points-requires
count_points-requires c = let g = graphed (goal.at.count_points-requires c).After-part_labels in (g.few, labels-below g, refl)

pub count_edges-requires : goal.count_edges-requires
count_edges-requires c =
    let g = graphed (goal.at.count_edges-requires c).After-part_labels in (g.few, g.stated, labels-below g, refl)

pub returns : goal.returns
returns c =
    let at = goal.at.returns c in
    let counted = parts-counted (graphed at.After-part_labels) c.count_points.ensures.cells c.count_edges.ensures.cells _ _
    c.part_count.ensures.answer c.has_more_edges.ensures.answer in
    record { answer = counted ∙ ap (parts_of (length c.args.tags.now)) (keys-are at.After-candidate_places) }
