-- `word::word_under` meets its contract: the array states the group's keys, and the sequence taken for these is the group's.
-- Assumes nothing.
use mathlib.Core.Path.{◌≡◌, refl, sym}
use mathlib.Core.List.{List}
use Prim.Native.Nat.{ℕ}
use lib.ListN.{length}
use Rattle.places.specs.Array.{Candidates, keys_of}
use Rattle.group.specs.Group.{group_under, word_under}
use Rattle.candidates.specs.LaidLaws.{group-candidates, group-keys}
use Rattle.word.proofs.word_under.Goals as goal
use Rattle.word.proofs.word_under.Goals.{After-candidate_places}

-- The cells once the places are laid out.
abbrev cells : After-candidate_places → List ℕ
cells c = c.candidate_places.new.places

laid : (c : After-candidate_places)
    → Candidates (cells c) (length c.args.tags.now) × (keys_of (length c.args.tags.now) (cells c) ≡ group_under c.args.tags.now c.args.seed)
laid c =
    let tags = c.args.tags.now in
    let seed = c.args.seed in
    let few = c.requires.0 in
    let cells = c.candidate_places.ensures.cells in
    (group-candidates tags seed _ few refl cells, group-keys tags seed _ few refl cells)

pub slice_bounds-choices_taken-end : goal.slice_bounds-choices_taken-end
slice_bounds-choices_taken-end c = sym (laid (goal.at.slice_bounds-choices_taken-end c).After-candidate_places).0.size

pub choices_taken-requires : goal.choices_taken-requires
choices_taken-requires c = (c.requires.0, (laid (goal.at.choices_taken-requires c).After-candidate_places).0)

pub returns : goal.returns
unfolding word_under
returns c = record { answer = rw (laid (goal.at.returns c).After-candidate_places).1 at c.choices_taken.ensures.answer }
