-- For a list text that states tag 0 the printer writes no image: one refusal line. Assumes nothing.
use Rattle.std.specs.Prelude.{◌≡◌, refl, true, List, ℕ}
use Rattle.refusal.specs.Limits.{unwired}
use Rattle.refusal.specs.Outcome.{Outcome, answered, refused, answered_by}
use Rattle.refusal.proofs.OutcomeLaws.{followed-answered}
use Rattle.lists.specs.Occurs.{occurs}
use Rattle.lists.proofs.OccursLaws.{occurs-not}
use Rattle.text.specs.Line.{pair_line}
use Rattle.list.specs.Reading.{Listed}
use Rattle.image.specs.Sheet.{longest_image}
use Rattle.numbering.specs.Building.{building_of}
use Rattle.numbering.proofs.UnwiredLaws.{building-wired}
use Rattle.numbering.specs.FromText.{list_from_text}
use Rattle.printing.specs.Printing.{image_of_list, output_of, printed}

pub printed-unwired : (text : List ℕ) {listed : Listed} → list_from_text text ≡ answered listed → occurs unwired listed.tags ≡ true
    → (number : ℕ) × (place : ℕ) × (printed text ≡ pair_line number place)
unfolding printed image_of_list answered_by output_of
printed-unwired text {listed} read there =
    rw (followed-answered image_of_list read) (go (building_of listed.tags listed.groups listed.limit longest_image) refl)
  where
    go : (o : Outcome ℕ) → building_of listed.tags listed.groups listed.limit longest_image ≡ o
        → (number : ℕ) × (place : ℕ) × (output_of (image_of_list listed) ≡ pair_line number place)
    go (answered size) e = absurd (occurs-not unwired listed.tags there (building-wired _ _ _ _ e))
    go (refused number place) e = (number, place, rw e)
