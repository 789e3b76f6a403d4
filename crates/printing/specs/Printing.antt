-- What the index printer writes. Assumes nothing.
use Rattle.std.specs.Prelude.{ℕ, cond, List, ◌++◌, ltb, length, drop}
use Rattle.refusal.specs.Outcome.{Outcome, answered, refused, answered_by, followed_by}
use Rattle.text.specs.Line.{pair_line}
use Rattle.list.specs.Reading.{Listed}
use Rattle.image.specs.Sheet.{longest_image}
use Rattle.numbering.specs.Building.{building_of, image_of}
use Rattle.numbering.specs.FromText.{list_from_text}

-- The image that a list states, in a buffer that is long enough for every image, so that 9 never comes.
unfoldable pub image_of_list : Listed → Outcome (List ℕ)
image_of_list listed =
    answered_by (λ size. image_of listed.groups listed.tags listed.limit)
    (building_of listed.tags listed.groups listed.limit longest_image)

-- "It writes the image with B and L as given, or one line with the refusal number and the place in five columns each."
unfoldable pub output_of : Outcome (List ℕ) → List ℕ
output_of (answered image) = image
output_of (refused number place) = pair_line number place

-- What the printer writes for an input: "Reading's refusals come before building's. Input above 65,527 bytes is refused with 5 at
-- place 0, unexamined."
unfoldable pub printed : List ℕ → List ℕ
printed text = output_of (followed_by (list_from_text text) image_of_list)

-- What is written at the beginning of an output of `room` bytes, and how many bytes. An output that is shorter than the longest image
-- gets nothing.
unfoldable pub printed_count : List ℕ → ℕ → ℕ
printed_count text room = cond (ltb room longest_image) 0 (length (printed text))

unfoldable pub printed_into : List ℕ → List ℕ → List ℕ
printed_into text before = cond (ltb (length before) longest_image) before (printed text ++ drop (length (printed text)) before)
