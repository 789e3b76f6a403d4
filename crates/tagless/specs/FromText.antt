-- Building an index without tags from a list text, as the C boundary does. Assumes nothing.
use Rattle.std.specs.Prelude.{ℕ, List}
use Rattle.refusal.specs.Outcome.{Outcome, followed_by, on_answer}
use Rattle.numbering.specs.FromText.{list_from_text}
use Rattle.tagless.specs.Building.{tagless_building_of, tagless_after}

-- A text above 65,527 bytes is refused with 5 at place 0, then reading's refusals come, then building's, for the list that the text states
-- and a buffer of `room` bytes; and the buffer afterwards.
unfoldable pub tagless_from_text : List ℕ → ℕ → Outcome ℕ
tagless_from_text text room =
    followed_by (list_from_text text) (λ listed. tagless_building_of listed.tags listed.groups listed.limit room)

unfoldable pub tagless_buffer_from_text : List ℕ → List ℕ → List ℕ
tagless_buffer_from_text text before =
    on_answer (list_from_text text) (λ listed. tagless_after listed.tags listed.groups listed.limit before) before
