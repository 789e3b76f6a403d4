-- What the printer writes, from what building from the text answers and leaves in an output that is long enough for every image.
-- Assumes nothing.
use Rattle.std.proofs.Math.Path.{◌≡◌, sym, ap}
use Rattle.std.specs.Prelude.{refl, List, ◌++◌, ℕ, ◌≤◌, ◌<◌, drop}
use Rattle.std.proofs.Common.{◌∙◌, arith, lt-ltb, le-ltb}
use Rattle.std.proofs.Math.ListN.{length}
use Rattle.refusal.specs.Outcome.{Outcome, answered, refused, answered_by, followed_by, on_answer}
use Rattle.lists.specs.Written.{written_at}
use Rattle.lists.proofs.WrittenLaws.{written-first}
use Rattle.text.specs.Line.{line_length, pair_line}
use Rattle.text.proofs.LineLaws.{pair_line-length}
use Rattle.list.specs.Reading.{Listed}
use Rattle.image.specs.Sheet.{longest_image}
use Rattle.numbering.specs.Planning.{seed_taken}
use Rattle.numbering.proofs.WritingLaws.{image-length}
use Rattle.numbering.specs.Building.{building_of, buffer_after}
use Rattle.numbering.proofs.BuildingLaws.{building-roomy, buffer-kept, buffer-written, answered-size}
use Rattle.numbering.specs.FromText.{list_from_text, building_from_text, buffer_from_text}
use Rattle.printing.specs.Printing.{image_of_list, output_of, printed, printed_count, printed_into}

-- The output and the buffer, by what is read from the text: building is accepted,
module _ (before : List ℕ) (enough : longest_image ≤ length before) where
  abbrev buffer_of : Outcome Listed → List ℕ
  buffer_of o = on_answer o (λ listed. buffer_after listed.tags listed.groups listed.limit before) before

  list-built : (o : Outcome Listed) {size : ℕ}
      → followed_by o (λ listed. building_of listed.tags listed.groups listed.limit (length before)) ≡ answered size
      → (length (output_of (followed_by o image_of_list)) ≡ size)
      × (buffer_of o ≡ output_of (followed_by o image_of_list) ++ drop (length (output_of (followed_by o image_of_list))) before)
  unfolding followed_by image_of_list answered_by output_of on_answer
  list-built (answered listed) e =
      let tags = listed.tags in
      let groups = listed.groups in
      let limit = listed.limit in
      let same = sym (building-roomy tags groups limit (length before) enough) ∙ e in
      let size = image-length groups tags (seed_taken groups tags limit) ∙ sym (answered-size tags groups limit (length before) e) in
      rw same (size, buffer-written tags groups limit before e)
  list-built (refused number place) e = absurd (let z : ◌≡◌ {A = ℕ} 0 1 = cc in omega arith)

  -- or refuses.
  list-refused : (o : Outcome Listed) {number place : ℕ}
      → followed_by o (λ listed. building_of listed.tags listed.groups listed.limit (length before)) ≡ refused number place
      → (output_of (followed_by o image_of_list) ≡ pair_line number place) × (buffer_of o ≡ before)
  unfolding followed_by image_of_list answered_by output_of on_answer
  list-refused (answered listed) e =
      let tags = listed.tags in
      let groups = listed.groups in
      let limit = listed.limit in
      let same = sym (building-roomy tags groups limit (length before) enough) ∙ e in
      rw same (refl, buffer-kept tags groups limit before e)
  list-refused (refused n p) e = (cc, refl)

-- The answer, and the output.
abbrev pub Printed : List ℕ → List ℕ → ℕ → List ℕ → Type 0
Printed text before count after = (count ≡ printed_count text (length before)) × (after ≡ printed_into text before)

module _ (text before : List ℕ) where
  -- Into an output that is too short nothing is written.
  pub printed-nothing : length before < longest_image → Printed text before 0 before
  unfolding printed_count printed_into
  printed-nothing short = rw (lt-ltb (length before) longest_image short) (refl, refl)

  module _ (enough : longest_image ≤ length before) where
    -- Another gets all that is to be printed.
    printed-all : {count : ℕ} {after : List ℕ} → count ≡ length (printed text) → after ≡ printed text ++ drop (length (printed text)) before
        → Printed text before count after
    unfolding printed_count printed_into
    printed-all e e' = rw (le-ltb (length before) longest_image enough) (e, e')

    -- The image, as building left it.
    pub printed-built : {size : ℕ} {after : List ℕ} → building_from_text text (length before) ≡ answered size
        → after ≡ buffer_from_text text before → Printed text before size after
    unfolding building_from_text buffer_from_text printed
    printed-built e left =
        let (size, bytes) = list-built before enough (list_from_text text) e in
        printed-all (sym size) (left ∙ bytes)

    -- One line with the refusal, over what building left.
    pub printed-refused : {number place : ℕ} {left after : List ℕ} → building_from_text text (length before) ≡ refused number place
        → left ≡ buffer_from_text text before → after ≡ written_at 0 (pair_line number place) left → Printed text before line_length after
    unfolding building_from_text buffer_from_text printed
    printed-refused {number} {place} e kept line =
        let (output, same) = list-refused before enough (list_from_text text) e in
        let long = ap length output ∙ pair_line-length number place in
        printed-all (sym long) (line ∙ rw (kept ∙ same, output) (written-first (pair_line number place) before))
